-- The bound of the image of a program is the one for the costs of its cells.
use Rattle.std.proofs.Common.{◌≡◌, ℕ, ◌-◌, ◌*◌, ◌<◌, List, [], map, option_map, length, sum_by, refl, sym, ap, ◌∙◌, arith}
use Rattle.std.proofs.lemmas.List.FromFn.{fill_by_all}
use Rattle.std.proofs.lemmas.Option.{get_or_from_slice_get, slice_get-map}
use Rattle.sys_base.specs.Grid.{cell_count}
use Rattle.cell_code.specs.Marks.{groups_of, hops, message_of}
use Rattle.cell_types.specs.Code.{CellCode, End, ProgramCode}
use Rattle.cell_types.specs.Communications.{length_of}
use Rattle.cell_types.specs.Cost.{block_cost, cells_cost}
use Rattle.cell_types.specs.Groups.{below, bound, forwards, group_count, groups_on, route, routes_of}
use Rattle.cell_types.specs.Resolved.{cell_with}
use Rattle.cell_types.specs.Solo.{code_of}
use Rattle.cell_types.specs.Sound.{IsSound}
use Rattle.cell_types.specs.declared.program.Message.{Message}
use Rattle.array_model.specs.Regular.{bound_for}
use Rattle.program_image.specs.ImageOf.{image_of, messages_of}
use Rattle.program_image.proofs.Links.{groups_long}
use Rattle.program_image.proofs.Lists.{sum_made, sum_same, there}
use Rattle.program_image.proofs.Messages.{many, message_is}

-- what a cell of a program costs
abbrev pub cost_of : ProgramCode → ℕ → ℕ
cost_of program cell = block_cost (code_of program cell).body

module _ (program : ProgramCode) (labels : List ℕ) (sound : IsSound program)
    (long : length labels ≡ length program.messages) where
  costs : cells_cost program ≡ sum_by (cost_of program) (below (cell_count program.grid))
  costs =
      let is : program.cells ≡ map (code_of program) (below (length program.cells)) =
      fill_by_all (code_of program) program.cells (length program.cells) (cell_with 0 End) refl (λ k l. refl) in
      ap (sum_by (λ (c : CellCode). block_cost c.body)) is
      ∙ sum_made (λ (c : CellCode). block_cost c.body) (code_of program) (below (length program.cells))
      ∙ ap (λ n. sum_by (cost_of program) (below n)) sound.all

  moved : (m : ℕ) → m < length program.messages
      → length_of program m * (length (route program m) - 1)
      ≡ (message_of (image_of program labels) m).length * (hops (image_of program labels) m - 1)
  moved m h =
      let x = there program.messages m h in
      let is = message_is program labels m x.0 x.1 in
      let e : route program m ≡ x.0.route =
      get_or_from_slice_get (routes_of program) m x.0.route []
      (slice_get-map (λ (y : Message). y.route) program.messages m ∙ ap (λ o. option_map (λ (y : Message). y.route) o) x.1) in
      ap (λ r. length_of program m * (length r - 1)) e ∙ sym (ap (λ y. y.length * (length y.route - 1)) is)

  moves : forwards program
      ≡ sum_by (λ m. (message_of (image_of program labels) m).length * (hops (image_of program labels) m - 1))
      (below (length (messages_of program labels)))
  moves =
      let f : ℕ → ℕ = λ m. length_of program m * (length (route program m) - 1) in
      let g : ℕ → ℕ = λ m. (message_of (image_of program labels) m).length * (hops (image_of program labels) m - 1) in
      sum_same f g 0 (length program.messages) (λ k low high. moved k (omega (arith, high)))
      ∙ ap (λ n. sum_by g (below n)) (sym (many program labels))

  all_groups : group_count program labels
      ≡ sum_by (λ l. length (groups_of (image_of program labels) l)) (below (4 * cell_count program.grid))
  all_groups =
      sum_same (λ l. length (groups_on program labels l)) (λ l. length (groups_of (image_of program labels) l)) 0
      (4 * cell_count program.grid) (λ k low high. sym (groups_long program labels long k (omega (arith, high))))

  pub bound_is : bound program labels ≡ bound_for (image_of program labels) (cost_of program)
  bound_is = omega (arith, costs, moves, all_groups)
