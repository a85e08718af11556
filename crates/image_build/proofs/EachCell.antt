-- The images of cells.
use Rattle.std.proofs.Common.{◌≡◌, ℕ, ◌+◌, ◌<◌, List, [], ◌∷◌, ◌++◌, Some, map, option_map, length, get_or, slice_get, slice_index, refl, sym, ap, subst, ◌∙◌, arith}
use Rattle.std.proofs.lemmas.List.{length-map}
use Rattle.std.proofs.lemmas.List.FromFn.{get_or-map-range_with_len, length-map-range_with_len, map-range_with_len_more}
use Rattle.std.proofs.lemmas.Option.{get_or_from_slice_get, slice_get-map, slice_get_read}
use Rattle.sys_base.specs.Grid.{cell_count}
use Rattle.cell_code.specs.declared.image.CellImage.{CellImage}
use Rattle.cell_code.specs.declared.instruction.Instr.{Instr}
use Rattle.cell_types.specs.Code.{ProgramCode, CellCode, End}
use Rattle.cell_types.specs.Communications.{communications, emits_of, takes_of}
use Rattle.cell_types.specs.Groups.{below}
use Rattle.cell_types.specs.Resolved.{cell_with}
use Rattle.cell_types.specs.Solo.{code_of}
use Rattle.cell_types.specs.Sound.{IsSound}
use Rattle.cell_types.specs.Typed.{Contents, plain, plain_cell}
use Rattle.cell_types.specs.declared.cell.Cell.{Cell}
use Rattle.comm_sequence.specs.Sequences.{Sequences, comms, sequences_of}
use Rattle.cell_codegen.specs.Emission.{body_code}
use Rattle.program_image.specs.ImageOf.{cell_of}

module _ (program : Contents) where
  abbrev p : ProgramCode
  p = plain program

  pub as_many : length p.cells ≡ length program.cells
  as_many = length-map program.cells plain_cell

  pub in_grid : (cell : ℕ) → IsSound p → cell < length program.cells → cell < cell_count program.grid
  in_grid cell sound inside = omega (arith, as_many, sound.all, inside)

  pub in_lists : (s : Sequences) (cell : ℕ) → s ≡ sequences_of p → cell < length program.cells → cell < length s.lists
  in_lists s cell seqs inside =
      let long = length-map-range_with_len (λ cell. comms (communications p cell)) 0 (length p.cells) in
      let long : length (sequences_of p).lists ≡ length p.cells = long in
      subst (λ (s : Sequences). cell < length s.lists) (sym seqs) (omega (arith, long, as_many, inside))

  -- the code of a cell that stands at its index
  code_at : (cell : ℕ) (x : Cell) → cell < length program.cells → x ≡ get_or program.cells cell x
      → code_of p cell ≡ plain_cell x
  code_at cell x inside is =
      let at : slice_get program.cells cell ≡ Some x = slice_get_read program.cells (length program.cells) cell x refl inside is in
      get_or_from_slice_get p.cells cell (plain_cell x) (cell_with 0 End)
      (slice_get-map plain_cell program.cells cell ∙ ap (option_map plain_cell) at)

  pub cell_is : (s : Sequences) (cell : ℕ) (x : Cell) (takes emits : ℕ) (code : List Instr)
      → s ≡ sequences_of p → cell < length program.cells → x ≡ get_or program.cells cell x
      → takes ≡ slice_index s.takes cell → emits ≡ slice_index s.emits cell → code ≡ body_code (code_of p cell).body
      → record { takes = takes; emits = emits; words = x.words; counters = x.counters; stack = x.stack; code = code }
      ≡ cell_of p cell
  cell_is s cell x takes emits code seqs inside is takes_is emits_is code_is =
      let e : 0 + cell ≡ cell = omega arith in
      let within : cell < length p.cells = omega (arith, as_many, inside) in
      let t : takes ≡ takes_of p cell =
      takes_is ∙ ap (λ (s : Sequences). slice_index s.takes cell) seqs
      ∙ get_or-map-range_with_len (takes_of p) 0 (length p.cells) cell cell 0 within e in
      let m : emits ≡ emits_of p cell =
      emits_is ∙ ap (λ (s : Sequences). slice_index s.emits cell) seqs
      ∙ get_or-map-range_with_len (emits_of p) 0 (length p.cells) cell cell 0 within e in
      let its = sym (code_at cell x inside is) in
      let put : (t m : ℕ) → CellCode → List Instr → CellImage =
      λ t m (y : CellCode) code. record { takes = t; emits = m; words = y.words; counters = y.counters; stack = y.stack; code = code } in
      ap (λ t. put t emits (plain_cell x) code) t
      ∙ ap (λ m. put (takes_of p cell) m (plain_cell x) code) m
      ∙ ap (λ (y : CellCode). put (takes_of p cell) (emits_of p cell) y code) its
      ∙ ap (λ code. put (takes_of p cell) (emits_of p cell) (code_of p cell) code) code_is

  -- one cell more
  pub cells_step : (cell : ℕ) (old new : List CellImage) (image : CellImage) → image ≡ cell_of p cell
      → old ≡ map (cell_of p) (below cell) → new ≡ old ++ image ∷ [] → new ≡ map (cell_of p) (below (cell + 1))
  cells_step cell old new image is so_far step =
      step ∙ ap (λ (y : CellImage). old ++ y ∷ []) is ∙ ap (λ (ys : List CellImage). ys ++ cell_of p cell ∷ []) so_far
      ∙ sym (map-range_with_len_more (cell_of p) 0 cell cell (omega arith))
