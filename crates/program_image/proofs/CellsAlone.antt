-- Each cell of the image of a program, alone, comes to `halt` within its cost and makes its communications.
use Rattle.std.proofs.Common.{◌≡◌, ℕ, ◌<◌, ℤ, List, [], map, length, refl, sym, subst, ◌∙◌, arith}
use Rattle.std.proofs.lemmas.Option.{get_or_from_slice_get}
use Rattle.sys_base.specs.Grid.{cell_count}
use Rattle.sys_base.specs.Held.{Streams}
use Rattle.cell_code.specs.Alone.{Alone, opening_alone}
use Rattle.cell_code.specs.declared.image.CellImage.{CellImage}
use Rattle.cell_codegen.specs.Following.{place}
use Rattle.cell_types.specs.Alike.{Alike}
use Rattle.cell_types.specs.Code.{ProgramCode}
use Rattle.cell_types.specs.Communications.{communications}
use Rattle.cell_types.specs.Groups.{below}
use Rattle.cell_types.specs.Solo.{solo}
use Rattle.cell_types.specs.Sound.{IsSound}
use Rattle.array_model.specs.Regular.{Ends, EndsAlone}
use Rattle.array_model.specs.States as S
use Rattle.program_image.specs.ImageOf.{cell_of, image_of}
use Rattle.program_image.proofs.Bound.{cost_of}
use Rattle.program_image.proofs.Layers.{CellsCommunicate, CellsFollow}
use Rattle.program_image.proofs.Shaped.{cell_there}

module _ (program : ProgramCode) (labels : List ℕ) (sound : IsSound program) where
  pub cell_is : (c : ℕ) → c < cell_count program.grid → S.cell_of (image_of program labels) c ≡ cell_of program c
  cell_is c h =
      get_or_from_slice_get (map (cell_of program) (below (length program.cells))) c (cell_of program c)
      (record { takes = 0; emits = 0; words = 0; counters = 0; stack = 0; code = [] })
      (cell_there program c (omega (arith, h, sound.all)))

  -- where a cell of the image ends alone: there it has what the cell has by its statements
  pub record End (c : ℕ) (input : List ℤ) (streams : Streams) : Type 0 where
    pub end : Alone
    pub ends : EndsAlone (image_of program labels) c input streams (cost_of program c) end
    pub made : end.made ≡ (solo program c input streams).made
    pub sent : end.sent ≡ (solo program c input streams).sent
    pub held : end.state.held ≡ (solo program c input streams).held

  pub end_alone : CellsFollow → (c : ℕ) (input : List ℤ) (streams : Streams) → c < cell_count program.grid
      → End c input streams
  end_alone follow c input streams h =
      let f = follow program c sound h input streams in
      let end : Alone = place f.at [] (solo program c input streams) in
      record {
        end = end;
        ends = subst (λ (image : CellImage).
            Ends image.code c input streams (cost_of program c) (opening_alone image.words image.counters) end)
            (sym (cell_is c h))
            (record { steps = f.steps; within = f.within; ends = f.ends; halts = f.halts });
        made = refl;
        sent = refl;
        held = refl;
      }

  pub ends_alone : Alike program → CellsFollow → CellsCommunicate → (c : ℕ) (input : List ℤ) (streams : Streams)
      → c < cell_count program.grid
      → (end : Alone) × EndsAlone (image_of program labels) c input streams (cost_of program c) end
      × (end.made ≡ communications program c)
  ends_alone alike follow communicate c input streams h =
      let e = end_alone follow c input streams h in
      (e.end, e.ends, e.made ∙ communicate program alike c input streams)
