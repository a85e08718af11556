-- The code of each cell of a sound program.
use Rattle.std.proofs.Common.{◌≡◌, ℕ, ◌<◌, ℤ, List, [], Some, sym, ◌∙◌, ap, subst, refl, arith}
use Rattle.std.specs.List.{slice_get}
use Rattle.std.specs.Option.{option_map_or}
use Rattle.std.proofs.lemmas.Option.{slice_get-get_or}
use Rattle.sys_base.specs.Communications.{Communication, Takes, Emits, times}
use Rattle.sys_base.specs.Grid.{cell_count}
use Rattle.sys_base.specs.Held.{Streams}
use Rattle.cell_code.specs.ShapedCells.{StackRule, KeepsCounts, IsShapedCell}
use Rattle.cell_code.specs.declared.instruction.Instr.{Instr}
use Rattle.cell_types.specs.Alike.{AlikeBlock}
use Rattle.cell_types.specs.Code.{CellCode, End, ProgramCode}
use Rattle.cell_types.specs.Communications.{block_communications, communications}
use Rattle.cell_types.specs.Resolved.{cell_with}
use Rattle.cell_types.specs.Solo.{code_of, solo, opening}
use Rattle.cell_types.specs.Sound.{Means, IsSoundCell, IsSound}
use Rattle.cell_codegen.specs.Emission.{body_code}
use Rattle.cell_codegen.specs.Following.{Follows}
use Rattle.cell_codegen.specs.Shapes.{IsAtItsEnd, IsSoundCode, cell_image}
use Rattle.cell_codegen.proofs.Comms.{block_made}
use Rattle.cell_codegen.proofs.Depths.{stack_rule}
use Rattle.cell_codegen.proofs.Ranges.{at_ends, ends, ranges, targets}
use Rattle.cell_codegen.proofs.Runs as R
use Rattle.cell_codegen.proofs.Ways.{keeps_counts}

module _ (program : ProgramCode) (cell : ℕ) (sound : IsSound program) (within : cell < cell_count program.grid) where
  abbrev code : CellCode
  code = code_of program cell

  got : slice_get program.cells cell ≡ Some code
  got = slice_get-get_or program.cells cell (cell_with 0 End) (omega (arith, sound.all, within))

  sound_cell : IsSoundCell program.messages cell code
  sound_cell = sound.cells cell code got

  made_is : block_communications code.body ≡ communications program cell
  made_is = sym (ap (λ o. option_map_or (λ (c : CellCode). block_communications c.body) o []) got)

  abbrev own : Means
  own = record { messages = program.messages; cell = cell; words = code.words; counters = code.counters }

  pub followed : (input : List ℤ) (streams : Streams) → Follows (body_code code.body) program cell input streams
  followed input streams = R.follows own program cell refl sound_cell.body input streams

  pub communicates : AlikeBlock code.body → (input : List ℤ) (streams : Streams) →
      (solo program cell input streams).made ≡ communications program cell
  communicates alike input streams = block_made cell input streams code.body alike (opening code.words code.counters) ∙ made_is

  pub at_its_end : (at : ℕ) (instr : Instr) → slice_get (body_code code.body) at ≡ Some instr → IsAtItsEnd program.messages cell instr
  at_its_end at instr is = at_ends own code.body sound_cell.body at instr is

  pub is_sound_code : IsSoundCode code (body_code code.body)
  is_sound_code =
      record {
        ends = ends own code.body sound_cell.body;
        ranges = ranges own code.body sound_cell.body;
        targets = targets own code.body sound_cell.body;
        stack = subst (λ n. StackRule (body_code code.body) n) (sym sound_cell.depth) (stack_rule code.body);
      }

  pub is_shaped : AlikeBlock code.body → IsShapedCell (cell_image program cell (body_code code.body))
  is_shaped alike =
      let counts = keeps_counts own code.body sound_cell.body alike in
      record {
        ends = is_sound_code.ends;
        ranges = is_sound_code.ranges;
        targets = is_sound_code.targets;
        stack = is_sound_code.stack;
        counts = subst (λ (cs : List Communication). KeepsCounts (body_code code.body) code.counters (times Takes cs) (times Emits cs))
            made_is counts;
      }
