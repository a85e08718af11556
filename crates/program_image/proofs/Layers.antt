-- The laws of the layers below on which those of this crate stand.
use Rattle.std.proofs.Common.{◌≡◌, ℕ, ◌*◌, ◌<◌, ◌≤◌, max, ℤ, List, [], Some, length, slice_get, slice_index}
use Rattle.sys_base.specs.Grid.{cell_count}
use Rattle.sys_base.specs.Groups.{groups}
use Rattle.sys_base.specs.Held.{Streams}
use Rattle.sys_base.specs.declared.limits.TheConstants.{STEPS}
use Rattle.sys_base.specs.declared.actor.Actor.{Actor}
use Rattle.cell_code.specs.ShapedCells.{IsShapedCell}
use Rattle.cell_code.specs.declared.image.Image.{Image}
use Rattle.cell_code.specs.declared.instruction.Instr.{Instr}
use Rattle.cell_types.specs.Alike.{Alike, AlikeBlock}
use Rattle.cell_types.specs.Code.{ProgramCode}
use Rattle.cell_types.specs.Communications.{communications}
use Rattle.cell_types.specs.Cost.{cells_cost}
use Rattle.cell_types.specs.Groups.{routes_of}
use Rattle.cell_types.specs.Solo.{code_of, solo}
use Rattle.cell_types.specs.Sound.{IsSound}
use Rattle.cell_codegen.specs.Emission.{body_code}
use Rattle.cell_codegen.specs.Following.{Follows}
use Rattle.cell_codegen.specs.Shapes.{IsAtItsEnd, cell_image}
use Rattle.comm_sequence.specs.Sequences.{IsSequences, sequences_of}
use Rattle.queue_plan.specs.Grouping.{all_groups, groups_at}
use Rattle.queue_plan.specs.Lacks.{lacks}
use Rattle.queue_plan.specs.Members.{HasMember}
use Rattle.array_model.specs.Meaning.{Agrees, HasOneMeaning, KeepsMeaning}
use Rattle.array_model.specs.Regular.{IsRegular}
use Rattle.array_model.specs.Runs.{IsRun}
use Rattle.array_model.specs.States.{ArrayState, Inputs, IsCounted}

-- The code of a cell is shaped, where its arms are alike.
abbrev pub CellsAreShaped : Type 0
CellsAreShaped =
    (program : ProgramCode) (cell : ℕ) → IsSound program → cell < cell_count program.grid
    → AlikeBlock (code_of program cell).body
    → IsShapedCell (cell_image program cell (body_code (code_of program cell).body))

-- The code of a cell writes and reads only at its ends.
abbrev pub CellsUseTheirEnds : Type 0
CellsUseTheirEnds =
    (program : ProgramCode) (cell at : ℕ) (instr : Instr) → IsSound program → cell < cell_count program.grid
    → slice_get (body_code (code_of program cell).body) at ≡ Some instr → IsAtItsEnd program.messages cell instr

-- Each group of a link has a member.
abbrev pub GroupsAreFilled : Type 0
GroupsAreFilled =
    (routes : List (List ℕ)) (labels lengths : List ℕ) (link place : ℕ)
    → place < length (groups routes labels lengths link)
    → (message : ℕ) × HasMember (groups routes labels lengths link) place message

-- Where no link lacks queues, each group fits its link's.
abbrev pub GroupsFit : Type 0
GroupsFit =
    (links : List (List (ℕ × List ℕ))) (queues : List ℕ) (link place : ℕ) (group : ℕ × List ℕ)
    → lacks links queues ≡ [] → slice_get (groups_at links link) place ≡ Some group
    → length group.1 ≤ slice_index queues link

-- The groups at a link are those of the link.
abbrev pub GroupsAtLinks : Type 0
GroupsAtLinks =
    (program : ProgramCode) (labels lengths : List ℕ) (link : ℕ) → link < 4 * cell_count program.grid
    → groups_at (all_groups program labels lengths) link ≡ groups (routes_of program) labels lengths link

-- The sequences of a sound program within the limit keep what the type of sequences keeps.
abbrev pub ProgramsHaveSequences : Type 0
ProgramsHaveSequences =
    (program : ProgramCode) → IsSound program → cells_cost program ≤ STEPS → IsSequences (sequences_of program)

-- The code of a cell follows its statements.
abbrev pub CellsFollow : Type 0
CellsFollow =
    (program : ProgramCode) (cell : ℕ) → IsSound program → cell < cell_count program.grid
    → (input : List ℤ) (streams : Streams) → Follows (body_code (code_of program cell).body) program cell input streams

-- A cell alone, by its statements, makes its communications, where arms are alike.
abbrev pub CellsCommunicate : Type 0
CellsCommunicate =
    (program : ProgramCode) → Alike program → (cell : ℕ) (input : List ℤ) (streams : Streams)
    → (solo program cell input streams).made ≡ communications program cell

-- A regular image has one meaning for each input.
abbrev pub OneMeanings : Type 0
OneMeanings =
    (image : Image) (buffer : ℕ) (inputs : Inputs) → IsRegular image buffer → IsCounted image inputs
    → HasOneMeaning image inputs

-- Every run of a regular image keeps its meaning.
abbrev pub RunsKeepMeanings : Type 0
RunsKeepMeanings =
    (image : Image) (buffer : ℕ) (inputs : Inputs) (streams : Streams) (cap : ℕ) (run : List Actor) (last : ArrayState)
    → IsRegular image buffer → IsCounted image inputs → Agrees image inputs streams → max 1 buffer ≤ cap
    → IsRun image inputs cap run last → KeepsMeaning image inputs streams last
