-- The meaning of a program: what its cells emit where each runs alone, and all agree on the words of the messages.
-- There is no queue and no order of steps in it.
use Rattle.std.specs.Prelude.{ℕ, ◌≡◌, ◌<◌, ℤ, List, [], Some, length, map, slice_get, slice_index_or}
use Rattle.sys_base.specs.Held.{Streams}
use Rattle.sys_base.specs.declared.word.Word.{Word}
use Rattle.cell_types.specs.Code.{ProgramCode}
use Rattle.cell_types.specs.Communications.{length_of}
use Rattle.cell_types.specs.Groups.{below}
use Rattle.cell_types.specs.Solo.{Solo, solo, written_to, emitted}
use Rattle.cell_types.specs.declared.program.Message.{Message}

-- a cell of a program alone, for the inputs of all cells and these streams
abbrev pub alone : ProgramCode → (inputs : List (List ℤ)) → Streams → (cell : ℕ) → Solo
alone program inputs streams cell = solo program cell (slice_index_or inputs cell []) streams

-- The streams agree for these inputs: that of each message has its length, and its sender alone writes just it.
pub record Agree (program : ProgramCode) (inputs : List (List ℤ)) (streams : Streams) : Type 0 where
  pub lengths : (index : ℕ) → index < length program.messages → length (streams index) ≡ length_of program index
  pub written : (index : ℕ) (message : Message) → slice_get program.messages index ≡ Some message
      → written_to index (alone program inputs streams message.from) ≡ streams index

-- the words that each cell alone emits
abbrev pub words_emitted : ProgramCode → (inputs : List (List ℤ)) → Streams → List (List Word)
words_emitted program inputs streams =
    map (λ cell. emitted (alone program inputs streams cell)) (below (length program.cells))

-- This is the meaning of a program for these inputs: the words that each cell emits under streams that agree.
pub record IsMeaning (program : ProgramCode) (inputs : List (List ℤ)) (outputs : List (List Word)) : Type 0 where
  pub streams : Streams
  pub agree : Agree program inputs streams
  pub words : outputs ≡ words_emitted program inputs streams
