-- What holds of every run of the image of a program.
use Rattle.std.specs.Prelude.{ℕ, ◌≡◌, ◌<◌, ◌≤◌, max, ℤ, List, [], slice_index_or}
use Rattle.sys_base.specs.declared.actor.Actor.{Actor}
use Rattle.sys_base.specs.declared.word.Word.{Word}
use Rattle.cell_code.specs.declared.image.Image.{Image}
use Rattle.cell_types.specs.Code.{ProgramCode}
use Rattle.cell_types.specs.Groups.{bound}
use Rattle.comm_sequence.specs.Meaning.{IsMeaning}
use Rattle.array_model.specs.Meaning.{IsPrefix}
use Rattle.array_model.specs.Runs.{IsFinished, IsRun, IsSure}
use Rattle.array_model.specs.States.{ArrayState, Inputs, IsCounted, cells}

-- the input of each cell, by its index
abbrev pub inputs_of : List (List ℤ) → Inputs
inputs_of inputs cell = slice_index_or inputs cell []

-- Some words of each cell are the meaning of the program for these inputs, and no others are.
pub record HasOneMeaning (program : ProgramCode) (inputs : List (List ℤ)) : Type 0 where
  pub words : List (List Word)
  pub is : IsMeaning program inputs words
  pub only : (others : List (List Word)) → IsMeaning program inputs others → others ≡ words

-- In a state each cell has emitted the beginning of its words among these, and all of them where the state is
-- finished.
pub record HasEmitted (image : Image) (words : List (List Word)) (s : ArrayState) : Type 0 where
  pub begins : (c : ℕ) → c < cells image → IsPrefix (s.cell c).held.output (slice_index_or words c [])
  pub whole : IsFinished image s → (c : ℕ) → c < cells image → (s.cell c).held.output ≡ slice_index_or words c []

-- The image does what the program says, where these are the labels of its messages. From the program's buffer on every
-- run of it is bounded, never stuck before its end, and ends clean, and its bound is the program's. For all inputs
-- that have the counted words the program has one meaning; and in every run each cell emits the beginning of its words
-- there, and all of them where the run is finished.
pub record IsFaithful (program : ProgramCode) (labels : List ℕ) (image : Image) : Type 0 where
  pub sure : IsSure image program.buffer
  pub bound_is : image.bound ≡ bound program labels
  pub meaning : (inputs : List (List ℤ)) → IsCounted image (inputs_of inputs) → HasOneMeaning program inputs
  pub outputs : (inputs : List (List ℤ)) (words : List (List Word)) (cap : ℕ) (run : List Actor) (last : ArrayState)
      → IsCounted image (inputs_of inputs) → IsMeaning program inputs words → max 1 program.buffer ≤ cap
      → IsRun image (inputs_of inputs) cap run last → HasEmitted image words last
