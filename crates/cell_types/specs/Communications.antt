-- What cells communicate: their lists of writes, reads, takes and emits, by unrolling.
pub use Rattle.sys_base.specs.Communications.{Communication, Writes, Reads, Takes, Emits, copies, same_communication, times}
use Rattle.std.specs.Prelude.{ℕ, List, [], ◌∷◌, ◌++◌, slice_get, flat_map}
use Rattle.std.specs.Option.{option_map_or}
use Rattle.cell_types.specs.Code.{Action, Set, SetAt, Write, Read, Take, Emit, For, If, Block, End, Then, CellCode, ProgramCode}

abbrev mutual
  -- the communications of an action: those of a loop are copies of its body's, those of an `if` are its first arm's
  pub action_communications : Action → List Communication
  action_communications (Set word value) = []
  action_communications (SetAt base len index value) = []
  action_communications (Write message value) = Writes message ∷ []
  action_communications (Read message word) = Reads message ∷ []
  action_communications (Take word) = Takes ∷ []
  action_communications (Emit value) = Emits ∷ []
  action_communications (For counter turns body) = copies turns (block_communications body)
  action_communications (If test first second) = block_communications first

  -- the communications of statements, in order
  pub block_communications : Block → List Communication
  block_communications End = []
  block_communications (Then line action rest) = action_communications action ++ block_communications rest

-- the communications of a cell of a program, and none outside its cells
abbrev pub communications : ProgramCode → ℕ → List Communication
communications program cell =
    option_map_or (λ (c : CellCode). block_communications c.body) (slice_get program.cells cell) []

-- the length of a message: how often the cells write it
abbrev pub length_of : ProgramCode → ℕ → ℕ
length_of program message =
    times (Writes message) (flat_map (λ (c : CellCode). block_communications c.body) program.cells)

-- how many input words a cell takes
abbrev pub takes_of : ProgramCode → ℕ → ℕ
takes_of program cell = times Takes (communications program cell)

-- how many output words a cell emits
abbrev pub emits_of : ProgramCode → ℕ → ℕ
emits_of program cell = times Emits (communications program cell)
