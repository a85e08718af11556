-- How the body of a cell is read into parts.
use Rattle.std.specs.Prelude.{ℕ, ◌≡◌, ◌≢◌, ◌<◌, ◌≤◌, ◌^◌, ⊤, List, [], slice_get, Some, Result, Ok, Err}
use Rattle.cell_types.specs.Code.{Action, For, If, Block, End, Then}
use Rattle.cell_types.specs.Communications.{Communication, Writes, Reads, Takes, Emits}
use Rattle.cell_types.specs.Depth.{action_loops, block_loops}
use Rattle.comm_sequence.specs.bodies.Walking.{HasGrown}
use Rattle.comm_sequence.specs.declared.entry.Entry.{Entry}
use Rattle.comm_sequence.specs.declared.entry.Entry.TheVariants as E
use Rattle.comm_sequence.specs.declared.part.Part.{Part}
use Rattle.comm_sequence.specs.declared.unrolling.Stop.{Stop}
use Rattle.comm_sequence.specs.declared.unrolling.Stop.TheVariants as S

-- the communication that an entry stands for
abbrev pub communication_of : Entry → Communication
communication_of (E.Write message) = Writes message
communication_of (E.Read message) = Reads message
communication_of E.Take = Takes
communication_of E.Emit = Emits

abbrev mutual
  -- The turns of each loop of an action fit 32 bits.
  pub HasTurns : Action → Type 0
  HasTurns (For counter turns body) = (turns < 2 ^ 32) × HaveTurns body
  HasTurns (If test first second) = HaveTurns first × HaveTurns second
  HasTurns _ = ⊤

  -- The same for some statements.
  pub HaveTurns : Block → Type 0
  HaveTurns End = ⊤
  HaveTurns (Then line action rest) = HasTurns action × HaveTurns rest

-- At most 16 loops of an action stand inside one another, and their turns fit.
abbrev pub IsShallowAction : Action → Type 0
IsShallowAction action = HasTurns action × (action_loops action ≤ 16)

-- The same for some statements.
abbrev pub IsShallow : Block → Type 0
IsShallow block = HaveTurns block × (block_loops block ≤ 16)

-- The stop names the first of these lines, or it is want of memory.
abbrev pub IsFirstLine : List ℕ → Stop → Type 0
IsFirstLine lines (S.Differ line) = slice_get lines 0 ≡ Some line
IsFirstLine lines S.Memory = ⊤

-- No arms differ on these lines and the communications were added, or the stop names the first line.
abbrev pub IsBuilt : List Part → List ℕ → List Communication → ℕ → Result ⊤ Stop → List Part → Type 0
IsBuilt old lines list deep (Ok _) new = (lines ≡ []) × HasGrown old new list deep
IsBuilt old lines list deep (Err stop) new = IsFirstLine lines stop

-- The arms of an `if` on a line communicate the same and the first one was added, or they differ, or memory ran out.
abbrev pub IsArm : List Part → List Communication → List Communication → ℕ → ℕ → Result ⊤ Stop → List Part → Type 0
IsArm old first second line deep (Ok _) new = (first ≡ second) × HasGrown old new first deep
IsArm old first second line deep (Err (S.Differ at)) new = (first ≢ second) × (at ≡ line)
IsArm old first second line deep (Err S.Memory) new = ⊤
