-- How many instructions statements are compiled to.
use Rattle.std.specs.Prelude.{ℕ, ◌+◌}
use Rattle.cell_types.specs.Code.{Action, Set, SetAt, Write, Read, Take, Emit, For, If, Block, End, Then, CellCode}
use Rattle.cell_types.specs.Cost.{expression_cost}

abbrev mutual
  -- the size of an action: one instruction for each node of its expressions, which is what they cost, and one more; a
  -- loop begins and ends with one, and an `if` has one after its test and one after its first arm
  pub action_size : Action → ℕ
  action_size (Set word value) = expression_cost value + 1
  action_size (SetAt base len index value) = expression_cost index + expression_cost value + 1
  action_size (Write message value) = expression_cost value + 1
  action_size (Read message word) = 1
  action_size (Take word) = 1
  action_size (Emit value) = expression_cost value + 1
  action_size (For counter turns body) = 2 + block_size body
  action_size (If test first second) = expression_cost test + 2 + block_size first + block_size second

  -- the size of statements: the sum of theirs
  pub block_size : Block → ℕ
  block_size End = 0
  block_size (Then line action rest) = action_size action + block_size rest

-- the size of a cell: its statements, and one instruction at their end
abbrev pub cell_size : CellCode → ℕ
cell_size cell = block_size cell.body + 1
