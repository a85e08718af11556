-- How many steps cells take at most.
use denote.Struct.Props.{props}
use Rattle.std.specs.Prelude.{◌≡◌, ◌<◌, ◌≤◌, Option, None, Some, MatchOption, ℕ, ◌+◌, ◌*◌, max, sum_by}
use Rattle.sys_base.specs.declared.limits.TheConstants.{STEPS}
use Rattle.cell_types.specs.Code.{Expression, Number, Variable, Counter, Element, Negated, Applied, Action, Set, SetAt, Write, Read, Take, Emit, For, If, Block, End, Then, CellCode, ProgramCode}

-- the cost of an expression: one for each node
abbrev pub expression_cost : Expression → ℕ
expression_cost (Number number) = 1
expression_cost (Variable word) = 1
expression_cost (Counter counter) = 1
expression_cost (Element base len index) = expression_cost index + 1
expression_cost (Negated operand) = expression_cost operand + 1
expression_cost (Applied op left right) = expression_cost left + expression_cost right + 1

abbrev mutual
  -- the cost of an action: its expressions and itself, in a loop each turn and one more, in an `if` the dearer arm
  pub action_cost : Action → ℕ
  action_cost (Set word value) = expression_cost value + 1
  action_cost (SetAt base len index value) = expression_cost index + expression_cost value + 1
  action_cost (Write message value) = expression_cost value + 1
  action_cost (Read message word) = 1
  action_cost (Take word) = 1
  action_cost (Emit value) = expression_cost value + 1
  action_cost (For counter turns body) = 1 + turns * (block_cost body + 1)
  action_cost (If test first second) = expression_cost test + 1 + max (block_cost first + 1) (block_cost second)

  -- the cost of statements: the sum of theirs
  pub block_cost : Block → ℕ
  block_cost End = 0
  block_cost (Then line action rest) = action_cost action + block_cost rest

-- the cost of all cells of a program
abbrev pub cells_cost : ProgramCode → ℕ
cells_cost program = sum_by (λ (c : CellCode). block_cost c.body) program.cells

-- The answer is the cost where that is no more than the most steps of a program, and otherwise there is none.
abbrev pub IsLimited : ℕ → Option ℕ → Type 0
IsLimited cost answer = MatchOption answer (STEPS < cost) (λ steps. (steps ≡ cost) × (cost ≤ STEPS))

-- this has one proof at most
pub limited-prop : (cost : ℕ) (answer : Option ℕ) → IsProp (IsLimited cost answer)
limited-prop cost None = hlevel props
limited-prop cost (Some steps) = hlevel props
