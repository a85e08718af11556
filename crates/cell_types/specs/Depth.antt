-- How deep a stack cells need, and how deep their loops stand in one another.
use Rattle.std.specs.Prelude.{ℕ, ◌+◌, max}
use Rattle.cell_types.specs.Code.{Expression, Number, Variable, Counter, Element, Negated, Applied, Action, Set, SetAt, Write, Read, Take, Emit, For, If, Block, End, Then}

-- the deepest stack that an expression needs: the right operand stands on the left one's word
abbrev pub expression_stack : Expression → ℕ
expression_stack (Number number) = 1
expression_stack (Variable word) = 1
expression_stack (Counter counter) = 1
expression_stack (Element base len index) = expression_stack index
expression_stack (Negated operand) = expression_stack operand
expression_stack (Applied op left right) = max (expression_stack left) (1 + expression_stack right)

abbrev mutual
  -- the deepest stack that an action needs
  pub action_stack : Action → ℕ
  action_stack (Set word value) = expression_stack value
  action_stack (SetAt base len index value) = max (expression_stack index) (1 + expression_stack value)
  action_stack (Write message value) = expression_stack value
  action_stack (Read message word) = 0
  action_stack (Take word) = 0
  action_stack (Emit value) = expression_stack value
  action_stack (For counter turns body) = block_stack body
  action_stack (If test first second) = max (expression_stack test) (max (block_stack first) (block_stack second))

  -- the deepest stack that some of these statements needs
  pub block_stack : Block → ℕ
  block_stack End = 0
  block_stack (Then line action rest) = max (action_stack action) (block_stack rest)

abbrev mutual
  -- how many loops of an action stand inside one another at most
  pub action_loops : Action → ℕ
  action_loops (For counter turns body) = 1 + block_loops body
  action_loops (If test first second) = max (block_loops first) (block_loops second)
  action_loops _ = 0

  -- how many loops of these statements stand inside one another at most
  pub block_loops : Block → ℕ
  block_loops End = 0
  block_loops (Then line action rest) = max (action_loops action) (block_loops rest)
