-- Typed statements as plain data.
use Rattle.std.specs.Prelude.{List, [], ◌∷◌}
use Rattle.cell_types.specs.Code.{Expression, Action, Block, End, Then}
use Rattle.cell_types.specs.Code as C
use Rattle.cell_types.specs.declared.expression.TypedExpr.{TypedExpr, Number, Word, Counter, At', Negate', Binary'}
use Rattle.cell_types.specs.declared.statement.TypedAct.{TypedAct, Set, SetAt, Write, Read, Take, Emit, For', If', Row_of-TypedStmt, end_of-TypedStmt, more_of-TypedStmt}
use Rattle.cell_types.specs.declared.statement.TypedStmt.{TypedStmt}

-- a typed expression as plain data
abbrev pub expression_of : TypedExpr → Expression
expression_of (Number n) = C.Number n
expression_of (Word word) = C.Variable word
expression_of (Counter counter) = C.Counter counter
expression_of (At' base len pointer index) = C.Element base len (expression_of index)
expression_of (Negate' pointer operand) = C.Negated (expression_of operand)
expression_of (Binary' op p left q right) = C.Applied op (expression_of left) (expression_of right)

abbrev mutual
  -- what a typed statement does, as plain data
  pub action_of : TypedAct → Action
  action_of (Set word value) = C.Set word (expression_of value)
  action_of (SetAt base len index value) = C.SetAt base len (expression_of index) (expression_of value)
  action_of (Write message value) = C.Write message (expression_of value)
  action_of (Read message word) = C.Read message word
  action_of (Take word) = C.Take word
  action_of (Emit value) = C.Emit (expression_of value)
  action_of (For' counter turns shape body) = C.For counter turns (inner_block body)
  action_of (If' test shape_1 first shape_2 second) =
      C.If (expression_of test) (inner_block first) (inner_block second)

  -- the statements of a loop or an arm, as plain data
  pub inner_block : {n : _} → Row_of-TypedStmt n → Block
  inner_block end_of-TypedStmt = End
  inner_block (more_of-TypedStmt line act rest) = Then line (action_of act) (inner_block rest)

-- typed statements as plain data
abbrev pub block_of : List TypedStmt → Block
block_of [] = End
block_of (s ∷ ss) = Then s.line (action_of s.act) (block_of ss)
