-- How deep a stack the expressions of a tree need, and how many of its loops stand inside one another.
use Rattle.std.specs.Prelude.{ℕ, ◌+◌, max, List, [], ◌∷◌, map}
use Rattle.cell_tree.specs.declared.expression.Expr.{Expr}
use Rattle.cell_tree.specs.declared.expression.Expr.TheFolds.{fold-Expr}
use Rattle.cell_tree.specs.declared.expression.Expr.TheOpen.{Expr-F}
use Rattle.cell_tree.specs.declared.source.CellDecl.{CellDecl}
use Rattle.cell_tree.specs.declared.statement.Act.TheFolds.{fold-Stmt}
use Rattle.cell_tree.specs.declared.statement.Act.TheOpen.{Act-F}
use Rattle.cell_tree.specs.declared.statement.Stmt.{Stmt}

-- the greatest of some numbers, or 0 where there are none
abbrev pub greatest : List ℕ → ℕ
greatest [] = 0
greatest (n ∷ ns) = max n (greatest ns)

-- how deep a stack one node of an expression needs
abbrev pub depth_step : Expr-F ℕ → ℕ
depth_step (Expr-F.Number n) = 1
depth_step (Expr-F.Named name) = 1
depth_step (Expr-F.At name index) = index
depth_step (Expr-F.Negate e) = e
depth_step (Expr-F.Binary op left right) = max left (1 + right)

-- how deep a stack an expression needs: the value of a left operand lies on it while the right operand is evaluated
abbrev pub stack_depth : Expr → ℕ
stack_depth = fold-Expr ℕ depth_step

-- how deep a stack one statement needs, and those in it
abbrev pub act_stack : Act-F ℕ ℕ → ℕ
act_stack (Act-F.Set name value) = stack_depth value
act_stack (Act-F.SetAt name index value) = max (stack_depth index) (1 + stack_depth value)
act_stack (Act-F.Write message value) = stack_depth value
act_stack (Act-F.Read message name) = 0
act_stack (Act-F.Take name) = 0
act_stack (Act-F.Emit value) = stack_depth value
act_stack (Act-F.For counter turns body) = greatest body
act_stack (Act-F.If test first second) = max (stack_depth test) (max (greatest first) (greatest second))

-- how deep a stack a statement needs, and those in it: the value of an index lies on it while what is stored is
-- evaluated
abbrev pub statement_stack : Stmt → ℕ
statement_stack = fold-Stmt ℕ ℕ act_stack (λ statement. statement.act)

-- how deep a stack the statements of a cell need
abbrev pub cell_stack : CellDecl → ℕ
cell_stack cell = greatest (map statement_stack cell.body)

-- how many loops stand inside one another at most, from one statement on
abbrev pub act_loops : Act-F ℕ ℕ → ℕ
act_loops (Act-F.Set name value) = 0
act_loops (Act-F.SetAt name index value) = 0
act_loops (Act-F.Write message value) = 0
act_loops (Act-F.Read message name) = 0
act_loops (Act-F.Take name) = 0
act_loops (Act-F.Emit value) = 0
act_loops (Act-F.For counter turns body) = 1 + greatest body
act_loops (Act-F.If test first second) = max (greatest first) (greatest second)

-- how many loops stand inside one another at most in a statement, itself counted
abbrev pub statement_loops : Stmt → ℕ
statement_loops = fold-Stmt ℕ ℕ act_loops (λ statement. statement.act)

-- how many loops stand inside one another at most in a cell
abbrev pub cell_loops : CellDecl → ℕ
cell_loops cell = greatest (map statement_loops cell.body)
