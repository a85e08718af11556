-- How many nodes a tree has: each expression and each statement is one, and a loop and a choice are two, one where they
-- begin and one where they end.
use Rattle.std.specs.Prelude.{ℕ, ◌+◌, map}
use Rattle.std.specs.List.{sum}
use Rattle.cell_tree.specs.declared.expression.Expr.{Expr}
use Rattle.cell_tree.specs.declared.expression.Expr.TheFolds.{fold-Expr}
use Rattle.cell_tree.specs.declared.expression.Expr.TheOpen.{Expr-F}
use Rattle.cell_tree.specs.declared.source.CellDecl.{CellDecl}
use Rattle.cell_tree.specs.declared.source.Source.{Source}
use Rattle.cell_tree.specs.declared.statement.Act.TheFolds.{fold-Stmt}
use Rattle.cell_tree.specs.declared.statement.Act.TheOpen.{Act-F}
use Rattle.cell_tree.specs.declared.statement.Stmt.{Stmt}

-- one node of an expression, and the nodes of its operands
abbrev pub nodes_step : Expr-F ℕ → ℕ
nodes_step (Expr-F.Number n) = 1
nodes_step (Expr-F.Named name) = 1
nodes_step (Expr-F.At name index) = 1 + index
nodes_step (Expr-F.Negate e) = 1 + e
nodes_step (Expr-F.Binary op left right) = 1 + left + right

-- the nodes of an expression
abbrev pub expression_nodes : Expr → ℕ
expression_nodes = fold-Expr ℕ nodes_step

-- one statement, and the nodes of its expressions and of the statements in it
abbrev pub act_nodes : Act-F ℕ ℕ → ℕ
act_nodes (Act-F.Set name value) = 1 + expression_nodes value
act_nodes (Act-F.SetAt name index value) = 1 + expression_nodes index + expression_nodes value
act_nodes (Act-F.Write message value) = 1 + expression_nodes value
act_nodes (Act-F.Read message name) = 1
act_nodes (Act-F.Take name) = 1
act_nodes (Act-F.Emit value) = 1 + expression_nodes value
act_nodes (Act-F.For counter turns body) = 2 + sum body
act_nodes (Act-F.If test first second) = 2 + expression_nodes test + sum first + sum second

-- the nodes of a statement and of those in it
abbrev pub statement_nodes : Stmt → ℕ
statement_nodes = fold-Stmt ℕ ℕ act_nodes (λ statement. statement.act)

-- the nodes of a cell: 1 for the cell itself, and those of its statements
abbrev pub cell_nodes : CellDecl → ℕ
cell_nodes cell = 1 + sum (map statement_nodes cell.body)

-- the nodes of the cells of a source
abbrev pub source_nodes : Source → ℕ
source_nodes source = sum (map cell_nodes source.cells)
