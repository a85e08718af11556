-- A tree as plain data, and what holds of it there.
use Rattle.std.proofs.Common.{◌≡◌, ◌∙◌, ℕ, List, [], ◌∷◌, ap, sym}
use Rattle.std.specs.Prelude.{codes}
use Rattle.cell_tree.specs.declared.expression.Expr.{Expr}
use Rattle.cell_tree.specs.declared.expression.Expr.TheFolds.{fold-roll-Expr}
use Rattle.cell_tree.specs.declared.expression.Expr.TheOpen.{Expr-F}
use Rattle.cell_tree.specs.declared.expression.Expr.TheVariants as X
use Rattle.cell_tree.specs.declared.expression.Expr.TheVariants.{rolls-Number}
use Rattle.cell_tree.specs.declared.statement.Act.{Act}
use Rattle.cell_tree.specs.declared.statement.Act.TheFolds.{fold-Act, fold-roll-Stmt, fold-roll-Act}
use Rattle.cell_tree.specs.declared.statement.Act.TheOpen.{Act-F}
use Rattle.cell_tree.specs.declared.statement.Act.TheVariants as A
use Rattle.cell_tree.specs.declared.statement.Act.TheVariants.{rolls-Emit, rolls-For}
use Rattle.cell_tree.specs.declared.statement.Act.TheViews.{roll-Stmt}
use Rattle.cell_tree.specs.declared.statement.Stmt.{Stmt}
use Rattle.cell_types.specs.Written.{WrittenExpression, WrittenAction, WrittenStatement, expression_step, act_step, statement_step, in_block, written_expression, written_statement, written_block}
use Rattle.cell_types.specs.Written as T

-- an action of the tree as plain data
abbrev written_act : Act → WrittenAction
written_act = fold-Act WrittenAction WrittenStatement act_step statement_step

-- a statement on a line is what it does, on that line
on_line : (line : ℕ) (act : Act)
    → written_statement (roll-Stmt (record { line = line; act = act })) ≡ record { line = line; act = written_act act }
on_line line act = fold-roll-Stmt WrittenAction WrittenStatement act_step statement_step (record { line = line; act = act })

number : (n : ℕ) → written_expression (X.Number n) ≡ T.Number n
number n = ap written_expression (sym (rolls-Number n)) ∙ fold-roll-Expr WrittenExpression expression_step (Expr-F.Number n)

emit : (e : Expr) → written_act (A.Emit e) ≡ T.Emit (written_expression e)
emit e =
    ap written_act (sym (rolls-Emit e)) ∙ fold-roll-Act WrittenAction WrittenStatement act_step statement_step (Act-F.Emit e)

loop : (counter : List ℕ) (turns : ℕ) (body : List Stmt)
    → written_act (A.For counter turns body) ≡ T.For counter turns (written_block body)
loop counter turns body =
    ap written_act (sym (rolls-For counter turns body))
    ∙ fold-roll-Act WrittenAction WrittenStatement act_step statement_step (Act-F.For counter turns body)

-- `for i 2 { emit 7; }`, on lines 3 and 4
abbrev tree : Stmt
tree =
    roll-Stmt (record {
      line = 3;
      act = A.For (codes "i") 2 (roll-Stmt (record { line = 4; act = A.Emit (X.Number 7) }) ∷ []);
    })

as_data : written_block (tree ∷ []) ≡ T.Then 3 (T.For (codes "i") 2 (T.Then 4 (T.Emit (T.Number 7)) T.End)) T.End
as_data =
    ap (λ s. in_block (s ∷ [])) (on_line 3 _)
    ∙ ap (λ a. T.Then 3 a T.End) (loop (codes "i") 2 _)
    ∙ ap (λ s. T.Then 3 (T.For (codes "i") 2 (in_block (s ∷ []))) T.End) (on_line 4 _)
    ∙ ap (λ a. T.Then 3 (T.For (codes "i") 2 (T.Then 4 a T.End)) T.End) (emit (X.Number 7) ∙ ap T.Emit (number 7))
