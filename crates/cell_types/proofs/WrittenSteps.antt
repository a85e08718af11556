-- Each form of expression and of statement of the tree as plain data, by its parts.
use Rattle.std.proofs.Common.{◌≡◌, ℕ, List, ◌∷◌, sym, ap, ◌∙◌}
use Rattle.sys_base.specs.declared.kinds.Op.{Op}
use Rattle.cell_tree.specs.declared.expression.Expr.{Expr}
use Rattle.cell_tree.specs.declared.expression.Expr.TheFolds.{fold-roll-Expr}
use Rattle.cell_tree.specs.declared.expression.Expr.TheOpen.{Expr-F}
use Rattle.cell_tree.specs.declared.expression.Expr.TheVariants as X
use Rattle.cell_tree.specs.declared.expression.Expr.TheVariants.{rolls-Number, rolls-Named, rolls-At, rolls-Negate, rolls-Binary}
use Rattle.cell_tree.specs.declared.statement.Act.{Act}
use Rattle.cell_tree.specs.declared.statement.Act.TheFolds.{fold-roll-Act, fold_out-Stmt, map-Act}
use Rattle.cell_tree.specs.declared.statement.Act.TheOpen.{Act-F}
use Rattle.cell_tree.specs.declared.statement.Act.TheVariants as A
use Rattle.cell_tree.specs.declared.statement.Act.TheVariants.{rolls-Set, rolls-SetAt, rolls-Write, rolls-Read, rolls-Take, rolls-Emit, rolls-For, rolls-If}
use Rattle.cell_tree.specs.declared.statement.Act.TheViews.{roll-Act}
use Rattle.cell_tree.specs.declared.statement.Stmt.{Stmt}
use Rattle.cell_types.specs.bodies.Scopes.{written_action}
use Rattle.cell_types.specs.Written as T
use Rattle.cell_types.specs.Written.{WrittenExpression, WrittenAction, WrittenStatement, WrittenBlock, expression_step, act_step, statement_step, written_expression, written_statement, written_block}

-- expressions
pub number_written : (n : ℕ) → written_expression (X.Number n) ≡ T.Number n
number_written n = ap written_expression (sym (rolls-Number n)) ∙ fold-roll-Expr WrittenExpression expression_step (Expr-F.Number n)

pub named_written : (n : List ℕ) → written_expression (X.Named n) ≡ T.Named n
named_written n = ap written_expression (sym (rolls-Named n)) ∙ fold-roll-Expr WrittenExpression expression_step (Expr-F.Named n)

pub element_written : (n : List ℕ) (e : Expr) → written_expression (X.At n e) ≡ T.Element n (written_expression e)
element_written n e = ap written_expression (sym (rolls-At n e)) ∙ fold-roll-Expr WrittenExpression expression_step (Expr-F.At n e)

pub negated_written : (e : Expr) → written_expression (X.Negate e) ≡ T.Negated (written_expression e)
negated_written e = ap written_expression (sym (rolls-Negate e)) ∙ fold-roll-Expr WrittenExpression expression_step (Expr-F.Negate e)

pub applied_written : (op : Op) (e f : Expr)
    → written_expression (X.Binary op e f) ≡ T.Applied op (written_expression e) (written_expression f)
applied_written op e f =
    ap written_expression (sym (rolls-Binary op e f)) ∙ fold-roll-Expr WrittenExpression expression_step (Expr-F.Binary op e f)

-- what statements do
act_rolls : (x : Act-F Act Stmt) (a : Act) → roll-Act x ≡ a
    → written_action a ≡ act_step (map-Act Act Stmt WrittenAction WrittenStatement written_action written_statement x)
act_rolls x a is =
    ap written_action (sym is) ∙ fold-roll-Act WrittenAction WrittenStatement act_step statement_step x

pub set_written : (n : List ℕ) (e : Expr) → written_action (A.Set n e) ≡ T.Set n (written_expression e)
set_written n e = act_rolls (Act-F.Set n e) (A.Set n e) (rolls-Set n e)

pub set_at_written : (n : List ℕ) (e f : Expr)
    → written_action (A.SetAt n e f) ≡ T.SetAt n (written_expression e) (written_expression f)
set_at_written n e f = act_rolls (Act-F.SetAt n e f) (A.SetAt n e f) (rolls-SetAt n e f)

pub write_written : (m : List ℕ) (e : Expr) → written_action (A.Write m e) ≡ T.Write m (written_expression e)
write_written m e = act_rolls (Act-F.Write m e) (A.Write m e) (rolls-Write m e)

pub read_written : (m n : List ℕ) → written_action (A.Read m n) ≡ T.Read m n
read_written m n = act_rolls (Act-F.Read m n) (A.Read m n) (rolls-Read m n)

pub take_written : (n : List ℕ) → written_action (A.Take n) ≡ T.Take n
take_written n = act_rolls (Act-F.Take n) (A.Take n) (rolls-Take n)

pub emit_written : (e : Expr) → written_action (A.Emit e) ≡ T.Emit (written_expression e)
emit_written e = act_rolls (Act-F.Emit e) (A.Emit e) (rolls-Emit e)

pub for_written : (c : List ℕ) (n : ℕ) (b : List Stmt) → written_action (A.For c n b) ≡ T.For c n (written_block b)
for_written c n b = act_rolls (Act-F.For c n b) (A.For c n b) (rolls-For c n b)

pub if_written : (e : Expr) (b c : List Stmt)
    → written_action (A.If e b c) ≡ T.If (written_expression e) (written_block b) (written_block c)
if_written e b c = act_rolls (Act-F.If e b c) (A.If e b c) (rolls-If e b c)

-- a statement is what it does, on its line
pub statement_written : (s : Stmt) → written_statement s ≡ record { line = s.line; act = written_action s.act }
statement_written s = fold_out-Stmt WrittenAction WrittenStatement act_step statement_step s

-- one statement before others
pub block_written : (s : Stmt) (ss : List Stmt) → written_block (s ∷ ss) ≡ T.Then s.line (written_action s.act) (written_block ss)
block_written s ss = ap (λ (w : WrittenStatement). T.Then w.line w.act (written_block ss)) (statement_written s)
