-- The depths of each form of expression and of statement, by those of its parts.
use Rattle.std.proofs.Common.{◌≡◌, ℕ, ◌+◌, List, map, max, sym, ap, ◌∙◌}
use Rattle.sys_base.specs.declared.kinds.Op.{Op}
use Rattle.cell_tree.specs.Depth.{greatest, depth_step, stack_depth, act_stack, statement_stack, act_loops, statement_loops}
use Rattle.cell_tree.specs.declared.expression.Expr.{Expr}
use Rattle.cell_tree.specs.declared.expression.Expr.TheFolds.{fold-roll-Expr}
use Rattle.cell_tree.specs.declared.expression.Expr.TheOpen.{Expr-F}
use Rattle.cell_tree.specs.declared.expression.Expr.TheVariants as E
use Rattle.cell_tree.specs.declared.expression.Expr.TheVariants.{rolls-Number, rolls-Named, rolls-At, rolls-Negate, rolls-Binary}
use Rattle.cell_tree.specs.declared.statement.Act.{Act}
use Rattle.cell_tree.specs.declared.statement.Act.TheFolds.{fold-Act, fold-roll-Act, fold_out-Stmt, map-Act}
use Rattle.cell_tree.specs.declared.statement.Act.TheOpen.{Act-F}
use Rattle.cell_tree.specs.declared.statement.Act.TheVariants as A
use Rattle.cell_tree.specs.declared.statement.Act.TheViews.{roll-Act}
use Rattle.cell_tree.specs.declared.statement.Act.TheVariants.{rolls-Set, rolls-SetAt, rolls-Write, rolls-Read, rolls-Take, rolls-Emit, rolls-For, rolls-If}
use Rattle.cell_tree.specs.declared.statement.Stmt.{Stmt}

-- how deep a stack each form of expression needs
pub number_stack : (n : ℕ) → stack_depth (E.Number n) ≡ 1
number_stack n = ap stack_depth (sym (rolls-Number n)) ∙ fold-roll-Expr ℕ depth_step (Expr-F.Number n)

pub named_stack : (n : List ℕ) → stack_depth (E.Named n) ≡ 1
named_stack n = ap stack_depth (sym (rolls-Named n)) ∙ fold-roll-Expr ℕ depth_step (Expr-F.Named n)

pub element_stack : (n : List ℕ) (e : Expr) → stack_depth (E.At n e) ≡ stack_depth e
element_stack n e = ap stack_depth (sym (rolls-At n e)) ∙ fold-roll-Expr ℕ depth_step (Expr-F.At n e)

pub negate_stack : (e : Expr) → stack_depth (E.Negate e) ≡ stack_depth e
negate_stack e = ap stack_depth (sym (rolls-Negate e)) ∙ fold-roll-Expr ℕ depth_step (Expr-F.Negate e)

pub binary_stack : (op : Op) (e f : Expr) → stack_depth (E.Binary op e f) ≡ max (stack_depth e) (1 + stack_depth f)
binary_stack op e f = ap stack_depth (sym (rolls-Binary op e f)) ∙ fold-roll-Expr ℕ depth_step (Expr-F.Binary op e f)

-- the depth of the stack of what a statement does, and its loops
abbrev pub stack_in : Act → ℕ
stack_in = fold-Act ℕ ℕ act_stack (λ statement. statement.act)

abbrev pub loops_in : Act → ℕ
loops_in = fold-Act ℕ ℕ act_loops (λ statement. statement.act)

-- a statement is as deep as what it does: its line counts for nothing
pub statement_stack_is : (s : Stmt) → statement_stack s ≡ stack_in s.act
statement_stack_is s = fold_out-Stmt ℕ ℕ act_stack (λ statement. statement.act) s

pub statement_loops_is : (s : Stmt) → statement_loops s ≡ loops_in s.act
statement_loops_is s = fold_out-Stmt ℕ ℕ act_loops (λ statement. statement.act) s

-- how deep a stack each form of statement needs
stack_rolls : (x : Act-F Act Stmt) (a : Act) → roll-Act x ≡ a → stack_in a ≡ act_stack (map-Act Act Stmt ℕ ℕ stack_in statement_stack x)
stack_rolls x a is = ap stack_in (sym is) ∙ fold-roll-Act ℕ ℕ act_stack (λ statement. statement.act) x

pub set_stack : (n : List ℕ) (e : Expr) → stack_in (A.Set n e) ≡ stack_depth e
set_stack n e = stack_rolls (Act-F.Set n e) (A.Set n e) (rolls-Set n e)

pub set_at_stack : (n : List ℕ) (e f : Expr) → stack_in (A.SetAt n e f) ≡ max (stack_depth e) (1 + stack_depth f)
set_at_stack n e f = stack_rolls (Act-F.SetAt n e f) (A.SetAt n e f) (rolls-SetAt n e f)

pub write_stack : (m : List ℕ) (e : Expr) → stack_in (A.Write m e) ≡ stack_depth e
write_stack m e = stack_rolls (Act-F.Write m e) (A.Write m e) (rolls-Write m e)

pub read_stack : (m n : List ℕ) → stack_in (A.Read m n) ≡ 0
read_stack m n = stack_rolls (Act-F.Read m n) (A.Read m n) (rolls-Read m n)

pub take_stack : (n : List ℕ) → stack_in (A.Take n) ≡ 0
take_stack n = stack_rolls (Act-F.Take n) (A.Take n) (rolls-Take n)

pub emit_stack : (e : Expr) → stack_in (A.Emit e) ≡ stack_depth e
emit_stack e = stack_rolls (Act-F.Emit e) (A.Emit e) (rolls-Emit e)

pub for_stack : (c : List ℕ) (n : ℕ) (b : List Stmt) → stack_in (A.For c n b) ≡ greatest (map statement_stack b)
for_stack c n b = stack_rolls (Act-F.For c n b) (A.For c n b) (rolls-For c n b)

pub if_stack : (e : Expr) (b c : List Stmt)
    → stack_in (A.If e b c) ≡ max (stack_depth e) (max (greatest (map statement_stack b)) (greatest (map statement_stack c)))
if_stack e b c = stack_rolls (Act-F.If e b c) (A.If e b c) (rolls-If e b c)

-- how many loops stand inside one another in each form of statement
loops_roll : (x : Act-F Act Stmt) (a : Act) → roll-Act x ≡ a → loops_in a ≡ act_loops (map-Act Act Stmt ℕ ℕ loops_in statement_loops x)
loops_roll x a is = ap loops_in (sym is) ∙ fold-roll-Act ℕ ℕ act_loops (λ statement. statement.act) x

pub set_loops : (n : List ℕ) (e : Expr) → loops_in (A.Set n e) ≡ 0
set_loops n e = loops_roll (Act-F.Set n e) (A.Set n e) (rolls-Set n e)

pub set_at_loops : (n : List ℕ) (e f : Expr) → loops_in (A.SetAt n e f) ≡ 0
set_at_loops n e f = loops_roll (Act-F.SetAt n e f) (A.SetAt n e f) (rolls-SetAt n e f)

pub write_loops : (m : List ℕ) (e : Expr) → loops_in (A.Write m e) ≡ 0
write_loops m e = loops_roll (Act-F.Write m e) (A.Write m e) (rolls-Write m e)

pub read_loops : (m n : List ℕ) → loops_in (A.Read m n) ≡ 0
read_loops m n = loops_roll (Act-F.Read m n) (A.Read m n) (rolls-Read m n)

pub take_loops : (n : List ℕ) → loops_in (A.Take n) ≡ 0
take_loops n = loops_roll (Act-F.Take n) (A.Take n) (rolls-Take n)

pub emit_loops : (e : Expr) → loops_in (A.Emit e) ≡ 0
emit_loops e = loops_roll (Act-F.Emit e) (A.Emit e) (rolls-Emit e)

pub for_loops : (c : List ℕ) (n : ℕ) (b : List Stmt) → loops_in (A.For c n b) ≡ 1 + greatest (map statement_loops b)
for_loops c n b = loops_roll (Act-F.For c n b) (A.For c n b) (rolls-For c n b)

pub if_loops : (e : Expr) (b c : List Stmt)
    → loops_in (A.If e b c) ≡ max (greatest (map statement_loops b)) (greatest (map statement_loops c))
if_loops e b c = loops_roll (Act-F.If e b c) (A.If e b c) (rolls-If e b c)

-- the rules that compute the depths of a tree
pub ruleset depth_rules = (
  number_stack,
  named_stack,
  element_stack,
  negate_stack,
  binary_stack,
  statement_stack_is,
  set_stack,
  set_at_stack,
  write_stack,
  read_stack,
  take_stack,
  emit_stack,
  for_stack,
  if_stack,
  statement_loops_is,
  set_loops,
  set_at_loops,
  write_loops,
  read_loops,
  take_loops,
  emit_loops,
  for_loops,
  if_loops,
)
