-- The nodes of small trees.
use Rattle.std.proofs.Common.{◌≡◌, ℕ, ◌+◌, List, [], ◌∷◌, map, sym, ap, ◌∙◌}
use Rattle.std.specs.Prelude.{codes}
use Rattle.std.specs.List.{sum}
use Rattle.sys_base.specs.declared.kinds.Op.{Op}
use Rattle.sys_base.specs.declared.kinds.Op.TheVariants as O
use Rattle.cell_tree.specs.Nodes.{nodes_step, expression_nodes, act_nodes, statement_nodes, cell_nodes}
use Rattle.cell_tree.specs.declared.expression.Expr.{Expr}
use Rattle.cell_tree.specs.declared.expression.Expr.TheFolds.{fold-roll-Expr}
use Rattle.cell_tree.specs.declared.expression.Expr.TheOpen.{Expr-F}
use Rattle.cell_tree.specs.declared.expression.Expr.TheVariants as E
use Rattle.cell_tree.specs.declared.expression.Expr.TheVariants.{rolls-Number, rolls-Named, rolls-At, rolls-Negate, rolls-Binary}
use Rattle.cell_tree.specs.declared.source.CellDecl.{CellDecl}
use Rattle.cell_tree.specs.declared.statement.Act.{Act}
use Rattle.cell_tree.specs.declared.statement.Act.TheFolds.{fold-Act, fold-roll-Act, fold_out-Stmt, map-Act}
use Rattle.cell_tree.specs.declared.statement.Act.TheOpen.{Act-F}
use Rattle.cell_tree.specs.declared.statement.Act.TheVariants as A
use Rattle.cell_tree.specs.declared.statement.Act.TheVariants.{rolls-Set, rolls-SetAt, rolls-Write, rolls-Read, rolls-Take, rolls-Emit, rolls-For, rolls-If}
use Rattle.cell_tree.specs.declared.statement.Act.TheViews.{roll-Act}
use Rattle.cell_tree.specs.declared.statement.Stmt.{Stmt}

-- the nodes of each form of expression
number_nodes : (n : ℕ) → expression_nodes (E.Number n) ≡ 1
number_nodes n = ap expression_nodes (sym (rolls-Number n)) ∙ fold-roll-Expr ℕ nodes_step (Expr-F.Number n)

named_nodes : (n : List ℕ) → expression_nodes (E.Named n) ≡ 1
named_nodes n = ap expression_nodes (sym (rolls-Named n)) ∙ fold-roll-Expr ℕ nodes_step (Expr-F.Named n)

element_nodes : (n : List ℕ) (e : Expr) → expression_nodes (E.At n e) ≡ 1 + expression_nodes e
element_nodes n e = ap expression_nodes (sym (rolls-At n e)) ∙ fold-roll-Expr ℕ nodes_step (Expr-F.At n e)

negate_nodes : (e : Expr) → expression_nodes (E.Negate e) ≡ 1 + expression_nodes e
negate_nodes e = ap expression_nodes (sym (rolls-Negate e)) ∙ fold-roll-Expr ℕ nodes_step (Expr-F.Negate e)

binary_nodes : (op : Op) (e f : Expr) → expression_nodes (E.Binary op e f) ≡ 1 + expression_nodes e + expression_nodes f
binary_nodes op e f = ap expression_nodes (sym (rolls-Binary op e f)) ∙ fold-roll-Expr ℕ nodes_step (Expr-F.Binary op e f)

-- the nodes of each form of statement
abbrev nodes_in : Act → ℕ
nodes_in = fold-Act ℕ ℕ act_nodes (λ statement. statement.act)

statement_nodes_is : (s : Stmt) → statement_nodes s ≡ nodes_in s.act
statement_nodes_is s = fold_out-Stmt ℕ ℕ act_nodes (λ statement. statement.act) s

nodes_roll : (x : Act-F Act Stmt) (a : Act) → roll-Act x ≡ a → nodes_in a ≡ act_nodes (map-Act Act Stmt ℕ ℕ nodes_in statement_nodes x)
nodes_roll x a is = ap nodes_in (sym is) ∙ fold-roll-Act ℕ ℕ act_nodes (λ statement. statement.act) x

set_nodes : (n : List ℕ) (e : Expr) → nodes_in (A.Set n e) ≡ 1 + expression_nodes e
set_nodes n e = nodes_roll (Act-F.Set n e) (A.Set n e) (rolls-Set n e)

set_at_nodes : (n : List ℕ) (e f : Expr) → nodes_in (A.SetAt n e f) ≡ 1 + expression_nodes e + expression_nodes f
set_at_nodes n e f = nodes_roll (Act-F.SetAt n e f) (A.SetAt n e f) (rolls-SetAt n e f)

write_nodes : (m : List ℕ) (e : Expr) → nodes_in (A.Write m e) ≡ 1 + expression_nodes e
write_nodes m e = nodes_roll (Act-F.Write m e) (A.Write m e) (rolls-Write m e)

read_nodes : (m n : List ℕ) → nodes_in (A.Read m n) ≡ 1
read_nodes m n = nodes_roll (Act-F.Read m n) (A.Read m n) (rolls-Read m n)

take_nodes : (n : List ℕ) → nodes_in (A.Take n) ≡ 1
take_nodes n = nodes_roll (Act-F.Take n) (A.Take n) (rolls-Take n)

emit_nodes : (e : Expr) → nodes_in (A.Emit e) ≡ 1 + expression_nodes e
emit_nodes e = nodes_roll (Act-F.Emit e) (A.Emit e) (rolls-Emit e)

for_nodes : (c : List ℕ) (n : ℕ) (b : List Stmt) → nodes_in (A.For c n b) ≡ 2 + sum (map statement_nodes b)
for_nodes c n b = nodes_roll (Act-F.For c n b) (A.For c n b) (rolls-For c n b)

if_nodes : (e : Expr) (b c : List Stmt)
    → nodes_in (A.If e b c) ≡ 2 + expression_nodes e + sum (map statement_nodes b) + sum (map statement_nodes c)
if_nodes e b c = nodes_roll (Act-F.If e b c) (A.If e b c) (rolls-If e b c)

ruleset nodes_rules = (
  number_nodes,
  named_nodes,
  element_nodes,
  negate_nodes,
  binary_nodes,
  statement_nodes_is,
  set_nodes,
  set_at_nodes,
  write_nodes,
  read_nodes,
  take_nodes,
  emit_nodes,
  for_nodes,
  if_nodes,
)

-- the statement on some line
abbrev on : Act → Stmt
on act = record { line = 1; act = act }

abbrev x : Expr
x = E.Named (codes "x")

-- `a[0] + -x` has five: the sum, the element, its index, the negation and the variable
nodes_of_sum : expression_nodes (E.Binary O.Add (E.At (codes "a") (E.Number 0)) (E.Negate x)) ≡ 5
nodes_of_sum = simp nodes_rules

-- `a[x] = -x;` has one more than its operands
nodes_of_store : statement_nodes (on (A.SetAt (codes "a") x (E.Negate x))) ≡ 4
nodes_of_store = simp nodes_rules

-- `read m x;` has no operand
nodes_of_read : statement_nodes (on (A.Read (codes "m") (codes "x"))) ≡ 1
nodes_of_read = simp nodes_rules

-- `for i 9 { take x; write m x; }` counts its statements once, however often it turns
nodes_of_loop : statement_nodes (on (A.For (codes "i") 9 (on (A.Take (codes "x")) ∷ on (A.Write (codes "m") x) ∷ []))) ≡ 5
nodes_of_loop = simp nodes_rules

-- `if x { x = x; } else { emit x; }` counts its test and both arms
nodes_of_choice : statement_nodes (on (A.If x (on (A.Set (codes "x") x) ∷ []) (on (A.Emit x) ∷ []))) ≡ 7
nodes_of_choice = simp nodes_rules

-- a cell with these two statements
abbrev cell : CellDecl
cell = record {
  place = record { row = 0; col = 0 };
  vars = [];
  body = on (A.Take (codes "x")) ∷ on (A.Emit x) ∷ [];
  line = 1;
}

nodes_of_cell : cell_nodes cell ≡ 4
nodes_of_cell = simp nodes_rules
