-- The nodes of a source are no more than the tokens that it is read from.
use Rattle.std.proofs.Common.{◌≡◌, ℕ, ◌+◌, ◌≤◌, List, ◌∷◌, length, map, Option, sym, ap, ◌∙◌, subst, arith}
use Rattle.std.specs.List.{sum}
use Rattle.std.proofs.lemmas.List.Sums.{sum_by-cons}
use Rattle.sys_base.specs.declared.kinds.Dir.{Dir}
use Rattle.sys_base.specs.declared.kinds.Op.{Op}
use Rattle.cell_lexer.specs.declared.token.Token.{Token}
use Rattle.cell_tree.specs.Nodes.{nodes_step, expression_nodes, act_nodes, statement_nodes, cell_nodes, source_nodes}
use Rattle.cell_tree.specs.declared.expression.Expr.{Expr}
use Rattle.cell_tree.specs.declared.expression.Expr.TheFolds.{fold-roll-Expr}
use Rattle.cell_tree.specs.declared.expression.Expr.TheOpen.{Expr-F}
use Rattle.cell_tree.specs.declared.expression.Expr.TheVariants as E
use Rattle.cell_tree.specs.declared.expression.Expr.TheVariants.{rolls-Number, rolls-Named, rolls-At, rolls-Negate, rolls-Binary}
use Rattle.cell_tree.specs.declared.source.CellDecl.{CellDecl}
use Rattle.cell_tree.specs.declared.source.LinkDecl.{LinkDecl}
use Rattle.cell_tree.specs.declared.source.MessageDecl.{MessageDecl}
use Rattle.cell_tree.specs.declared.source.Place.{Place}
use Rattle.cell_tree.specs.declared.source.Source.{Source}
use Rattle.cell_tree.specs.declared.source.VarDecl.{VarDecl}
use Rattle.cell_tree.specs.declared.statement.Act.{Act}
use Rattle.cell_tree.specs.declared.statement.Act.TheFolds.{fold-Act, fold-roll-Stmt, fold-roll-Act, map-Act}
use Rattle.cell_tree.specs.declared.statement.Act.TheOpen.{Act-F, Stmt-F}
use Rattle.cell_tree.specs.declared.statement.Act.TheVariants as A
use Rattle.cell_tree.specs.declared.statement.Act.TheVariants.{rolls-Set, rolls-SetAt, rolls-Write, rolls-Read, rolls-Take, rolls-Emit, rolls-For, rolls-If}
use Rattle.cell_tree.specs.declared.statement.Act.TheViews.{roll-Act}
use Rattle.cell_tree.specs.declared.statement.Stmt.{Stmt}
use Rattle.cell_parser.specs.Grammar.{ReadsExpr, ReadsStmt, ReadsBody, Star, Reads, ReadsPlace, ReadsDir, ReadsRoute, ReadsLabel, ReadsLength, ReadsBuffer, ReadsLink, ReadsMessage, ReadsVar, ReadsCell, on_line}
use Rattle.cell_parser.specs.Grammar as G
use Rattle.cell_parser.specs.Lexeme.{Lexeme, lexemes}
use Rattle.cell_parser.proofs.Outcomes.{lexemes_length}

negate_nodes : (e : Expr) → expression_nodes (E.Negate e) ≡ 1 + expression_nodes e
negate_nodes e = ap expression_nodes (sym (rolls-Negate e)) ∙ fold-roll-Expr ℕ nodes_step (Expr-F.Negate e)

element_nodes : (n : List ℕ) (e : Expr) → expression_nodes (E.At n e) ≡ 1 + expression_nodes e
element_nodes n e = ap expression_nodes (sym (rolls-At n e)) ∙ fold-roll-Expr ℕ nodes_step (Expr-F.At n e)

binary_nodes : (op : Op) (e f : Expr) → expression_nodes (E.Binary op e f) ≡ 1 + expression_nodes e + expression_nodes f
binary_nodes op e f = ap expression_nodes (sym (rolls-Binary op e f)) ∙ fold-roll-Expr ℕ nodes_step (Expr-F.Binary op e f)

number_nodes : (n : ℕ) → expression_nodes (E.Number n) ≡ 1
number_nodes n = ap expression_nodes (sym (rolls-Number n)) ∙ fold-roll-Expr ℕ nodes_step (Expr-F.Number n)

named_nodes : (n : List ℕ) → expression_nodes (E.Named n) ≡ 1
named_nodes n = ap expression_nodes (sym (rolls-Named n)) ∙ fold-roll-Expr ℕ nodes_step (Expr-F.Named n)

-- So many nodes are no more than the lexemes up to the rest.
abbrev Few : ℕ → List Lexeme → List Lexeme → Type 0
Few nodes ts us = nodes + length us ≤ length ts

expression_few : {level : G.Level} {e : Expr} {ts us : List Lexeme} → ReadsExpr level e ts us → Few (expression_nodes e) ts us
expression_few (G.sum r) = expression_few r
expression_few (G.comparison {op = op} {e = e} {f = f} p is q) = omega (arith, binary_nodes op e f, expression_few p, expression_few q)
expression_few (G.term r) = expression_few r
expression_few (G.addition {op = op} {e = e} {f = f} p is q) = omega (arith, binary_nodes op e f, expression_few p, expression_few q)
expression_few (G.unary r) = expression_few r
expression_few (G.product {op = op} {e = e} {f = f} p is q) = omega (arith, binary_nodes op e f, expression_few p, expression_few q)
expression_few (G.minus {e = e} r) = omega (arith, negate_nodes e, expression_few r)
expression_few (G.atom r) = expression_few r
expression_few (G.number {n = n}) = omega (arith, number_nodes n)
expression_few (G.named {n = n}) = omega (arith, named_nodes n)
expression_few (G.element {n = n} {e = e} r) = omega (arith, element_nodes n e, expression_few r)
expression_few (G.parens r) = omega (arith, expression_few r)

-- the nodes of a statement are those of what it does
nodes_on : (l : ℕ) (x : Act-F Act Stmt) (a : Act) → roll-Act x ≡ a
    → statement_nodes (on_line l a) ≡ act_nodes (map-Act Act Stmt ℕ ℕ (fold-Act ℕ ℕ act_nodes (λ statement. statement.act)) statement_nodes x)
nodes_on l x a r =
    let s : Stmt-F Act Stmt = record { line = l; act = a } in
    fold-roll-Stmt ℕ ℕ act_nodes (λ statement. statement.act) s
    ∙ ap (fold-Act ℕ ℕ act_nodes (λ statement. statement.act)) (sym r)
    ∙ fold-roll-Act ℕ ℕ act_nodes (λ statement. statement.act) x

sum_more : (n : ℕ) (ns : List ℕ) → sum (n ∷ ns) ≡ n + sum ns
sum_more n ns = sum_by-cons (λ k. k) n ns

abbrev body_nodes : List Stmt → ℕ
body_nodes b = sum (map statement_nodes b)

mutual
  statement_few : {s : Stmt} {ts us : List Lexeme} → ReadsStmt s ts us → Few (statement_nodes s) ts us
  statement_few (G.set {l = l} {n = n} {e = e} r) =
      let is : statement_nodes (on_line l (A.Set n e)) ≡ 1 + expression_nodes e = nodes_on l (Act-F.Set n e) (A.Set n e) (rolls-Set n e) in
      omega (arith, is, expression_few r)
  statement_few (G.set_at {l = l} {n = n} {e = e} {f = f} p q) =
      let is : statement_nodes (on_line l (A.SetAt n e f)) ≡ 1 + expression_nodes e + expression_nodes f =
      nodes_on l (Act-F.SetAt n e f) (A.SetAt n e f) (rolls-SetAt n e f) in
      omega (arith, is, expression_few p, expression_few q)
  statement_few (G.write {l = l} {m = m} {e = e} r) =
      let is : statement_nodes (on_line l (A.Write m e)) ≡ 1 + expression_nodes e =
      nodes_on l (Act-F.Write m e) (A.Write m e) (rolls-Write m e) in
      omega (arith, is, expression_few r)
  statement_few (G.read {l = l} {m = m} {n = n}) =
      let is : statement_nodes (on_line l (A.Read m n)) ≡ 1 = nodes_on l (Act-F.Read m n) (A.Read m n) (rolls-Read m n) in
      omega (arith, is)
  statement_few (G.take {l = l} {n = n}) =
      let is : statement_nodes (on_line l (A.Take n)) ≡ 1 = nodes_on l (Act-F.Take n) (A.Take n) (rolls-Take n) in
      omega (arith, is)
  statement_few (G.emit {l = l} {e = e} r) =
      let is : statement_nodes (on_line l (A.Emit e)) ≡ 1 + expression_nodes e = nodes_on l (Act-F.Emit e) (A.Emit e) (rolls-Emit e) in
      omega (arith, is, expression_few r)
  statement_few (G.loop {l = l} {n = n} {c = c} {b = b} r) =
      let is : statement_nodes (on_line l (A.For c n b)) ≡ 2 + body_nodes b =
      nodes_on l (Act-F.For c n b) (A.For c n b) (rolls-For c n b) in
      omega (arith, is, body_few r)
  statement_few (G.choice {l = l} {e = e} {b = b} {c = c} p q r) =
      let is : statement_nodes (on_line l (A.If e b c)) ≡ 2 + expression_nodes e + body_nodes b + body_nodes c =
      nodes_on l (Act-F.If e b c) (A.If e b c) (rolls-If e b c) in
      omega (arith, is, expression_few p, body_few q, body_few r)

  body_few : {b : List Stmt} {ts us : List Lexeme} → ReadsBody b ts us → Few (body_nodes b) ts us
  body_few G.none = omega arith
  body_few (G.more {s = s} {b = b} p q) =
      let is : body_nodes (s ∷ b) ≡ statement_nodes s + body_nodes b = sum_more (statement_nodes s) (map statement_nodes b) in
      omega (arith, is, statement_few p, body_few q)

place_few : {p : Place} {ts us : List Lexeme} → ReadsPlace p ts us → Few 0 ts us
place_few G.place = omega arith

dir_few : {d : Dir} {ts us : List Lexeme} → ReadsDir d ts us → Few 0 ts us
dir_few (G.dir e) = omega arith

-- the rest of what items are read from is no longer
star_few : {A : Type 0} (R : A → List Lexeme → List Lexeme → Type 0) → ((a : A) (ts us : List Lexeme) → R a ts us → Few 0 ts us)
    → {xs : List A} {ts us : List Lexeme} → Star R xs ts us → Few 0 ts us
star_few R f G.done = omega arith
star_few R f (G.next {a = a} {ts = ts} {us = us} p q) = omega (arith, f a ts us p, star_few R f q)

route_few : {ds : List Dir} {ts us : List Lexeme} → ReadsRoute ds ts us → Few 0 ts us
route_few G.no_route = omega arith
route_few (G.route p q) = omega (arith, dir_few p, star_few ReadsDir (λ _ _ _ r. dir_few r) q)

label_few : {o : Option ℕ} {ts us : List Lexeme} → ReadsLabel o ts us → Few 0 ts us
label_few G.no_label = omega arith
label_few G.label = omega arith

length_few : {o : Option ℕ} {ts us : List Lexeme} → ReadsLength o ts us → Few 0 ts us
length_few G.no_length = omega arith
length_few G.length = omega arith

buffer_few : {b : ℕ × ℕ} {ts us : List Lexeme} → ReadsBuffer b ts us → Few 0 ts us
buffer_few G.no_buffer = omega arith
buffer_few G.buffer = omega arith

link_few : {a : LinkDecl} {ts us : List Lexeme} → ReadsLink a ts us → Few 0 ts us
link_few (G.link x y) = omega (arith, place_few x, dir_few y)

message_few : {m : MessageDecl} {ts us : List Lexeme} → ReadsMessage m ts us → Few 0 ts us
message_few (G.message x y z w) = omega (arith, place_few x, place_few y, route_few z, label_few w)

var_few : {v : VarDecl} {ts us : List Lexeme} → ReadsVar v ts us → Few 0 ts us
var_few (G.variable x) = omega (arith, length_few x)

cell_few : {c : CellDecl} {ts us : List Lexeme} → ReadsCell c ts us → Few (cell_nodes c) ts us
cell_few (G.cell x y z) = omega (arith, place_few x, star_few ReadsVar (λ _ _ _ r. var_few r) y, body_few z)

cells_few : {cs : List CellDecl} {ts us : List Lexeme} → Star ReadsCell cs ts us → Few (sum (map cell_nodes cs)) ts us
cells_few G.done = omega arith
cells_few (G.next {a = c} {rest = cs} p q) =
    let is : sum (map cell_nodes (c ∷ cs)) ≡ cell_nodes c + sum (map cell_nodes cs) = sum_more (cell_nodes c) (map cell_nodes cs) in
    omega (arith, is, cell_few p, cells_few q)

source_few : {ts : List Lexeme} {s : Source} → Reads ts s → source_nodes s ≤ length ts
source_few (G.program x setting links messages cells) =
    omega (arith, buffer_few setting, star_few ReadsLink (λ _ _ _ r. link_few r) links, star_few ReadsMessage (λ _ _ _ r. message_few r) messages, cells_few cells)

pub few_nodes : (text : List ℕ) (ts : List Token) (s : Source) → Reads (lexemes text ts) s → source_nodes s ≤ length ts
few_nodes text ts s r = subst (λ n. source_nodes s ≤ n) (lexemes_length text ts) (source_few r)
