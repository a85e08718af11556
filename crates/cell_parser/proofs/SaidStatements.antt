-- The words of a statement read to it, but for its lines.
use Rattle.std.proofs.Common.{◌≡◌, ℕ, ◌+◌, List, [], ◌∷◌, ◌++◌, map, refl, sym, subst, ap, ◌∙◌}
use Rattle.std.specs.List.{flat_map}
use Rattle.sys_base.specs.declared.key.Key.TheVariants as K
use Rattle.cell_lexer.specs.declared.token.Mark.TheVariants as M
use Rattle.cell_tree.specs.Pieces.{none, space, line}
use Rattle.cell_tree.specs.declared.expression.Expr.{Expr}
use Rattle.cell_tree.specs.declared.statement.Act.{Act}
use Rattle.cell_tree.specs.declared.statement.Act.TheFolds.{fold-Act, fold-roll-Stmt, fold-roll-Act, ind-Stmt, map-Act, map-Stmt}
use Rattle.cell_tree.specs.declared.statement.Act.TheOpen.{Act-F, Stmt-F}
use Rattle.cell_tree.specs.declared.statement.Act.TheVariants as A
use Rattle.cell_tree.specs.declared.statement.Act.TheVariants.{rolls-Set, rolls-SetAt, rolls-Write, rolls-Read, rolls-Take, rolls-Emit, rolls-For, rolls-If}
use Rattle.cell_tree.specs.declared.statement.Act.TheViews.{roll-Stmt, roll-Act}
use Rattle.cell_tree.specs.declared.statement.Stmt.{Stmt}
use Rattle.cell_parser.specs.Grammar.{Whole, ReadsExpr, on_line, ReadsStmt, ReadsBody, more}
use Rattle.cell_parser.specs.Grammar as G
use Rattle.cell_parser.specs.Lexeme.{Named, Numeral, Keyword, Marked, Lexeme, At}
use Rattle.cell_parser.specs.Printed.{unlined_act, unlined_step, unlined_statement}
use Rattle.cell_parser.specs.Inner.Told.{Told, Tell, tell, tell_expression, Uttered, tell_act, tell_step, tell_statement}
use Rattle.cell_parser.proofs.SaidWords.{Said, said_none, said_next, split, split_end}
use Rattle.cell_parser.proofs.SaidExpressions.{expression_said}

-- what a statement does, without lines
abbrev pub unlined_of : Act → Act
unlined_of = fold-Act Act Stmt unlined_act unlined_step

-- the words of what a statement does
abbrev pub tell_of : Act → Uttered
tell_of = fold-Act Uttered Uttered tell_act tell_step

-- The words read to a statement that does the same, but for its lines.
abbrev pub ReadsAct : Act → List Lexeme → List Lexeme → Type 0
ReadsAct a ts us = (l : ℕ) × (b : Act) × ReadsStmt (on_line l b) ts us × (unlined_of b ≡ unlined_of a)

-- The words read to the same statement, but for its lines.
abbrev pub ReadsSame : Stmt → List Lexeme → List Lexeme → Type 0
ReadsSame s ts us = (t : Stmt) × ReadsStmt t ts us × (unlined_statement t ≡ unlined_statement s)

-- The words read to the same statements, but for their lines.
abbrev pub ReadsSameBody : List Stmt → List Lexeme → List Lexeme → Type 0
ReadsSameBody b ts us = (c : List Stmt) × ReadsBody c ts us × (map unlined_statement c ≡ map unlined_statement b)

abbrev pub Utters : Uttered → Act → Type 0
Utters u a = (depth : ℕ) (ts us : List Lexeme) → Said (u depth) ts us → ReadsAct a ts us

abbrev pub UttersSame : Uttered → Stmt → Type 0
UttersSame u s = (depth : ℕ) (ts us : List Lexeme) → Said (u depth) ts us → ReadsSame s ts us

abbrev pub HeardBody : List Told → List Stmt → Type 0
HeardBody words b = (ts us : List Lexeme) → Said words ts us → ReadsSameBody b ts us

-- Lexemes that say these words in braces.
data Braced (words : List Told) : List Lexeme → List Lexeme → Type 0 where
  braced : {k j : ℕ} {ts us : List Lexeme} → Said words ts (At j (Marked M.CloseBrace) ∷ us)
      → Braced words (At k (Marked M.OpenBrace) ∷ ts) us

braces : (words : List Told) (g h : List ℕ) {ts us : List Lexeme}
    → Said (Tell g (Marked M.OpenBrace) ∷ (words ++ tell h (Marked M.CloseBrace))) ts us → Braced words ts us
braces words g h (said_next r) = let (j, a) = split_end words h (Marked M.CloseBrace) r in braced a

set_said : (n : List ℕ) (e : Expr) (g : List ℕ) {ts us : List Lexeme}
    → Said (Tell g (Named n) ∷ Tell space (Marked M.Assign) ∷ (tell_expression space e ++ tell none (Marked M.Semicolon))) ts us
    → ReadsAct (A.Set n e) ts us
set_said n e g {us} (said_next {l = l} (said_next {ts = vs} r)) =
    let (j, a) = split_end (tell_expression space e) none (Marked M.Semicolon) r in
    (l, A.Set n e, G.set (expression_said space e vs (At j (Marked M.Semicolon) ∷ us) a), refl)

set_at_said : (n : List ℕ) (e f : Expr) (g : List ℕ) {ts us : List Lexeme}
    → Said (Tell g (Named n) ∷ Tell none (Marked M.OpenBracket) ∷ (tell_expression none e ++ tell none (Marked M.CloseBracket)
    ++ tell space (Marked M.Assign) ++ tell_expression space f ++ tell none (Marked M.Semicolon))) ts us
    → ReadsAct (A.SetAt n e f) ts us
set_at_said n e f g {us} (said_next {l = l} (said_next {ts = vs} r)) =
    let words : List Told = tell_expression none e ++ tell none (Marked M.CloseBracket) ++ tell space (Marked M.Assign) in
    let (j, a) = split_end (words ++ tell_expression space f) none (Marked M.Semicolon) r in
    let (mid, b, c) = split words (tell_expression space f) a in
    let (i, d) = split_end (tell_expression none e ++ tell none (Marked M.CloseBracket)) space (Marked M.Assign) b in
    let (h, x) = split_end (tell_expression none e) none (Marked M.CloseBracket) d in (
      l,
      A.SetAt n e f,
      G.set_at (expression_said none e vs (At h (Marked M.CloseBracket) ∷ At i (Marked M.Assign) ∷ mid) x)
          (expression_said space f mid (At j (Marked M.Semicolon) ∷ us) c),
      refl,
    )

write_said : (m : List ℕ) (e : Expr) (g : List ℕ) {ts us : List Lexeme}
    → Said (Tell g (Keyword K.Write) ∷ Tell space (Named m) ∷ (tell_expression space e ++ tell none (Marked M.Semicolon))) ts us
    → ReadsAct (A.Write m e) ts us
write_said m e g {us} (said_next {l = l} (said_next {ts = vs} r)) =
    let (j, a) = split_end (tell_expression space e) none (Marked M.Semicolon) r in
    (l, A.Write m e, G.write (expression_said space e vs (At j (Marked M.Semicolon) ∷ us) a), refl)

read_said : (m n : List ℕ) (g : List ℕ) {ts us : List Lexeme}
    → Said (Tell g (Keyword K.Read) ∷ Tell space (Named m) ∷ Tell space (Named n) ∷ tell none (Marked M.Semicolon)) ts us
    → ReadsAct (A.Read m n) ts us
read_said m n g (said_next {l = l} (said_next (said_next (said_next said_none)))) = (l, A.Read m n, G.read, refl)

take_said : (n : List ℕ) (g : List ℕ) {ts us : List Lexeme}
    → Said (Tell g (Keyword K.Take) ∷ Tell space (Named n) ∷ tell none (Marked M.Semicolon)) ts us → ReadsAct (A.Take n) ts us
take_said n g (said_next {l = l} (said_next (said_next said_none))) = (l, A.Take n, G.take, refl)

emit_said : (e : Expr) (g : List ℕ) {ts us : List Lexeme}
    → Said (Tell g (Keyword K.Emit) ∷ (tell_expression space e ++ tell none (Marked M.Semicolon))) ts us → ReadsAct (A.Emit e) ts us
emit_said e g {us} (said_next {l = l} {ts = vs} r) =
    let (j, a) = split_end (tell_expression space e) none (Marked M.Semicolon) r in
    (l, A.Emit e, G.emit (expression_said space e vs (At j (Marked M.Semicolon) ∷ us) a), refl)

unlined_for : (c : List ℕ) (n : ℕ) (b : List Stmt) → unlined_of (A.For c n b) ≡ A.For c n (map unlined_statement b)
unlined_for c n b = ap unlined_of (sym (rolls-For c n b)) ∙ fold-roll-Act Act Stmt unlined_act unlined_step (Act-F.For c n b)

unlined_if : (e : Expr) (b c : List Stmt)
    → unlined_of (A.If e b c) ≡ A.If e (map unlined_statement b) (map unlined_statement c)
unlined_if e b c = ap unlined_of (sym (rolls-If e b c)) ∙ fold-roll-Act Act Stmt unlined_act unlined_step (Act-F.If e b c)

loop_braced : (c : List ℕ) (n l k j : ℕ) (b : List Stmt) (words : List Told) → HeardBody words b → {ts us : List Lexeme}
    → Braced words ts us
    → ReadsAct (A.For c n b) (At l (Keyword K.For) ∷ At k (Named c) ∷ At j (Numeral n) ∷ ts) us
loop_braced c n l k j b words f {us} (braced {j = h} {ts = ts} a) =
    let (d, r, q) = f ts (At h (Marked M.CloseBrace) ∷ us) a in
    (l, A.For c n d, G.loop r, unlined_for c n d ∙ ap (λ x. A.For c n x) q ∙ sym (unlined_for c n b))

loop_said : (c : List ℕ) (n : ℕ) (b : List Stmt) (g h : List ℕ) (words : List Told) → HeardBody words b → {ts us : List Lexeme}
    → Said (Tell g (Keyword K.For) ∷ Tell space (Named c) ∷ Tell space (Numeral n) ∷ Tell space (Marked M.OpenBrace)
    ∷ (words ++ tell h (Marked M.CloseBrace))) ts us
    → ReadsAct (A.For c n b) ts us
loop_said c n b g h words f (said_next {l = l} (said_next {l = k} (said_next {l = j} r))) =
    loop_braced c n l k j b words f (braces words space h r)

choice_braced : (e : Expr) (l i : ℕ) (b c : List Stmt) (first second : List Told)
    → HeardBody first b → HeardBody second c → {ts us vs ws : List Lexeme}
    → Said (tell_expression space e) ts us → Braced first us (At i (Keyword K.Else) ∷ vs) → Braced second vs ws
    → ReadsAct (A.If e b c) (At l (Keyword K.If) ∷ ts) ws
choice_braced e l i b c first second f g {ts} {ws} a (braced {k = k} {j = j} {ts = us} p) (braced {k = h} {j = m} {ts = vs} q) =
    let (x, r, s) = f us (At j (Marked M.CloseBrace) ∷ At i (Keyword K.Else) ∷ At h (Marked M.OpenBrace) ∷ vs) p in
    let (y, t, u) = g vs (At m (Marked M.CloseBrace) ∷ ws) q in (
      l,
      A.If e x y,
      G.choice (expression_said space e ts (At k (Marked M.OpenBrace) ∷ us) a) r t,
      unlined_if e x y ∙ ap (λ z. A.If e z (map unlined_statement y)) s ∙ ap (λ z. A.If e (map unlined_statement b) z) u
          ∙ sym (unlined_if e b c),
    )

choice_said : (e : Expr) (b c : List Stmt) (g h i : List ℕ) (first second : List Told)
    → HeardBody first b → HeardBody second c → {ts us : List Lexeme}
    → Said (Tell g (Keyword K.If) ∷ (tell_expression space e
    ++ (Tell space (Marked M.OpenBrace) ∷ (first ++ tell h (Marked M.CloseBrace))) ++ tell space (Keyword K.Else)
    ++ (Tell space (Marked M.OpenBrace) ∷ (second ++ tell i (Marked M.CloseBrace))))) ts us
    → ReadsAct (A.If e b c) ts us
choice_said e b c g h i first second f k (said_next {l = l} r) =
    let one : List Told = Tell space (Marked M.OpenBrace) ∷ (first ++ tell h (Marked M.CloseBrace)) in
    let two : List Told = Tell space (Marked M.OpenBrace) ∷ (second ++ tell i (Marked M.CloseBrace)) in
    let (mid, a, d) = split (tell_expression space e ++ one ++ tell space (Keyword K.Else)) two r in
    let (j, p) = split_end (tell_expression space e ++ one) space (Keyword K.Else) a in
    let (start, x, y) = split (tell_expression space e) one p in
    choice_braced e l j b c first second f k x (braces first space h y) (braces second space i d)

-- The words of a statement read to it.
abbrev pub UttersItself : Act → Type 0
UttersItself a = Utters (tell_of a) a

abbrev pub UttersSelf : Stmt → Type 0
UttersSelf s = UttersSame (tell_statement s) s

body_said : (items : List ((s : Stmt) × UttersSelf s)) (depth : ℕ)
    → HeardBody (flat_map (λ (u : Uttered). u depth) (map tell_statement (map (λ e. e.0) items))) (map (λ e. e.0) items)
body_said [] depth ts us said_none = ([], G.none, refl)
body_said (e ∷ items) depth ts us c =
    let rest : List Told = flat_map (λ (u : Uttered). u depth) (map tell_statement (map (λ e. e.0) items)) in
    let (mid, a, b) = split (tell_statement e.0 depth) rest c in
    let (t, r, p) = e.1 depth ts mid a in
    let (d, s, q) = body_said items depth mid us b in
    (t ∷ d, G.more r s, ap (λ x. x ∷ map unlined_statement d) p ∙ ap (λ x. unlined_statement e.0 ∷ x) q)

close : (x : Act-F Act Stmt) (a : Act) → roll-Act x ≡ a → Utters (tell_act (map-Act Act Stmt Uttered Uttered tell_of tell_statement x)) a
    → UttersItself (roll-Act x)
close x a r h =
    subst (λ (b : Act). Utters (tell_of (roll-Act x)) b) (sym r)
    (subst (λ (u : Uttered). Utters u a) (sym (fold-roll-Act Uttered Uttered tell_act tell_step x)) h)

abbrev ActFact : Type 0
ActFact = (a : Act) × UttersItself a

abbrev StmtFact : Type 0
StmtFact = (s : Stmt) × UttersSelf s

act_layer : (y : Act-F ActFact StmtFact) → UttersItself (roll-Act (map-Act ActFact StmtFact Act Stmt (λ e. e.0) (λ e. e.0) y))
act_layer (Act-F.Set n e) = close (Act-F.Set n e) (A.Set n e) (rolls-Set n e) (λ depth ts us c. set_said n e (line depth) c)
act_layer (Act-F.SetAt n e f) = close (Act-F.SetAt n e f) (A.SetAt n e f) (rolls-SetAt n e f)
    (λ depth ts us c. set_at_said n e f (line depth) c)
act_layer (Act-F.Write m e) = close (Act-F.Write m e) (A.Write m e) (rolls-Write m e) (λ depth ts us c. write_said m e (line depth) c)
act_layer (Act-F.Read m n) = close (Act-F.Read m n) (A.Read m n) (rolls-Read m n) (λ depth ts us c. read_said m n (line depth) c)
act_layer (Act-F.Take n) = close (Act-F.Take n) (A.Take n) (rolls-Take n) (λ depth ts us c. take_said n (line depth) c)
act_layer (Act-F.Emit e) = close (Act-F.Emit e) (A.Emit e) (rolls-Emit e) (λ depth ts us c. emit_said e (line depth) c)
act_layer (Act-F.For c n b) =
    let kept : List Stmt = map (λ (e : StmtFact). e.0) b in
    close (Act-F.For c n kept) (A.For c n kept) (rolls-For c n kept)
    (λ depth ts us s. loop_said c n kept (line depth) (line depth) (flat_map (λ (u : Uttered). u (depth + 1)) (map tell_statement kept))
    (body_said b (depth + 1)) s)
act_layer (Act-F.If e b c) =
    let first : List Stmt = map (λ (e : StmtFact). e.0) b in
    let second : List Stmt = map (λ (e : StmtFact). e.0) c in
    close (Act-F.If e first second) (A.If e first second) (rolls-If e first second)
    (λ depth ts us s. choice_said e first second (line depth) (line depth) (line depth)
    (flat_map (λ (u : Uttered). u (depth + 1)) (map tell_statement first))
    (flat_map (λ (u : Uttered). u (depth + 1)) (map tell_statement second))
    (body_said b (depth + 1)) (body_said c (depth + 1)) s)

unlined_roll : (x : Stmt-F Act Stmt) → unlined_statement (roll-Stmt x) ≡ on_line 0 (unlined_of x.act)
unlined_roll x = fold-roll-Stmt Act Stmt unlined_act unlined_step x

stmt_layer : (y : Stmt-F ActFact StmtFact) → UttersSelf (roll-Stmt (map-Stmt ActFact StmtFact Act Stmt (λ e. e.0) (λ e. e.0) y))
stmt_layer y depth ts us c =
    let x : Stmt-F Act Stmt = map-Stmt ActFact StmtFact Act Stmt (λ e. e.0) (λ e. e.0) y in
    let P : Uttered → Type 0 = λ u. Said (u depth) ts us in
    let (l, b, r, q) = y.act.1 depth ts us (subst P (fold-roll-Stmt Uttered Uttered tell_act tell_step x) c) in
    (on_line l b, r, unlined_roll (record { line = l; act = b }) ∙ ap (λ a. on_line 0 a) q ∙ sym (unlined_roll x))

-- the words of a statement read to it, but for its lines
pub statement_said : (s : Stmt) → UttersSelf s
statement_said = ind-Stmt UttersItself UttersSelf
    (λ x y is. subst (λ (z : Act-F Act Stmt). UttersItself (roll-Act z)) is (act_layer y))
    (λ x y is. subst (λ (z : Stmt-F Act Stmt). UttersSelf (roll-Stmt z)) is (stmt_layer y))

-- the words of statements read to them, but for their lines
pub statements_said : (b : List Stmt) (depth : ℕ) → HeardBody (flat_map (λ (s : Stmt). tell_statement s depth) b) b
statements_said [] depth ts us said_none = ([], G.none, refl)
statements_said (s ∷ b) depth ts us c =
    let (mid, x, y) = split (tell_statement s depth) (flat_map (λ (s : Stmt). tell_statement s depth) b) c in
    let (t, r, p) = statement_said s depth ts mid x in
    let (d, e, q) = statements_said b depth mid us y in
    (t ∷ d, G.more r e, ap (λ x. x ∷ map unlined_statement d) p ∙ ap (λ x. unlined_statement s ∷ x) q)
