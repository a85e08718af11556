-- The words of a source, each with its white space, are spelt as the pieces of its canonical text.
use Rattle.std.proofs.Common.{◌≡◌, ℕ, ◌+◌, ◌++◌, ◌==◌, Bool, true, false, List, [], ◌∷◌, map, Option, Some, None, refl, sym, subst, ap, ◌∙◌}
use Rattle.std.specs.List.{flat_map}
use Rattle.std.specs.Prelude.{if◌then◌else◌, codes}
use Rattle.std.proofs.lemmas.List.{map-append}
use Rattle.sys_base.specs.Key.{key_text}
use Rattle.sys_base.specs.declared.key.Key.TheVariants as K
use Rattle.sys_base.specs.declared.kinds.Dir.{Dir}
use Rattle.sys_base.specs.declared.kinds.Op.{Op}
use Rattle.sys_base.specs.declared.kinds.Op.TheVariants as O
use Rattle.cell_lexer.specs.Forms.{mark_text}
use Rattle.cell_lexer.specs.declared.token.Mark.TheVariants as M
use Rattle.cell_tree.specs.Canonical.{dir_text, array_pieces, ends_pieces, link_pieces, route_pieces, label_pieces, message_pieces, length_pieces, var_pieces, cell_pieces, buffer_pieces, setting_pieces, canonical_pieces}
use Rattle.cell_tree.specs.Expression.{Spelt, at_level, spell_step, spelt, expression_pieces}
use Rattle.cell_tree.specs.Operator.{op_mark, op_text, op_level, left_of, right_of, fits}
use Rattle.cell_tree.specs.Pieces.{Piece, none, space, line, after}
use Rattle.cell_tree.specs.Statement.{Printed, act_step, statement_step, statement_pieces}
use Rattle.cell_tree.specs.declared.expression.Expr.{Expr, map-Expr, roll-Expr}
use Rattle.cell_tree.specs.declared.expression.Expr.TheFolds.{fold-roll-Expr, ind-Expr}
use Rattle.cell_tree.specs.declared.expression.Expr.TheOpen.{Expr-F}
use Rattle.cell_tree.specs.declared.level.Level.{Level}
use Rattle.cell_tree.specs.declared.level.Level.TheVariants as L
use Rattle.cell_tree.specs.declared.source.CellDecl.{CellDecl}
use Rattle.cell_tree.specs.declared.source.MessageDecl.{MessageDecl}
use Rattle.cell_tree.specs.declared.source.Source.{Source}
use Rattle.cell_tree.specs.declared.source.VarDecl.{VarDecl}
use Rattle.cell_tree.specs.declared.statement.Act.{Act}
use Rattle.cell_tree.specs.declared.statement.Act.TheFolds.{fold-Act, fold-roll-Stmt, fold-roll-Act, ind-Stmt, map-Act, map-Stmt}
use Rattle.cell_tree.specs.declared.statement.Act.TheOpen.{Act-F, Stmt-F}
use Rattle.cell_tree.specs.declared.statement.Act.TheViews.{roll-Stmt, roll-Act}
use Rattle.cell_tree.specs.declared.statement.Stmt.{Stmt}
use Rattle.cell_parser.specs.Lexeme.{Named, Keyword, Marked}
use Rattle.cell_parser.specs.Inner.Told.{Told, Tell, tell, tell_ends, tell_array, told_piece, Voiced, at_most, voice_step, voiced, tell_expression, Uttered, tell_act, tell_step, tell_statement, tell_dir, tell_link, tell_route, tell_label, tell_message, tell_length, tell_var, tell_cell, tell_setting, tell_buffer, told}
use Rattle.cell_parser.proofs.SaidStatements.{tell_of}

-- What is voiced is of the same level and is spelt as the pieces say.
pub record Matches (v : Voiced) (s : Spelt) : Type 0 where
  pub level : v.level ≡ s.level
  pub pieces : (gap : List ℕ) → map told_piece (v.words gap) ≡ s.pieces gap

operator_spelt : (op : Op) → mark_text (op_mark op) ≡ op_text op
operator_spelt O.Add = refl
operator_spelt O.Sub = refl
operator_spelt O.Mul = refl
operator_spelt O.Div = refl
operator_spelt O.Rem = refl
operator_spelt O.Less = refl
operator_spelt O.AtMost = refl
operator_spelt O.Same = refl
operator_spelt O.Differ = refl

either : (b : Bool) (xs ys : List Told) (ps qs : List Piece) → map told_piece xs ≡ ps → map told_piece ys ≡ qs
    → map told_piece (if b then xs else ys) ≡ (if b then ps else qs)
either true xs ys ps qs p q = p
either false xs ys ps qs p q = q

enclosed : (first last : Told) (xs : List Told) (ps : List Piece) → map told_piece xs ≡ ps
    → map told_piece (first ∷ (xs ++ last ∷ [])) ≡ told_piece first ∷ (ps ++ told_piece last ∷ [])
enclosed first last xs ps p =
    ap (λ ts. told_piece first ∷ ts) (map-append told_piece xs (last ∷ []) ∙ ap (λ ts. ts ++ told_piece last ∷ []) p)

-- These words are spelt as these pieces.
record Written (ts : List Told) (ps : List Piece) : Type 0 where
  is : map told_piece ts ≡ ps

one : (t : Told) → Written (t ∷ []) (told_piece t ∷ [])
one t = record { is = refl }

both : {xs ys : List Told} {ps qs : List Piece} → Written xs ps → Written ys qs → Written (xs ++ ys) (ps ++ qs)
both {xs} {ys} {ps} {qs} p q =
    record { is = map-append told_piece xs ys ∙ ap (λ ts. ts ++ map told_piece ys) p.is ∙ ap (λ ts. ps ++ ts) q.is }

ends : {xs : List Told} {ps : List Piece} → Written xs ps → (t : Told) → Written (xs ++ t ∷ []) (ps ++ told_piece t ∷ [])
ends p t = both p (one t)

operand_spelt : (loosest : Level) (v : Voiced) (s : Spelt) → Matches v s → (gap : List ℕ)
    → map told_piece (at_most loosest v gap) ≡ at_level loosest s gap
operand_spelt loosest v s m gap =
    let Choice : Level → List Piece = λ level.
    if fits level loosest then s.pieces gap else (after gap (codes "(") ++ s.pieces none ++ after none (codes ")")) in
    either (fits v.level loosest) (v.words gap) (tell gap (Marked M.OpenParen) ++ v.words none ++ tell none (Marked M.CloseParen))
    (s.pieces gap) (after gap (codes "(") ++ s.pieces none ++ after none (codes ")")) (m.pieces gap)
    (enclosed (Tell gap (Marked M.OpenParen)) (Tell none (Marked M.CloseParen)) (v.words none) (s.pieces none) (m.pieces none))
    ∙ ap Choice m.level

abbrev MatchesItself : Expr → Type 0
MatchesItself e = Matches (voiced e) (spelt e)

close : (x : Expr-F Expr) → Matches (voice_step (map-Expr Expr Voiced voiced x)) (spell_step (map-Expr Expr Spelt spelt x))
    → MatchesItself (roll-Expr x)
close x h =
    subst (λ (s : Spelt). Matches (voiced (roll-Expr x)) s) (sym (fold-roll-Expr Spelt spell_step x))
    (subst (λ (v : Voiced). Matches v (spell_step (map-Expr Expr Spelt spelt x))) (sym (fold-roll-Expr Voiced voice_step x)) h)

binary_spelt : (op : Op) (xs ys : List Told) (ps qs : List Piece) → map told_piece xs ≡ ps → map told_piece ys ≡ qs
    → map told_piece (xs ++ tell space (Marked (op_mark op)) ++ ys) ≡ ps ++ after space (op_text op) ++ qs
binary_spelt op xs ys ps qs p q =
    let mid : List Told = tell space (Marked (op_mark op)) in
    map-append told_piece (xs ++ mid) ys ∙ ap (λ ts. ts ++ map told_piece ys) (map-append told_piece xs mid)
    ∙ ap (λ ts. ts ++ map told_piece mid ++ map told_piece ys) p ∙ ap (λ ts. ps ++ map told_piece mid ++ ts) q
    ∙ ap (λ text. ps ++ after space text ++ qs) (operator_spelt op)

layer : (y : Expr-F ((e : Expr) × MatchesItself e))
    → MatchesItself (roll-Expr (map-Expr ((e : Expr) × MatchesItself e) Expr (λ e. e.0) y))
layer (Expr-F.Number n) = close (Expr-F.Number n) (record { level = refl; pieces = λ gap. refl })
layer (Expr-F.Named n) = close (Expr-F.Named n) (record { level = refl; pieces = λ gap. refl })
layer (Expr-F.At n e) = close (Expr-F.At n e.0) (record {
  level = refl;
  pieces = λ gap. ap (λ ts. record { gap = gap; word = n } ∷ ts)
      (enclosed (Tell none (Marked M.OpenBracket)) (Tell none (Marked M.CloseBracket)) ((voiced e.0).words none) ((spelt e.0).pieces none)
      (e.1.pieces none));
})
layer (Expr-F.Negate e) = close (Expr-F.Negate e.0) (record {
  level = refl;
  pieces = λ gap. ap (λ ts. record { gap = gap; word = codes "-" } ∷ ts) (operand_spelt (right_of L.Unary) (voiced e.0) (spelt e.0) e.1 none);
})
layer (Expr-F.Binary op e f) = close (Expr-F.Binary op e.0 f.0) (record {
  level = refl;
  pieces = λ gap. binary_spelt op (at_most (left_of (op_level op)) (voiced e.0) gap) (at_most (right_of (op_level op)) (voiced f.0) space)
      (at_level (left_of (op_level op)) (spelt e.0) gap) (at_level (right_of (op_level op)) (spelt f.0) space)
      (operand_spelt (left_of (op_level op)) (voiced e.0) (spelt e.0) e.1 gap)
      (operand_spelt (right_of (op_level op)) (voiced f.0) (spelt f.0) f.1 space);
})

pub expression_matches : (e : Expr) → Matches (voiced e) (spelt e)
expression_matches = ind-Expr MatchesItself (λ x y is. subst (λ (z : Expr-F Expr). MatchesItself (roll-Expr z)) is (layer y))

pub expression_spelt : (gap : List ℕ) (e : Expr) → map told_piece (tell_expression gap e) ≡ expression_pieces gap e
expression_spelt gap e = (expression_matches e).pieces gap

-- the pieces of what a statement does
abbrev pub pieces_of : Act → Printed
pieces_of = fold-Act Printed Printed act_step statement_step

abbrev Alike : Uttered → Printed → Type 0
Alike u p = (depth : ℕ) → map told_piece (u depth) ≡ p depth

abbrev AlikeAct : Act → Type 0
AlikeAct a = Alike (tell_of a) (pieces_of a)

abbrev AlikeStmt : Stmt → Type 0
AlikeStmt s = Alike (tell_statement s) (statement_pieces s)

abbrev ActFact : Type 0
ActFact = (a : Act) × AlikeAct a

abbrev StmtFact : Type 0
StmtFact = (s : Stmt) × AlikeStmt s

body_spelt : (items : List StmtFact) (depth : ℕ)
    → map told_piece (flat_map (λ (u : Uttered). u depth) (map tell_statement (map (λ e. e.0) items)))
    ≡ flat_map (λ (p : Printed). p depth) (map statement_pieces (map (λ e. e.0) items))
body_spelt [] depth = refl
body_spelt (e ∷ items) depth =
    let rest : List Told = flat_map (λ (u : Uttered). u depth) (map tell_statement (map (λ e. e.0) items)) in
    map-append told_piece (tell_statement e.0 depth) rest ∙ ap (λ ts. ts ++ map told_piece rest) (e.1 depth)
    ∙ ap (λ ts. statement_pieces e.0 depth ++ ts) (body_spelt items depth)

close_act : (x : Act-F Act Stmt)
    → Alike (tell_act (map-Act Act Stmt Uttered Uttered tell_of tell_statement x))
    (act_step (map-Act Act Stmt Printed Printed pieces_of statement_pieces x))
    → AlikeAct (roll-Act x)
close_act x h =
    subst (λ (p : Printed). Alike (tell_of (roll-Act x)) p) (sym (fold-roll-Act Printed Printed act_step statement_step x))
    (subst (λ (u : Uttered). Alike u (act_step (map-Act Act Stmt Printed Printed pieces_of statement_pieces x)))
    (sym (fold-roll-Act Uttered Uttered tell_act tell_step x)) h)

expression_written : (gap : List ℕ) (e : Expr) → Written (tell_expression gap e) (expression_pieces gap e)
expression_written gap e = record { is = expression_spelt gap e }

set_at_spelt : (n : List ℕ) (e f : Expr) (depth : ℕ)
    → map told_piece (tell_act (Act-F.SetAt n e f) depth) ≡ act_step (Act-F.SetAt n e f) depth
set_at_spelt n e f depth =
    ap (λ ts. record { gap = line depth; word = n } ∷ record { gap = none; word = codes "[" } ∷ ts)
    (ends (both (ends (ends (expression_written none e) (Tell none (Marked M.CloseBracket))) (Tell space (Marked M.Assign)))
    (expression_written space f)) (Tell none (Marked M.Semicolon))).is

block_written : {xs : List Told} {ps : List Piece} → Written xs ps → (depth : ℕ)
    → Written (Tell space (Marked M.OpenBrace) ∷ (xs ++ tell (line depth) (Marked M.CloseBrace)))
    (record { gap = space; word = codes "{" } ∷ (ps ++ after (line depth) (codes "}")))
block_written {xs} {ps} p depth =
    record { is = enclosed (Tell space (Marked M.OpenBrace)) (Tell (line depth) (Marked M.CloseBrace)) xs ps p.is }

act_layer : (y : Act-F ActFact StmtFact) → AlikeAct (roll-Act (map-Act ActFact StmtFact Act Stmt (λ e. e.0) (λ e. e.0) y))
act_layer (Act-F.Set n e) = close_act (Act-F.Set n e) (λ depth. simp (map-append, expression_spelt space e))
act_layer (Act-F.SetAt n e f) = close_act (Act-F.SetAt n e f)
    (λ depth. set_at_spelt n e f depth)
act_layer (Act-F.Write m e) = close_act (Act-F.Write m e) (λ depth. simp (map-append, expression_spelt space e))
act_layer (Act-F.Read m n) = close_act (Act-F.Read m n) (λ depth. refl)
act_layer (Act-F.Take n) = close_act (Act-F.Take n) (λ depth. refl)
act_layer (Act-F.Emit e) = close_act (Act-F.Emit e) (λ depth. simp (map-append, expression_spelt space e))
act_layer (Act-F.For c n b) =
    close_act (Act-F.For c n (map (λ (e : StmtFact). e.0) b)) (λ depth. simp (map-append, body_spelt b (depth + 1)))
act_layer (Act-F.If e b c) =
    let first : List Stmt = map (λ (e : StmtFact). e.0) b in
    let second : List Stmt = map (λ (e : StmtFact). e.0) c in
    close_act (Act-F.If e first second) (λ depth.
    let yes : Written (flat_map (λ (u : Uttered). u (depth + 1)) (map tell_statement first))
    (flat_map (λ (p : Printed). p (depth + 1)) (map statement_pieces first)) = record { is = body_spelt b (depth + 1) } in
    let no : Written (flat_map (λ (u : Uttered). u (depth + 1)) (map tell_statement second))
    (flat_map (λ (p : Printed). p (depth + 1)) (map statement_pieces second)) = record { is = body_spelt c (depth + 1) } in
    ap (λ ts. record { gap = line depth; word = key_text K.If } ∷ ts)
    (both (ends (both (expression_written space e) (block_written yes depth)) (Tell space (Keyword K.Else))) (block_written no depth)).is)

stmt_layer : (y : Stmt-F ActFact StmtFact) → AlikeStmt (roll-Stmt (map-Stmt ActFact StmtFact Act Stmt (λ e. e.0) (λ e. e.0) y))
stmt_layer y depth =
    let x : Stmt-F Act Stmt = map-Stmt ActFact StmtFact Act Stmt (λ e. e.0) (λ e. e.0) y in
    ap (λ (u : Uttered). map told_piece (u depth)) (fold-roll-Stmt Uttered Uttered tell_act tell_step x)
    ∙ y.act.1 depth
    ∙ ap (λ (p : Printed). p depth) (sym (fold-roll-Stmt Printed Printed act_step statement_step x))

pub statement_spelt : (s : Stmt) (depth : ℕ) → map told_piece (tell_statement s depth) ≡ statement_pieces s depth
statement_spelt = ind-Stmt AlikeAct AlikeStmt
    (λ x y is. subst (λ (z : Act-F Act Stmt). AlikeAct (roll-Act z)) is (act_layer y))
    (λ x y is. subst (λ (z : Stmt-F Act Stmt). AlikeStmt (roll-Stmt z)) is (stmt_layer y))

all_spelt : {A : Type 0} (f : A → List Told) (g : A → List Piece) → ((a : A) → map told_piece (f a) ≡ g a)
    → (xs : List A) → map told_piece (flat_map f xs) ≡ flat_map g xs
all_spelt f g h [] = refl
all_spelt f g h (x ∷ xs) =
    map-append told_piece (f x) (flat_map f xs) ∙ ap (λ ts. ts ++ map told_piece (flat_map f xs)) (h x)
    ∙ ap (λ ts. g x ++ ts) (all_spelt f g h xs)

route_spelt : (ds : List Dir) → map told_piece (tell_route ds) ≡ route_pieces ds
route_spelt [] = refl
route_spelt (d ∷ ds) =
    ap (λ ts. record { gap = space; word = key_text K.Route } ∷ ts)
    (all_spelt tell_dir (λ d. after space (dir_text d)) (λ d. refl) (d ∷ ds))

label_spelt : (label : Option ℕ) → map told_piece (tell_label label) ≡ label_pieces label
label_spelt None = refl
label_spelt (Some n) = refl

length_spelt : (size : Option ℕ) → map told_piece (tell_length size) ≡ length_pieces size
length_spelt None = refl
length_spelt (Some n) = refl

message_spelt : (m : MessageDecl) → map told_piece (tell_message m) ≡ message_pieces m
message_spelt m =
    let route : Written (tell_route m.route) (route_pieces m.route) = record { is = route_spelt m.route } in
    let label : Written (tell_label m.label) (label_pieces m.label) = record { is = label_spelt m.label } in
    let head : Written (tell (line 0) (Keyword K.Message) ++ tell space (Named m.name) ++ tell_ends m)
    (after (line 0) (key_text K.Message) ++ after space m.name ++ ends_pieces m) = record { is = refl } in
    (ends (both (both head route) label) (Tell none (Marked M.Semicolon))).is

var_spelt : (v : VarDecl) → map told_piece (tell_var v) ≡ var_pieces v
var_spelt v = simp (map-append, length_spelt v.length)

cell_spelt : (c : CellDecl) → map told_piece (tell_cell c) ≡ cell_pieces c
cell_spelt c = simp (
  map-append,
  all_spelt tell_var var_pieces var_spelt c.vars,
  all_spelt (λ s. tell_statement s 1) (λ s. statement_pieces s 1) (λ s. statement_spelt s 1) c.body,
)

buffer_spelt : (n : ℕ) → map told_piece (tell_buffer n) ≡ buffer_pieces n
buffer_spelt n = either (n == 0) [] (tell_setting K.Buffer n) [] (setting_pieces (key_text K.Buffer) n) refl refl

-- the words of a source are spelt as the pieces of its canonical text
pub source_spelt : (s : Source) → map told_piece (told s) ≡ canonical_pieces s
source_spelt s =
    let head : Written (tell_array s ++ tell_setting K.Queues s.queues) (array_pieces s ++ setting_pieces (key_text K.Queues) s.queues) =
    record { is = refl } in
    let buffer : Written (tell_buffer s.buffer) (buffer_pieces s.buffer) = record { is = buffer_spelt s.buffer } in
    let links : Written (flat_map tell_link s.links) (flat_map link_pieces s.links) =
    record { is = all_spelt tell_link link_pieces (λ l. refl) s.links } in
    let messages : Written (flat_map tell_message s.messages) (flat_map message_pieces s.messages) =
    record { is = all_spelt tell_message message_pieces message_spelt s.messages } in
    let cells : Written (flat_map tell_cell s.cells) (flat_map cell_pieces s.cells) =
    record { is = all_spelt tell_cell cell_pieces cell_spelt s.cells } in
    (both (both (both (both head buffer) links) messages) cells).is
