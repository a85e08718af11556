-- The words of a printable source are fine, and each is apart from the one before it.
use Rattle.std.proofs.Common.{◌≡◌, ℕ, ◌+◌, ◌≤◌, ◌++◌, ◌==◌, Bool, true, false, ◌||◌, IsTrue, length, List, [], ◌∷◌, map, Option, Some, None, refl, sym, subst, arith}
use Rattle.std.specs.List.{flat_map, concat, AllByRecursion}
use Rattle.std.specs.Prelude.{slice_index}
use Rattle.std.proofs.lemmas.List.Elements.{recursion_from_All}
use Rattle.sys_base.specs.Bytes.{is_letter, is_word_byte}
use Rattle.sys_base.specs.Key.{key_text}
use Rattle.sys_base.specs.Name.{IsName}
use Rattle.sys_base.specs.declared.key.Key.{Key}
use Rattle.sys_base.specs.declared.key.Key.TheVariants as K
use Rattle.sys_base.specs.declared.kinds.Dir.{Dir}
use Rattle.sys_base.specs.declared.kinds.Dir.TheVariants as D
use Rattle.sys_base.specs.declared.kinds.Op.{Op}
use Rattle.cell_lexer.specs.Pieces.{Blank}
use Rattle.cell_lexer.specs.declared.token.Mark.TheVariants as M
use Rattle.cell_tree.specs.Canonical.{dir_text}
use Rattle.cell_tree.specs.Operator.{op_mark, op_level, left_of, right_of, fits}
use Rattle.cell_tree.specs.Pieces.{none, space, line}
use Rattle.cell_tree.specs.Printable.{names_step, names_of, numbers_step, numbers_of, act_names, statement_names, act_numbers, statement_numbers, given, link_numbers, message_numbers, cell_names, cell_numbers, source_names, source_numbers, IsPrintable}
use Rattle.cell_tree.specs.declared.expression.Expr.{Expr, map-Expr, roll-Expr}
use Rattle.cell_tree.specs.declared.expression.Expr.TheFolds.{fold-roll-Expr, ind-Expr}
use Rattle.cell_tree.specs.declared.expression.Expr.TheOpen.{Expr-F}
use Rattle.cell_tree.specs.declared.level.Level.{Level}
use Rattle.cell_tree.specs.declared.level.Level.TheVariants as L
use Rattle.cell_tree.specs.declared.source.CellDecl.{CellDecl}
use Rattle.cell_tree.specs.declared.source.LinkDecl.{LinkDecl}
use Rattle.cell_tree.specs.declared.source.MessageDecl.{MessageDecl}
use Rattle.cell_tree.specs.declared.source.Source.{Source}
use Rattle.cell_tree.specs.declared.source.VarDecl.{VarDecl}
use Rattle.cell_tree.specs.declared.statement.Act.{Act}
use Rattle.cell_tree.specs.declared.statement.Act.TheFolds.{fold-Act, fold-roll-Stmt, fold-roll-Act, ind-Stmt, map-Act, map-Stmt}
use Rattle.cell_tree.specs.declared.statement.Act.TheOpen.{Act-F, Stmt-F}
use Rattle.cell_tree.specs.declared.statement.Act.TheViews.{roll-Stmt, roll-Act}
use Rattle.cell_tree.specs.declared.statement.Stmt.{Stmt}
use Rattle.cell_parser.specs.Lexeme.{Keyword, Marked}
use Rattle.cell_parser.specs.Inner.Told.{Told, Tell, tell, Voiced, at_most, voice_step, voiced, tell_expression, Uttered, tell_act, tell_step, tell_statement, tell_array, tell_setting, tell_buffer, tell_settings, tell_dir, tell_link, tell_route, tell_label, tell_message, tell_length, tell_var, tell_cell, told}
use Rattle.cell_parser.proofs.SaidStatements.{tell_of}
use Rattle.cell_parser.proofs.ToldLegible.{opens, gapped, Clear, join, choose, line_blank}

abbrev pub Names : List (List ℕ) → Type 0
Names = AllByRecursion IsName

abbrev pub Numbers : List ℕ → Type 0
Numbers = AllByRecursion (λ n. n ≤ 9223372036854775807)

front : {X : Type 0} (P : X → Type 0) (xs ys : List X) → AllByRecursion P (xs ++ ys) → AllByRecursion P xs
front P [] ys h = tt
front P (x ∷ xs) ys h = (h.0, front P xs ys h.1)

back : {X : Type 0} (P : X → Type 0) (xs ys : List X) → AllByRecursion P (xs ++ ys) → AllByRecursion P ys
back P [] ys h = h
back P (x ∷ xs) ys h = back P xs ys h.1

names_front : (xs ys : List (List ℕ)) → Names (xs ++ ys) → Names xs
names_front = front IsName

names_back : (xs ys : List (List ℕ)) → Names (xs ++ ys) → Names ys
names_back = back IsName

numbers_front : (xs ys : List ℕ) → Numbers (xs ++ ys) → Numbers xs
numbers_front = front (λ n. n ≤ 9223372036854775807)

numbers_back : (xs ys : List ℕ) → Numbers (xs ++ ys) → Numbers ys
numbers_back = back (λ n. n ≤ 9223372036854775807)

space_blank : Blank space
space_blank = (refl, tt)

-- After any white space, or after a word that opens, the words are clear.
abbrev Clears : (List ℕ → List Told) → Type 0
Clears words = (gap : List ℕ) (b : Bool) → Blank gap → IsTrue (gapped gap || b) → Clear b (words gap) false

-- one more mark that makes no word longer, and opens nothing
semicolon_after : (b : Bool) (xs : List Told) → Clear b xs false → Clear b (xs ++ tell none (Marked M.Semicolon)) false
semicolon_after b xs c = join b xs (tell none (Marked M.Semicolon)) false false c (tt, tt, refl, refl)

bracket_after : (b : Bool) (xs : List Told) → Clear b xs false → Clear b (xs ++ tell none (Marked M.CloseBracket)) false
bracket_after b xs c = join b xs (tell none (Marked M.CloseBracket)) false false c (tt, tt, refl, refl)

paren_after : (b : Bool) (xs : List Told) → Clear b xs false → Clear b (xs ++ tell none (Marked M.CloseParen)) false
paren_after b xs c = join b xs (tell none (Marked M.CloseParen)) false false c (tt, tt, refl, refl)

brace_after : (b : Bool) (xs : List Told) (depth : ℕ) → Clear b xs false
    → Clear b (xs ++ tell (line depth) (Marked M.CloseBrace)) false
brace_after b xs depth c = join b xs (tell (line depth) (Marked M.CloseBrace)) false false c (line_blank depth, tt, refl, refl)

operand_clear : (loosest : Level) (v : Voiced) → Clears v.words → Clears (at_most loosest v)
operand_clear loosest v f gap b blank h =
    choose (fits v.level loosest) b false (v.words gap)
    (tell gap (Marked M.OpenParen) ++ v.words none ++ tell none (Marked M.CloseParen)) (f gap b blank h)
    (blank, tt, h, paren_after true (v.words none) (f none true tt refl))

abbrev ClearExpr : Voiced → List (List ℕ) → List ℕ → Type 0
ClearExpr v names numbers = Names names → Numbers numbers → Clears v.words

abbrev ClearItself : Expr → Type 0
ClearItself e = ClearExpr (voiced e) (names_of e) (numbers_of e)

close : (x : Expr-F Expr)
    → ClearExpr (voice_step (map-Expr Expr Voiced voiced x)) (names_step (map-Expr Expr (List (List ℕ)) names_of x))
    (numbers_step (map-Expr Expr (List ℕ) numbers_of x))
    → ClearItself (roll-Expr x)
close x h =
    let ns : List (List ℕ) = names_step (map-Expr Expr (List (List ℕ)) names_of x) in
    let ks : List ℕ = numbers_step (map-Expr Expr (List ℕ) numbers_of x) in
    subst (λ (l : List ℕ). ClearExpr (voiced (roll-Expr x)) (names_of (roll-Expr x)) l) (sym (fold-roll-Expr (List ℕ) numbers_step x))
    (subst (λ (l : List (List ℕ)). ClearExpr (voiced (roll-Expr x)) l ks) (sym (fold-roll-Expr (List (List ℕ)) names_step x))
    (subst (λ (v : Voiced). ClearExpr v ns ks) (sym (fold-roll-Expr Voiced voice_step x)) h))

binary_clear : (op : Op) (b : Bool) (xs ys : List Told) → Clear b xs false → Clear (opens (Marked (op_mark op))) ys false
    → Clear b (xs ++ tell space (Marked (op_mark op)) ++ ys) false
binary_clear op b xs ys p q =
    let mark : List Told = tell space (Marked (op_mark op)) in
    let o : Bool = opens (Marked (op_mark op)) in
    join b (xs ++ mark) ys o false (join b xs mark false o p (space_blank, tt, refl, refl)) q

layer : (y : Expr-F ((e : Expr) × ClearItself e))
    → ClearItself (roll-Expr (map-Expr ((e : Expr) × ClearItself e) Expr (λ e. e.0) y))
layer (Expr-F.Number n) = close (Expr-F.Number n) (λ ns ks gap b blank h. (blank, ks.0, h, refl))
layer (Expr-F.Named n) = close (Expr-F.Named n) (λ ns ks gap b blank h. (blank, ns.0, h, refl))
layer (Expr-F.At n e) = close (Expr-F.At n e.0)
    (λ ns ks gap b blank h. (blank, ns.0, h, (tt, tt, refl, bracket_after true ((voiced e.0).words none) (e.1 ns.1 ks none true tt refl))))
layer (Expr-F.Negate e) = close (Expr-F.Negate e.0)
    (λ ns ks gap b blank h. (blank, tt, h, operand_clear (right_of L.Unary) (voiced e.0) (e.1 ns ks) none true tt refl))
layer (Expr-F.Binary op e f) = close (Expr-F.Binary op e.0 f.0)
    (λ ns ks gap b blank h. binary_clear op b (at_most (left_of (op_level op)) (voiced e.0) gap)
    (at_most (right_of (op_level op)) (voiced f.0) space)
    (operand_clear (left_of (op_level op)) (voiced e.0)
    (e.1 (names_front (names_of e.0) (names_of f.0) ns) (numbers_front (numbers_of e.0) (numbers_of f.0) ks)) gap b blank h)
    (operand_clear (right_of (op_level op)) (voiced f.0)
    (f.1 (names_back (names_of e.0) (names_of f.0) ns) (numbers_back (numbers_of e.0) (numbers_of f.0) ks))
    space (opens (Marked (op_mark op))) space_blank refl))

expression_clear : (e : Expr) → ClearItself e
expression_clear = ind-Expr ClearItself (λ x y is. subst (λ (z : Expr-F Expr). ClearItself (roll-Expr z)) is (layer y))

-- an expression after a space
spaced_clear : (e : Expr) → Names (names_of e) → Numbers (numbers_of e) → Clear false (tell_expression space e) false
spaced_clear e ns ks = expression_clear e ns ks space false space_blank refl

-- the names of what a statement does, and its numbers
abbrev pub names_in : Act → List (List ℕ)
names_in = fold-Act (List (List ℕ)) (List (List ℕ)) act_names (λ statement. statement.act)

abbrev pub numbers_in : Act → List ℕ
numbers_in = fold-Act (List ℕ) (List ℕ) act_numbers (λ statement. statement.act)

abbrev ClearAct : Uttered → List (List ℕ) → List ℕ → Type 0
ClearAct u names numbers = Names names → Numbers numbers → (depth : ℕ) → Clear false (u depth) false

abbrev ActClear : Act → Type 0
ActClear a = ClearAct (tell_of a) (names_in a) (numbers_in a)

abbrev StmtClear : Stmt → Type 0
StmtClear s = ClearAct (tell_statement s) (statement_names s) (statement_numbers s)

abbrev ActFact : Type 0
ActFact = (a : Act) × ActClear a

abbrev StmtFact : Type 0
StmtFact = (s : Stmt) × StmtClear s

abbrev kept : List StmtFact → List Stmt
kept items = map (λ (e : StmtFact). e.0) items

abbrev pub body_names : List Stmt → List (List ℕ)
body_names b = flat_map (λ (names : List (List ℕ)). names) (map statement_names b)

abbrev pub body_numbers : List Stmt → List ℕ
body_numbers b = concat (map statement_numbers b)

abbrev pub body_told : List Stmt → ℕ → List Told
body_told b depth = flat_map (λ (u : Uttered). u depth) (map tell_statement b)

body_clear : (items : List StmtFact) (depth : ℕ) → Names (body_names (kept items)) → Numbers (body_numbers (kept items))
    → Clear false (body_told (kept items) depth) false
body_clear [] depth ns ks = refl
body_clear (e ∷ items) depth ns ks =
    join false (tell_statement e.0 depth) (body_told (kept items) depth) false false
    (e.1 (names_front (statement_names e.0) (body_names (kept items)) ns) (numbers_front (statement_numbers e.0) (body_numbers (kept items)) ks) depth)
    (body_clear items depth (names_back (statement_names e.0) (body_names (kept items)) ns)
    (numbers_back (statement_numbers e.0) (body_numbers (kept items)) ks))

block_clear : (items : List StmtFact) (depth : ℕ) → Names (body_names (kept items)) → Numbers (body_numbers (kept items))
    → Clear false (Tell space (Marked M.OpenBrace) ∷ (body_told (kept items) (depth + 1) ++ tell (line depth) (Marked M.CloseBrace))) false
block_clear items depth ns ks =
    (space_blank, tt, refl, brace_after false (body_told (kept items) (depth + 1)) depth (body_clear items (depth + 1) ns ks))

close_act : (x : Act-F Act Stmt)
    → ClearAct (tell_act (map-Act Act Stmt Uttered Uttered tell_of tell_statement x))
    (act_names (map-Act Act Stmt (List (List ℕ)) (List (List ℕ)) names_in statement_names x))
    (act_numbers (map-Act Act Stmt (List ℕ) (List ℕ) numbers_in statement_numbers x))
    → ActClear (roll-Act x)
close_act x h =
    let ns : List (List ℕ) = act_names (map-Act Act Stmt (List (List ℕ)) (List (List ℕ)) names_in statement_names x) in
    let ks : List ℕ = act_numbers (map-Act Act Stmt (List ℕ) (List ℕ) numbers_in statement_numbers x) in
    subst (λ (l : List ℕ). ClearAct (tell_of (roll-Act x)) (names_in (roll-Act x)) l)
    (sym (fold-roll-Act (List ℕ) (List ℕ) act_numbers (λ statement. statement.act) x))
    (subst (λ (l : List (List ℕ)). ClearAct (tell_of (roll-Act x)) l ks)
    (sym (fold-roll-Act (List (List ℕ)) (List (List ℕ)) act_names (λ statement. statement.act) x))
    (subst (λ (u : Uttered). ClearAct u ns ks) (sym (fold-roll-Act Uttered Uttered tell_act tell_step x)) h))

set_at_clear : (n : List ℕ) (e f : Expr) → ClearAct (tell_act (Act-F.SetAt n e f)) (n ∷ names_of e ++ names_of f) (numbers_of e ++ numbers_of f)
set_at_clear n e f ns ks depth =
    let xs : List Told = tell_expression none e ++ tell none (Marked M.CloseBracket) in
    let assign : List Told = tell space (Marked M.Assign) in (
      line_blank depth,
      ns.0,
      refl,
      (
        tt,
        tt,
        refl,
        semicolon_after true (xs ++ assign ++ tell_expression space f)
            (join true (xs ++ assign) (tell_expression space f) false false
            (join true xs assign false false
            (bracket_after true (tell_expression none e)
            (expression_clear e (names_front (names_of e) (names_of f) ns.1) (numbers_front (numbers_of e) (numbers_of f) ks) none true tt refl))
            (space_blank, tt, refl, refl))
            (spaced_clear f (names_back (names_of e) (names_of f) ns.1) (numbers_back (numbers_of e) (numbers_of f) ks))),
      ),
    )

choice_clear : (e : Expr) (b c : List StmtFact)
    → ClearAct (tell_act (Act-F.If e (map tell_statement (kept b)) (map tell_statement (kept c))))
    (names_of e ++ body_names (kept b) ++ body_names (kept c)) (numbers_of e ++ body_numbers (kept b) ++ body_numbers (kept c))
choice_clear e b c ns ks depth =
    let one : List Told = Tell space (Marked M.OpenBrace) ∷ (body_told (kept b) (depth + 1) ++ tell (line depth) (Marked M.CloseBrace)) in
    let two : List Told = Tell space (Marked M.OpenBrace) ∷ (body_told (kept c) (depth + 1) ++ tell (line depth) (Marked M.CloseBrace)) in
    let otherwise : List Told = tell space (Keyword K.Else) in
    let nx : Names (names_of e ++ body_names (kept b)) = names_front (names_of e ++ body_names (kept b)) (body_names (kept c)) ns in
    let kx : Numbers (numbers_of e ++ body_numbers (kept b)) = numbers_front (numbers_of e ++ body_numbers (kept b)) (body_numbers (kept c)) ks in (
      line_blank depth,
      tt,
      refl,
      join false (tell_expression space e ++ one ++ otherwise) two false false
          (join false (tell_expression space e ++ one) otherwise false false
          (join false (tell_expression space e) one false false
          (spaced_clear e (names_front (names_of e) (body_names (kept b)) nx) (numbers_front (numbers_of e) (body_numbers (kept b)) kx))
          (block_clear b depth (names_back (names_of e) (body_names (kept b)) nx) (numbers_back (numbers_of e) (body_numbers (kept b)) kx)))
          (space_blank, tt, refl, refl))
          (block_clear c depth (names_back (names_of e ++ body_names (kept b)) (body_names (kept c)) ns)
          (numbers_back (numbers_of e ++ body_numbers (kept b)) (body_numbers (kept c)) ks)),
    )

act_layer : (y : Act-F ActFact StmtFact) → ActClear (roll-Act (map-Act ActFact StmtFact Act Stmt (λ e. e.0) (λ e. e.0) y))
act_layer (Act-F.Set n e) = close_act (Act-F.Set n e) (λ ns ks depth.
    (line_blank depth, ns.0, refl, (space_blank, tt, refl, semicolon_after false (tell_expression space e) (spaced_clear e ns.1 ks))))
act_layer (Act-F.SetAt n e f) = close_act (Act-F.SetAt n e f) (set_at_clear n e f)
act_layer (Act-F.Write m e) = close_act (Act-F.Write m e) (λ ns ks depth.
    (line_blank depth, tt, refl, (space_blank, ns.0, refl, semicolon_after false (tell_expression space e) (spaced_clear e ns.1 ks))))
act_layer (Act-F.Read m n) = close_act (Act-F.Read m n) (λ ns ks depth.
    (line_blank depth, tt, refl, (space_blank, ns.0, refl, (space_blank, ns.1.0, refl, (tt, tt, refl, refl)))))
act_layer (Act-F.Take n) = close_act (Act-F.Take n) (λ ns ks depth.
    (line_blank depth, tt, refl, (space_blank, ns.0, refl, (tt, tt, refl, refl))))
act_layer (Act-F.Emit e) = close_act (Act-F.Emit e) (λ ns ks depth.
    (line_blank depth, tt, refl, semicolon_after false (tell_expression space e) (spaced_clear e ns ks)))
act_layer (Act-F.For c n b) = close_act (Act-F.For c n (kept b)) (λ ns ks depth.
    (line_blank depth, tt, refl, (space_blank, ns.0, refl, (space_blank, ks.0, refl, block_clear b depth ns.1 ks.1))))
act_layer (Act-F.If e b c) = close_act (Act-F.If e (kept b) (kept c)) (choice_clear e b c)

stmt_layer : (y : Stmt-F ActFact StmtFact) → StmtClear (roll-Stmt (map-Stmt ActFact StmtFact Act Stmt (λ e. e.0) (λ e. e.0) y))
stmt_layer y =
    let x : Stmt-F Act Stmt = map-Stmt ActFact StmtFact Act Stmt (λ e. e.0) (λ e. e.0) y in
    subst (λ (l : List ℕ). ClearAct (tell_statement (roll-Stmt x)) (statement_names (roll-Stmt x)) l)
    (sym (fold-roll-Stmt (List ℕ) (List ℕ) act_numbers (λ statement. statement.act) x))
    (subst (λ (l : List (List ℕ)). ClearAct (tell_statement (roll-Stmt x)) l (numbers_in x.act))
    (sym (fold-roll-Stmt (List (List ℕ)) (List (List ℕ)) act_names (λ statement. statement.act) x))
    (subst (λ (u : Uttered). ClearAct u (names_in x.act) (numbers_in x.act)) (sym (fold-roll-Stmt Uttered Uttered tell_act tell_step x)) y.act.1))

statement_clear : (s : Stmt) → StmtClear s
statement_clear = ind-Stmt ActClear StmtClear
    (λ x y is. subst (λ (z : Act-F Act Stmt). ActClear (roll-Act z)) is (act_layer y))
    (λ x y is. subst (λ (z : Stmt-F Act Stmt). StmtClear (roll-Stmt z)) is (stmt_layer y))

all_clear : {A : Type 0} (f : A → List Told) (names : A → List (List ℕ)) (numbers : A → List ℕ)
    → ((a : A) → Names (names a) → Numbers (numbers a) → Clear false (f a) false)
    → (xs : List A) → Names (flat_map names xs) → Numbers (flat_map numbers xs) → Clear false (flat_map f xs) false
all_clear f names numbers h [] ns ks = refl
all_clear f names numbers h (x ∷ xs) ns ks =
    join false (f x) (flat_map f xs) false false
    (h x (names_front (names x) (flat_map names xs) ns) (numbers_front (numbers x) (flat_map numbers xs) ks))
    (all_clear f names numbers h xs (names_back (names x) (flat_map names xs) ns) (numbers_back (numbers x) (flat_map numbers xs) ks))

-- no keyword is one letter
long_key : (b : ℕ) (key : Key) → b ∷ [] ≡ key_text key → ⊥
long_key b K.Array e = cc
long_key b K.Queues e = cc
long_key b K.Link e = cc
long_key b K.Message e = cc
long_key b K.From e = cc
long_key b K.To e = cc
long_key b K.Route e = cc
long_key b K.Label e = cc
long_key b K.Cell e = cc
long_key b K.Var e = cc
long_key b K.Write e = cc
long_key b K.Read e = cc
long_key b K.Take e = cc
long_key b K.Emit e = cc
long_key b K.For e = cc
long_key b K.If e = cc
long_key b K.Else e = cc
long_key b K.Buffer e = cc

-- one letter is a name
letter_name : (b : ℕ) → IsTrue (is_letter b) → IsTrue (is_word_byte b) → IsName (b ∷ [])
letter_name b h w =
    let P : ℕ → Type 0 = λ k. IsTrue (is_word_byte (slice_index (b ∷ []) k)) in
    let Q : ℕ → Type 0 = λ n. n ≤ 32 in
    let one : 1 ≡ length (b ∷ []) = refl in
    record {
      word = record { first = h; each = λ k i. (let e : 0 ≡ k = omega (arith, one, i) in subst P e w) };
      short = subst Q one (omega arith);
      free = long_key b;
    }

dir_name : (d : Dir) → IsName (dir_text d)
dir_name D.N = letter_name 78 refl refl
dir_name D.E = letter_name 69 refl refl
dir_name D.S = letter_name 83 refl refl
dir_name D.W = letter_name 87 refl refl

dirs_clear : (ds : List Dir) → Clear false (flat_map tell_dir ds) false
dirs_clear [] = refl
dirs_clear (d ∷ ds) = (space_blank, dir_name d, refl, dirs_clear ds)

route_clear : (ds : List Dir) → Clear false (tell_route ds) false
route_clear [] = refl
route_clear (d ∷ ds) = (space_blank, tt, refl, dirs_clear (d ∷ ds))

label_clear : (label : Option ℕ) → Numbers (given label) → Clear false (tell_label label) false
label_clear None ks = refl
label_clear (Some n) ks = (space_blank, tt, refl, (space_blank, ks.0, refl, refl))

length_clear : (size : Option ℕ) → Numbers (given size) → Clear false (tell_length size) false
length_clear None ks = refl
length_clear (Some n) ks = (tt, tt, refl, (tt, ks.0, refl, (tt, tt, refl, refl)))

link_clear : (l : LinkDecl) → Numbers (link_numbers l) → Clear false (tell_link l) false
link_clear l ks = (
  line_blank 0,
  tt,
  refl,
  (
    space_blank,
    ks.0,
    refl,
    (
      tt,
      tt,
      refl,
      (
        tt,
        ks.1.0,
        refl,
        (
          space_blank,
          dir_name l.dir,
          refl,
          (space_blank, tt, refl, (space_blank, ks.1.1.0, refl, (tt, tt, refl, refl))),
        ),
      ),
    ),
  ),
)

message_clear : (m : MessageDecl) → IsName m.name → Numbers (message_numbers m) → Clear false (tell_message m) false
message_clear m n ks = (
  line_blank 0,
  tt,
  refl,
  (
    space_blank,
    n,
    refl,
    (
      space_blank,
      tt,
      refl,
      (
        space_blank,
        ks.0,
        refl,
        (
          tt,
          tt,
          refl,
          (
            tt,
            ks.1.0,
            refl,
            (
              space_blank,
              tt,
              refl,
              (
                space_blank,
                ks.1.1.0,
                refl,
                (
                  tt,
                  tt,
                  refl,
                  (
                    tt,
                    ks.1.1.1.0,
                    refl,
                    semicolon_after false (tell_route m.route ++ tell_label m.label)
                        (join false (tell_route m.route) (tell_label m.label) false false (route_clear m.route) (label_clear m.label ks.1.1.1.1)),
                  ),
                ),
              ),
            ),
          ),
        ),
      ),
    ),
  ),
)

var_clear : (v : VarDecl) → IsName v.name → Numbers (given v.length) → Clear false (tell_var v) false
var_clear v n ks =
    (line_blank 1, tt, refl, (space_blank, n, refl, semicolon_after false (tell_length v.length) (length_clear v.length ks)))

vars_clear : (vs : List VarDecl) → Names (map (λ (v : VarDecl). v.name) vs) → Numbers (flat_map (λ (v : VarDecl). given v.length) vs)
    → Clear false (flat_map tell_var vs) false
vars_clear [] ns ks = refl
vars_clear (v ∷ vs) ns ks =
    let rest : List ℕ = flat_map (λ (v : VarDecl). given v.length) vs in
    join false (tell_var v) (flat_map tell_var vs) false false (var_clear v ns.0 (numbers_front (given v.length) rest ks))
    (vars_clear vs ns.1 (numbers_back (given v.length) rest ks))

messages_clear : (ms : List MessageDecl) → Names (map (λ (m : MessageDecl). m.name) ms) → Numbers (flat_map message_numbers ms)
    → Clear false (flat_map tell_message ms) false
messages_clear [] ns ks = refl
messages_clear (m ∷ ms) ns ks =
    join false (tell_message m) (flat_map tell_message ms) false false
    (message_clear m ns.0 (numbers_front (message_numbers m) (flat_map message_numbers ms) ks))
    (messages_clear ms ns.1 (numbers_back (message_numbers m) (flat_map message_numbers ms) ks))

links_clear : (ls : List LinkDecl) → Numbers (flat_map link_numbers ls) → Clear false (flat_map tell_link ls) false
links_clear [] ks = refl
links_clear (l ∷ ls) ks =
    join false (tell_link l) (flat_map tell_link ls) false false
    (link_clear l (numbers_front (link_numbers l) (flat_map link_numbers ls) ks))
    (links_clear ls (numbers_back (link_numbers l) (flat_map link_numbers ls) ks))

cell_clear : (c : CellDecl) → Names (cell_names c) → Numbers (cell_numbers c) → Clear false (tell_cell c) false
cell_clear c ns ks =
    let vs : List (List ℕ) = map (λ (v : VarDecl). v.name) c.vars in
    let lengths : List ℕ = flat_map (λ (v : VarDecl). given v.length) c.vars in
    let body : List Told = flat_map (λ (s : Stmt). tell_statement s 1) c.body in
    let inner : List (List ℕ) = flat_map statement_names c.body in
    let numbers : List ℕ = flat_map statement_numbers c.body in (
      line_blank 0,
      tt,
      refl,
      (
        space_blank,
        ks.0,
        refl,
        (
          tt,
          tt,
          refl,
          (
            tt,
            ks.1.0,
            refl,
            (
              space_blank,
              tt,
              refl,
              brace_after false (flat_map tell_var c.vars ++ body) 0
                  (join false (flat_map tell_var c.vars) body false false
                  (vars_clear c.vars (names_front vs inner ns) (numbers_front lengths numbers ks.1.1))
                  (all_clear (λ (s : Stmt). tell_statement s 1) statement_names statement_numbers (λ s ns ks. statement_clear s ns ks 1) c.body
                  (names_back vs inner ns) (numbers_back lengths numbers ks.1.1))),
            ),
          ),
        ),
      ),
    )

-- the words of a source with names and numbers of the language are clear
pub source_words : (s : Source) → Names (source_names s) → Numbers (source_numbers s) → Clear true (told s) false
source_words s ns ks =
    let Links : List ℕ = flat_map link_numbers s.links in
    let Messages : List ℕ = flat_map message_numbers s.messages in
    let Cells : List ℕ = flat_map cell_numbers s.cells in
    let names : List (List ℕ) = map (λ (m : MessageDecl). m.name) s.messages in
    let lists : Numbers (Links ++ Messages ++ Cells) = ks.1.1.1.1 in
    let first : Numbers (Links ++ Messages) = numbers_front (Links ++ Messages) Cells lists in
    let head : List Told = tell_array s ++ tell_setting K.Queues s.queues in
    let settings : Clear true head false = (
      tt,
      tt,
      refl,
      (
        space_blank,
        ks.0,
        refl,
        (
          space_blank,
          letter_name 120 refl refl,
          refl,
          (
            space_blank,
            ks.1.0,
            refl,
            (
              tt,
              tt,
              refl,
              (line_blank 0, tt, refl, (space_blank, ks.1.1.0, refl, (tt, tt, refl, refl))),
            ),
          ),
        ),
      ),
    ) in
    let buffer : Clear false (tell_buffer s.buffer) false =
    choose (s.buffer == 0) false false [] (tell_setting K.Buffer s.buffer) refl
    (line_blank 0, tt, refl, (space_blank, ks.1.1.1.0, refl, (tt, tt, refl, refl))) in
    join true (tell_settings s ++ flat_map tell_link s.links ++ flat_map tell_message s.messages) (flat_map tell_cell s.cells) false false
    (join true (tell_settings s ++ flat_map tell_link s.links) (flat_map tell_message s.messages) false false
    (join true (tell_settings s) (flat_map tell_link s.links) false false
    (join true head (tell_buffer s.buffer) false false settings buffer)
    (links_clear s.links (numbers_front Links Messages first)))
    (messages_clear s.messages (names_front names (flat_map cell_names s.cells) ns) (numbers_back Links Messages first)))
    (all_clear tell_cell cell_names cell_numbers cell_clear s.cells (names_back names (flat_map cell_names s.cells) ns)
    (numbers_back (Links ++ Messages) Cells lists))

-- the words of a printable source are clear
pub source_clear : (s : Source) → IsPrintable s → Clear true (told s) false
source_clear s p =
    source_words s (recursion_from_All IsName (source_names s) p.names)
    (recursion_from_All (λ n. n ≤ 9223372036854775807) (source_numbers s) p.numbers)
