-- What is in the grammar is read by the machine, as that source.
use Rattle.std.proofs.Common.{◌≡◌, ℕ, List, [], ◌∷◌, ◌++◌, length, suc, Option, Ok, sym, refl, ap, ◌∙◌, subst, append_assoc, append-nil}
use Rattle.sys_base.specs.declared.key.Key.TheVariants as K
use Rattle.sys_base.specs.declared.kinds.Dir.{Dir}
use Rattle.sys_base.specs.declared.kinds.Op.{Op}
use Rattle.cell_lexer.specs.declared.token.Mark.TheVariants as M
use Rattle.cell_tree.specs.declared.expression.Expr.{Expr}
use Rattle.cell_tree.specs.declared.expression.Expr.TheVariants as E
use Rattle.cell_tree.specs.declared.source.CellDecl.{CellDecl}
use Rattle.cell_tree.specs.declared.source.LinkDecl.{LinkDecl}
use Rattle.cell_tree.specs.declared.source.MessageDecl.{MessageDecl}
use Rattle.cell_tree.specs.declared.source.Place.{Place}
use Rattle.cell_tree.specs.declared.source.Source.{Source}
use Rattle.cell_tree.specs.declared.source.VarDecl.{VarDecl}
use Rattle.cell_tree.specs.declared.statement.Act.TheVariants as A
use Rattle.cell_tree.specs.declared.statement.Stmt.{Stmt}
use Rattle.cell_parser.specs.Grammar as G
use Rattle.cell_parser.specs.Grammar.{Class, Product, Additive, Comparison, Bracket, Other, class, Level, Whole, Sum, Term, Unary, Atom, ReadsExpr, ReadsStmt, ReadsBody, Star, done, next, ReadsPlace, ReadsDir, ReadsLabel, ReadsRoute, ReadsLength, ReadsBuffer, ReadsLink, ReadsMessage, ReadsVar, ReadsCell, Reads, on_line}
use Rattle.cell_parser.specs.Lexeme.{Word, Named, Numeral, Keyword, Marked, Lexeme, At}
use Rattle.cell_parser.specs.Inner.Machine as Mach
use Rattle.cell_parser.specs.Inner.Machine.{same_word, dir_of, Closer, ByParen, ByBracket, BySemicolon, ByBrace, closing, Around, InCell, InLoop, InYes, InNo, Open, Negates, Operand, Terms, Sums, Compares, Then, State, Want, WantAtom, Called, Have, Body, Target, Expect, ExpectName, ExpectNumber, ExpectKey, ExpectDir, Route, Dirs, Label, Length, Buffer, Links, Messages, Cells, Vars, whole, closed, at_terms, at_sums, at_compares, at_called, at_dir, at_open, with_link, with_message, with_cell, with_var, at, step, finish, going, run, start}
use Rattle.cell_parser.proofs.Words.{dir_of_text}

-- A word of this class ends an expression of this level.
abbrev pub Passes : Level → Class → Type 0
Passes Whole Other = Unit {0}
Passes Whole _ = ⊥
Passes Sum Bracket = ⊥
Passes Sum (Product op) = ⊥
Passes Sum _ = Unit {0}
Passes _ Bracket = ⊥
Passes _ _ = Unit {0}

-- The first word, if there is one, ends an expression of this level.
abbrev pub Clear : Level → List Lexeme → Type 0
Clear level [] = Unit {0}
Clear level (At l w ∷ us) = Passes level (class w)

-- the state where an expression of a level is wanted
abbrev pub begin : Level → Open → State
begin Whole k = Want (Terms (Sums (Compares k)))
begin Sum k = Want (Terms (Sums k))
begin Term k = Want (Terms k)
begin Unary k = Want k
begin Atom k = WantAtom k

-- what is done with the expression then
abbrev pub left_over : Level → Open → Open
left_over Sum k = Sums k
left_over Term k = Terms k
left_over _ k = k

-- Whether a level is at hand makes no difference to a word that ends an expression of it.
pub past_called : (n : List ℕ) (k : Open) (us : List Lexeme) → Clear Atom us → run (Called n k) us ≡ run (Have (E.Named n) k) us
past_called n k [] clear = refl
past_called n k (At l w ∷ us) clear = ap (λ o. going o (λ state. run state us) (suc (length us))) (passed (class w) clear)
  where
    passed : (c : Class) → Passes Atom c → at_called c n k (at_open (E.Named n) k w) ≡ at_open (E.Named n) k w
    passed Bracket h = absurd h
    passed _ h = refl

pub past_terms : (e : Expr) (k : Open) (us : List Lexeme) → Clear Sum us → run (Have e (Terms k)) us ≡ run (Have e k) us
past_terms e k [] clear = refl
past_terms e k (At l w ∷ us) clear = ap (λ o. going o (λ state. run state us) (suc (length us))) (passed (class w) clear)
  where
    passed : (c : Class) → Passes Sum c → at_terms c e k (at_open e k w) ≡ at_open e k w
    passed (Product op) h = absurd h
    passed _ h = refl

pub past_sums : (e : Expr) (k : Open) (us : List Lexeme) → Clear Whole us → run (Have e (Sums k)) us ≡ run (Have e k) us
past_sums e k [] clear = refl
past_sums e k (At l w ∷ us) clear = ap (λ o. going o (λ state. run state us) (suc (length us))) (passed (class w) clear)
  where
    passed : (c : Class) → Passes Whole c → at_sums c e k (at_open e k w) ≡ at_open e k w
    passed (Additive op) h = absurd h
    passed _ h = refl

pub past_compares : (e : Expr) (k : Open) (us : List Lexeme) → Clear Whole us → run (Have e (Compares k)) us ≡ run (Have e k) us
past_compares e k [] clear = refl
past_compares e k (At l w ∷ us) clear = ap (λ o. going o (λ state. run state us) (suc (length us))) (passed (class w) clear)
  where
    passed : (c : Class) → Passes Whole c → at_compares c e k (at_open e k w) ≡ at_open e k w
    passed (Comparison op) h = absurd h
    passed _ h = refl

past_sums_at : (e : Expr) (k : Open) (l : ℕ) (w : Word) (us : List Lexeme) (op : Op) → class w ≡ Comparison op
    → run (Have e (Sums (Compares k))) (At l w ∷ us) ≡ run (Have e (Compares k)) (At l w ∷ us)
past_sums_at e k l w us op is =
    ap (λ c. going (at_sums c e (Compares k) (at_open e (Compares k) w)) (λ state. run state us) (suc (length us))) is

-- An operand is put to its operator whatever follows.
pub past_operand : (op : Op) (e f : Expr) (k : Open) (us : List Lexeme) → run (Have f (Operand op e k)) us ≡ run (Have (E.Binary op e f) k) us
past_operand op e f k [] = refl
past_operand op e f k (At l w ∷ us) = refl

pub past_minus : (e : Expr) (k : Open) (us : List Lexeme) → run (Have e (Negates k)) us ≡ run (Have (E.Negate e) k) us
past_minus e k [] = refl
past_minus e k (At l w ∷ us) = refl

-- An operator leads on to its right operand.
at_product : (op : Op) (e : Expr) (k : Open) (l : ℕ) (w : Word) (us : List Lexeme) → class w ≡ Product op
    → run (Have e (Terms k)) (At l w ∷ us) ≡ run (Want (Operand op e (Terms k))) us
at_product op e k l w us is = ap (λ c. going (at_terms c e k (at_open e k w)) (λ state. run state us) (suc (length us))) is

at_additive : (op : Op) (e : Expr) (k : Open) (l : ℕ) (w : Word) (us : List Lexeme) → class w ≡ Additive op
    → run (Have e (Sums k)) (At l w ∷ us) ≡ run (Want (Terms (Operand op e (Sums k)))) us
at_additive op e k l w us is = ap (λ c. going (at_sums c e k (at_open e k w)) (λ state. run state us) (suc (length us))) is

at_comparison : (op : Op) (e : Expr) (k : Open) (l : ℕ) (w : Word) (us : List Lexeme) → class w ≡ Comparison op
    → run (Have e (Compares k)) (At l w ∷ us) ≡ run (Want (Terms (Sums (Operand op e k)))) us
at_comparison op e k l w us is = ap (λ c. going (at_compares c e k (at_open e k w)) (λ state. run state us) (suc (length us))) is

-- A minus is no atom, so an atom may be wanted as well where an operand is.
want_atom : {e : Expr} {ts us : List Lexeme} → ReadsExpr Atom e ts us → (k : Open) → run (Want k) ts ≡ run (WantAtom k) ts
want_atom G.number k = refl
want_atom G.named k = refl
want_atom (G.element r) k = refl
want_atom (G.parens r) k = refl

-- What ends an expression of one level ends one of another.
pub sum_clear : (us : List Lexeme) → Clear Whole us → Clear Sum us
sum_clear [] h = tt
sum_clear (At l w ∷ us) h = passed (class w) h
  where
    passed : (c : Class) → Passes Whole c → Passes Sum c
    passed Other h = tt
    passed _ h = absurd h

pub term_clear : (us : List Lexeme) → Clear Sum us → Clear Term us
term_clear [] h = tt
term_clear (At l w ∷ us) h = passed (class w) h
  where
    passed : (c : Class) → Passes Sum c → Passes Term c
    passed Bracket h = absurd h
    passed _ h = tt

pub unary_clear : (us : List Lexeme) → Clear Term us → Clear Unary us
unary_clear [] h = tt
unary_clear (At l w ∷ us) h = passed (class w) h
  where
    passed : (c : Class) → Passes Term c → Passes Unary c
    passed Bracket h = absurd h
    passed _ h = tt

pub atom_clear : (us : List Lexeme) → Clear Unary us → Clear Atom us
atom_clear [] h = tt
atom_clear (At l w ∷ us) h = passed (class w) h
  where
    passed : (c : Class) → Passes Unary c → Passes Atom c
    passed Bracket h = absurd h
    passed _ h = tt

-- The machine reads an expression where something follows that ends it.
pub forward_expr : {level : Level} {e : Expr} {ts us : List Lexeme} → ReadsExpr level e ts us → Clear level us → (k : Open)
    → run (begin level k) ts ≡ run (Have e (left_over level k)) us
forward_expr (G.sum {e = e} {us = us} r) clear k =
    forward_expr r (sum_clear us clear) (Compares k) ∙ past_sums e (Compares k) us clear ∙ past_compares e k us clear
forward_expr (G.comparison {l = l} {w = w} {op = op} {e = e} {f = f} {us = us} {vs = vs} r is q) clear k =
    forward_expr r (subst (Passes Sum) (sym is) tt) (Compares k) ∙ past_sums_at e k l w us op is ∙ at_comparison op e k l w us is
    ∙ forward_expr q (sum_clear vs clear) (Operand op e k) ∙ past_sums f (Operand op e k) vs clear ∙ past_operand op e f k vs
forward_expr (G.term {e = e} {us = us} r) clear k = forward_expr r (term_clear us clear) (Sums k) ∙ past_terms e (Sums k) us clear
forward_expr (G.addition {l = l} {w = w} {op = op} {e = e} {f = f} {us = us} {vs = vs} r is q) clear k =
    forward_expr r (subst (Passes Sum) (sym is) tt) k ∙ at_additive op e k l w us is
    ∙ forward_expr q (term_clear vs clear) (Operand op e (Sums k)) ∙ past_terms f (Operand op e (Sums k)) vs clear
    ∙ past_operand op e f (Sums k) vs
forward_expr (G.unary {us = us} r) clear k = forward_expr r (unary_clear us clear) (Terms k)
forward_expr (G.product {l = l} {w = w} {op = op} {e = e} {f = f} {us = us} {vs = vs} r is q) clear k =
    forward_expr r (subst (Passes Term) (sym is) tt) k ∙ at_product op e k l w us is
    ∙ forward_expr q (unary_clear vs clear) (Operand op e (Terms k)) ∙ past_operand op e f (Terms k) vs
forward_expr (G.minus {e = e} {us = us} r) clear k = forward_expr r (atom_clear us clear) (Negates k) ∙ past_minus e k us
forward_expr (G.atom {us = us} r) clear k = want_atom r k ∙ forward_expr r (atom_clear us clear) k
forward_expr (G.number) clear k = refl
forward_expr (G.named {n = n} {us = us}) clear k = past_called n k us clear
forward_expr (G.element {n = n} r) clear k = forward_expr r tt (Then ByBracket (λ e. Have (E.At n e) k))
forward_expr (G.parens r) clear k = forward_expr r tt (Then ByParen (λ e. Have e k))

mutual
  -- The machine reads a statement, and statements.
  pub forward_stmt : {s : Stmt} {ts us : List Lexeme} → ReadsStmt s ts us → (b : List Stmt) (around : Around)
      → run (Body b around) ts ≡ run (Body (b ++ s ∷ []) around) us
  forward_stmt (G.set {l = l} {n = n} r) b around = forward_expr r tt (Then BySemicolon (λ e. Mach.stated l (A.Set n e) b around))
  forward_stmt (G.set_at {l = l} {n = n} {e = e} r q) b around =
      forward_expr r tt (Then ByBracket (λ e. Mach.mark M.Assign (Mach.ended l (λ f. A.SetAt n e f) b around)))
      ∙ forward_expr q tt (Then BySemicolon (λ f. Mach.stated l (A.SetAt n e f) b around))
  forward_stmt (G.write {l = l} {m = m} r) b around = forward_expr r tt (Then BySemicolon (λ e. Mach.stated l (A.Write m e) b around))
  forward_stmt G.read b around = refl
  forward_stmt G.take b around = refl
  forward_stmt (G.emit {l = l} r) b around = forward_expr r tt (Then BySemicolon (λ e. Mach.stated l (A.Emit e) b around))
  forward_stmt (G.loop {l = l} {n = n} {c = c} r) b around = forward_body r [] (InLoop l c n b around)
  forward_stmt (G.choice {l = l} {e = e} {b = first} r q t) b around =
      forward_expr r tt (Then ByBrace (λ e. Body [] (InYes l e b around))) ∙ forward_body q [] (InYes l e b around)
      ∙ forward_body t [] (InNo l e first b around)

  pub forward_body : {c : List Stmt} {ts us : List Lexeme} → ReadsBody c ts us → (b : List Stmt) (around : Around)
      → run (Body b around) ts ≡ run (Body (b ++ c) around) us
  forward_body (G.none {us = us}) b around = ap (λ d. run (Body d around) us) (sym (append-nil b))
  forward_body (G.more {s = s} {b = c} {vs = vs} r q) b around =
      forward_stmt r b around ∙ forward_body q (b ++ s ∷ []) around ∙ ap (λ d. run (Body d around) vs) (append_assoc b (s ∷ []) c)

-- A state that holds a list goes over a list of items, where it goes over each item.
pub forward_star : {A : Type 0} (R : A → List Lexeme → List Lexeme → Type 0) (state : List A → State)
    → ((before : List A) (a : A) (ts us : List Lexeme) → R a ts us → run (state before) ts ≡ run (state (before ++ a ∷ [])) us)
    → {rest : List A} {ts us : List Lexeme} → Star R rest ts us → (before : List A) → run (state before) ts ≡ run (state (before ++ rest)) us
forward_star R state f (done {us = us}) before = ap (λ b. run (state b) us) (sym (append-nil before))
forward_star R state f (next {a = a} {rest = rest} {ts = ts} {us = us} {vs = vs} r q) before =
    f before a ts us r ∙ forward_star R state f q (before ++ a ∷ []) ∙ ap (λ b. run (state b) vs) (append_assoc before (a ∷ []) rest)

-- The machine reads the parts of declarations.
pub forward_place : {p : Place} {ts us : List Lexeme} → ReadsPlace p ts us → (f : Place → State) → run (Mach.place f) ts ≡ run (f p) us
forward_place G.place f = refl

pub forward_dir : {d : Dir} {ts us : List Lexeme} → ReadsDir d ts us → (f : Dir → State) → run (ExpectDir f) ts ≡ run (f d) us
forward_dir (G.dir {n = n} {d = d} {us = us} e) f =
    ap (λ o. going (at_dir o f) (λ state. run state us) (suc (length us))) (ap dir_of e ∙ dir_of_text d)

next_dir : (f : List Dir → Option ℕ → State) (ds : List Dir) (d : Dir) (ts us : List Lexeme) → ReadsDir d ts us
    → run (Dirs ds f) ts ≡ run (Dirs (ds ++ d ∷ []) f) us
next_dir f ds d ts us (G.dir {n = n} e) =
    ap (λ o. going (at_dir o (λ d. Dirs (ds ++ d ∷ []) f)) (λ state. run state us) (suc (length us))) (ap dir_of e ∙ dir_of_text d)

forward_label : {o : Option ℕ} {l : ℕ} {ts us : List Lexeme} → ReadsLabel o ts (At l (Marked M.Semicolon) ∷ us) → (f : Option ℕ → State)
    → run (Label f) ts ≡ run (f o) us
forward_label G.no_label f = refl
forward_label G.label f = refl

no_more_dirs : {o : Option ℕ} {l : ℕ} {ts us : List Lexeme} → ReadsLabel o ts (At l (Marked M.Semicolon) ∷ us)
    → (ds : List Dir) (f : List Dir → Option ℕ → State) → run (Dirs ds f) ts ≡ run (Label (f ds)) ts
no_more_dirs G.no_label ds f = refl
no_more_dirs G.label ds f = refl

no_route : {o : Option ℕ} {l : ℕ} {ts us : List Lexeme} → ReadsLabel o ts (At l (Marked M.Semicolon) ∷ us)
    → (f : List Dir → Option ℕ → State) → run (Route f) ts ≡ run (Label (f [])) ts
no_route G.no_label f = refl
no_route G.label f = refl

pub forward_route : {r : List Dir} {o : Option ℕ} {l : ℕ} {ts us vs : List Lexeme} → ReadsRoute r ts us
    → ReadsLabel o us (At l (Marked M.Semicolon) ∷ vs) → (f : List Dir → Option ℕ → State) → run (Route f) ts ≡ run (f r o) vs
forward_route G.no_route t f = no_route t f ∙ forward_label t (f [])
forward_route (G.route {d = d} {ds = ds} r q) t f =
    forward_dir r (λ d. Dirs (d ∷ []) f) ∙ forward_star ReadsDir (λ ds. Dirs ds f) (next_dir f) q (d ∷ [])
    ∙ no_more_dirs t (d ∷ ds) f ∙ forward_label t (f (d ∷ ds))

pub forward_length : {o : Option ℕ} {l : ℕ} {ts us : List Lexeme} → ReadsLength o ts (At l (Marked M.Semicolon) ∷ us) → (f : Option ℕ → State)
    → run (Length f) ts ≡ run (f o) us
forward_length G.no_length f = refl
forward_length G.length f = refl

-- The machine reads declarations.
pub forward_link : (s : Source) (x : LinkDecl) (ts us : List Lexeme) → ReadsLink x ts us → run (Links s) ts ≡ run (Links (with_link s x)) us
forward_link s x ts us (G.link {l = l} {p = p} r q) =
    forward_place r (λ p. ExpectDir (λ d. Mach.link_queues l s p d)) ∙ forward_dir q (λ d. Mach.link_queues l s p d)

pub forward_message : (s : Source) (x : MessageDecl) (ts us : List Lexeme) → ReadsMessage x ts us
    → run (Messages s) ts ≡ run (Messages (with_message s x)) us
forward_message s x ts us (G.message {l = l} {n = n} {p = p} {q = q} v w y z) =
    forward_place v (λ p. Mach.key K.To (Mach.place (λ q. Route (Mach.messaged l s n p q))))
    ∙ forward_place w (λ q. Route (Mach.messaged l s n p q)) ∙ forward_route y z (Mach.messaged l s n p q)

pub forward_var : (s : Source) (c : CellDecl) (x : VarDecl) (ts us : List Lexeme) → ReadsVar x ts us
    → run (Vars s c) ts ≡ run (Vars s (with_var c x)) us
forward_var s c x ts us (G.variable r) = forward_length r _

no_more_vars : {b : List Stmt} {j : ℕ} {ts us : List Lexeme} → ReadsBody b ts (At j (Marked M.CloseBrace) ∷ us) → (s : Source) (c : CellDecl)
    → run (Vars s c) ts ≡ run (Body [] (InCell s c)) ts
no_more_vars G.none s c = refl
no_more_vars (G.more r q) s c = stmt_first r
  where
    stmt_first : {x : Stmt} {ts us : List Lexeme} → ReadsStmt x ts us → run (Vars s c) ts ≡ run (Body [] (InCell s c)) ts
    stmt_first (G.set r) = refl
    stmt_first (G.set_at r q) = refl
    stmt_first (G.write r) = refl
    stmt_first G.read = refl
    stmt_first G.take = refl
    stmt_first (G.emit r) = refl
    stmt_first (G.loop r) = refl
    stmt_first (G.choice r q t) = refl

pub forward_cell : (s : Source) (x : CellDecl) (ts us : List Lexeme) → ReadsCell x ts us → run (Cells s) ts ≡ run (Cells (with_cell s x)) us
forward_cell s x ts us (G.cell {l = l} {p = p} {xs = xs} q r t) =
    let c : CellDecl = Mach.opened l p in
    let d : CellDecl = record c { vars = xs } in
    forward_place q (λ p. Mach.mark M.OpenBrace (Vars s (Mach.opened l p)))
    ∙ forward_star ReadsVar (λ ys. Vars s (record c { vars = ys })) (λ ys. forward_var s (record c { vars = ys })) r []
    ∙ no_more_vars t s d ∙ forward_body t [] (InCell s d)

-- The machine goes on to the next section.
no_more_messages : {xs : List CellDecl} {ts : List Lexeme} → Star ReadsCell xs ts [] → (s : Source) → run (Messages s) ts ≡ run (Cells s) ts
no_more_messages done s = refl
no_more_messages (next (G.cell q r t) v) s = refl

no_more_links : {xs : List MessageDecl} {ys : List CellDecl} {ts us : List Lexeme} → Star ReadsMessage xs ts us → Star ReadsCell ys us []
    → (s : Source) → run (Links s) ts ≡ run (Messages s) ts
no_more_links (next (G.message q r t v) w) x s = refl
no_more_links done (next (G.cell q r t) v) s = refl
no_more_links done done s = refl

no_more_buffer : {xs : List LinkDecl} {ys : List MessageDecl} {zs : List CellDecl} {ts us vs : List Lexeme} → Star ReadsLink xs ts us
    → Star ReadsMessage ys us vs → Star ReadsCell zs vs [] → (f : ℕ → ℕ → Source) → run (Buffer f) ts ≡ run (Links (f 0 0)) ts
no_more_buffer (next (G.link q r) v) w x f = refl
no_more_buffer done (next (G.message q r t v) w) x f = refl
no_more_buffer done done (next (G.cell q r t) v) f = refl
no_more_buffer done done done f = refl

forward_buffer : {b : ℕ × ℕ} {xs : List LinkDecl} {ys : List MessageDecl} {zs : List CellDecl} {ts us vs ws : List Lexeme} → ReadsBuffer b ts us
    → Star ReadsLink xs us vs → Star ReadsMessage ys vs ws → Star ReadsCell zs ws [] → (f : ℕ → ℕ → Source)
    → run (Buffer f) ts ≡ run (Links (f b.0 b.1)) us
forward_buffer G.no_buffer x y z f = no_more_buffer x y z f
forward_buffer G.buffer x y z f = refl

-- What is in the grammar is read by the machine.
pub forward : {ts : List Lexeme} {s : Source} → Reads ts s → run start ts ≡ Ok s
forward (G.program {l = l} {k = k} {j = j} {i = i} {h = h} {g = g} {f = f} {e = e} {r = r} {c = c} {q = q} {b = b} {links = links}
    {messages = messages} {cells = cells} {ts = ts} is p x y z) =
    let settings : ℕ → ℕ → Source = λ n m. record {
      rows = r;
      cols = c;
      array_line = l;
      queues = q;
      queues_line = g;
      buffer = n;
      buffer_line = m;
      links = [];
      messages = [];
      cells = [];
    } in
    let first : Source = settings b.0 b.1 in
    let second : Source = record first { links = links } in
    let third : Source = record second { messages = messages } in
    ap (λ n. run start (At l (Keyword K.Array) ∷ At k (Numeral r) ∷ At j (Named n) ∷ At i (Numeral c) ∷ At h (Marked M.Semicolon)
    ∷ At g (Keyword K.Queues) ∷ At f (Numeral q) ∷ At e (Marked M.Semicolon) ∷ ts)) is
    ∙ forward_buffer p x y z settings
    ∙ forward_star ReadsLink (λ xs. Links (record first { links = xs })) (λ xs. forward_link (record first { links = xs })) x []
    ∙ no_more_links y z second
    ∙ forward_star ReadsMessage (λ xs. Messages (record second { messages = xs })) (λ xs. forward_message (record second { messages = xs })) y []
    ∙ no_more_messages z third
    ∙ forward_star ReadsCell (λ xs. Cells (record third { cells = xs })) (λ xs. forward_cell (record third { cells = xs })) z []
