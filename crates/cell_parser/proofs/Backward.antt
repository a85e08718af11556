-- What the machine reads to a source is in the grammar, as that source.
use Rattle.std.proofs.Common.{◌≡◌, ℕ, Bool, true, false, List, [], ◌∷◌, ◌++◌, length, suc, Option, Some, None, Result, Ok, Err, sym, refl, ap, ◌∙◌, subst, append_assoc, append-nil}
use Rattle.sys_base.specs.declared.key.Key.{Key}
use Rattle.sys_base.specs.declared.key.Key.TheVariants as K
use Rattle.sys_base.specs.declared.kinds.Dir.{Dir}
use Rattle.cell_lexer.specs.declared.token.Mark.TheVariants as M
use Rattle.cell_tree.specs.declared.expression.Expr.{Expr}
use Rattle.cell_tree.specs.declared.expression.Expr.TheVariants as E
use Rattle.cell_tree.specs.declared.source.CellDecl.{CellDecl}
use Rattle.cell_tree.specs.declared.source.LinkDecl.{LinkDecl}
use Rattle.cell_tree.specs.declared.source.MessageDecl.{MessageDecl}
use Rattle.cell_tree.specs.declared.source.VarDecl.{VarDecl}
use Rattle.cell_tree.specs.declared.source.Source.{Source}
use Rattle.cell_tree.specs.declared.statement.Act.TheVariants as A
use Rattle.cell_tree.specs.declared.statement.Stmt.{Stmt}
use Rattle.cell_parser.specs.Grammar as G
use Rattle.cell_parser.specs.Grammar.{Class, Product, Additive, Comparison, Bracket, Other, class, Whole, Sum, Term, Unary, Atom, ReadsExpr, ReadsStmt, ReadsBody, Star, done, next, ReadsPlace, ReadsDir, ReadsLabel, ReadsRoute, ReadsLength, ReadsBuffer, ReadsLink, ReadsMessage, ReadsVar, ReadsCell, Reads, on_line}
use Rattle.cell_parser.specs.Lexeme.{Word, Named, Numeral, Keyword, Marked, Lexeme, At}
use Rattle.cell_parser.specs.Inner.Machine as Mach
use Rattle.cell_parser.specs.Inner.Machine.{same_word, dir_of, Closer, ByParen, ByBracket, BySemicolon, ByBrace, closing, Around, InCell, InLoop, InYes, InNo, Open, Negates, Operand, Terms, Sums, Compares, Then, State, Want, WantAtom, Called, Have, Body, Target, Expect, ExpectName, ExpectNumber, ExpectKey, ExpectDir, Route, Dirs, Label, Length, Buffer, Links, Messages, Cells, Vars, whole, closed, at_atom, at_operand, at_terms, at_sums, at_compares, at_called, if_same, at_open, at_body, at_target, at_name, at_number, at_dir, at_dir_name, at_label, at_dirs, at_route, at_length, at_cells, at_messages, at_links, at_buffer, at_vars, with_link, with_message, with_cell, with_var, at, step, finish, going, run, start}
use Rattle.cell_parser.proofs.Sentences.{Takes, takes, TakesName, takes_name, TakesNumber, takes_number, TakesKey, takes_key, Part, part, grown, Ends, ends, ReadsCalled, ReadsTarget, CellsGo, MessagesGo, LinksGo, Closes, BodyGoes, Goes, Sentence, After}
use Rattle.cell_parser.proofs.Words.{same_words, text_of_dir}

-- a source is no place
abbrev IsSource : Result Source ℕ → Type 0
IsSource (Ok s) = Unit {0}
IsSource (Err n) = ⊥

pub no_ok : {A : Type 0} (n : ℕ) (s : Source) → Err n ≡ Ok s → A
no_ok n s e = absurd (subst IsSource (sym e) tt)

-- the source that was read, where one was
abbrev source_or : Source → Result Source ℕ → Source
source_or s (Ok t) = t
source_or s (Err n) = s

pub one_ok : (s t : Source) → ◌≡◌ {A = Result Source ℕ} (Ok s) (Ok t) → s ≡ t
one_ok s t e = ap (source_or s) e

-- the words from here on go on to one source
module _ (p : Source) where
  -- a word that stands as it must
  same_back : (v w : Word) (l : ℕ) (us : List Lexeme) (state : State) (b : Bool) → same_word v w ≡ b → After p (if_same b state) us
      → Takes v (Sentence p state) (At l w ∷ us)
  same_back v w l us state true e after = subst (λ x. Takes v (Sentence p state) (At l x ∷ us)) (same_words v w e) (takes after)
  same_back v w l us state false e after = absurd after

  key_back : (k : Key) (w : Word) (l : ℕ) (us : List Lexeme) (f : ℕ → State) (b : Bool) → same_word (Keyword k) w ≡ b
      → After p (if_same b (f l)) us → TakesKey k (λ n. Sentence p (f n)) (At l w ∷ us)
  key_back k w l us f true e after =
      subst (λ x. TakesKey k (λ n. Sentence p (f n)) (At l x ∷ us)) (same_words (Keyword k) w e) (takes_key after)
  key_back k w l us f false e after = absurd after

  -- operands
  terms_back : (e : Expr) (k : Open) (l : ℕ) (w : Word) (us : List Lexeme) (o : Option State) (c : Class) → class w ≡ c
      → After p (at_terms c e k o) us → (After p o us → Goes p k e (At l w ∷ us)) → Goes p (Terms k) e (At l w ∷ us)
  terms_back e k l w us o (Product op) is (part r (grown f goes)) rest = grown (λ ts q. f ts (G.product q is r)) goes
  terms_back e k l w us o _ is after rest = grown (λ ts q. q) (rest after)

  sums_back : (e : Expr) (k : Open) (l : ℕ) (w : Word) (us : List Lexeme) (o : Option State) (c : Class) → class w ≡ c
      → After p (at_sums c e k o) us → (After p o us → Goes p k e (At l w ∷ us)) → Goes p (Sums k) e (At l w ∷ us)
  sums_back e k l w us o (Additive op) is (part r (grown f (grown g goes))) rest =
      grown (λ ts q. g ts (G.addition q is (f _ (G.unary r)))) goes
  sums_back e k l w us o _ is after rest = grown (λ ts q. q) (rest after)

  compares_back : (e : Expr) (k : Open) (l : ℕ) (w : Word) (us : List Lexeme) (o : Option State) (c : Class) → class w ≡ c
      → After p (at_compares c e k o) us → (After p o us → Goes p k e (At l w ∷ us)) → Goes p (Compares k) e (At l w ∷ us)
  compares_back e k l w us o (Comparison op) is (part r (grown f (grown g goes))) rest =
      grown (λ ts q. G.comparison q is (g _ (G.term (f _ (G.unary r))))) goes
  compares_back e k l w us o _ is after rest = grown (λ ts q. G.sum q) (rest after)

  open_back : (k : Open) (e : Expr) (l : ℕ) (w : Word) (us : List Lexeme) → After p (at_open e k w) us → Goes p k e (At l w ∷ us)
  open_back (Negates k) e l w us after = open_back k (E.Negate e) l w us after
  open_back (Operand op e k) f l w us after = open_back k (E.Binary op e f) l w us after
  open_back (Terms k) e l w us after = terms_back e k l w us (at_open e k w) (class w) refl after (open_back k e l w us)
  open_back (Sums k) e l w us after = sums_back e k l w us (at_open e k w) (class w) refl after (open_back k e l w us)
  open_back (Compares k) e l w us after = compares_back e k l w us (at_open e k w) (class w) refl after (open_back k e l w us)
  open_back (Then c f) e l w us after = same_back (Marked (closing c)) w l us (f e) (same_word (Marked (closing c)) w) refl after

  -- a whole expression and what ends it
  abbrev WholeGoes : Closer → (Expr → State) → List Lexeme → Type 0
  WholeGoes c f = Part (ReadsExpr Whole) (λ e. Takes (Marked (closing c)) (Sentence p (f e)))

  whole_back : (c : Closer) (f : Expr → State) (ts : List Lexeme) → Sentence p (whole c f) ts → WholeGoes c f ts
  whole_back c f ts (part r (grown g (grown h (grown i goes)))) = part (i _ (h _ (G.term (g _ (G.unary r))))) goes

  element_back : (n : List ℕ) (k : Open) (l : ℕ) (ts : List Lexeme) → WholeGoes ByBracket (λ e. Have (E.At n e) k) ts
      → Part (ReadsCalled n) (λ e. Goes p k e) (At l (Marked M.OpenBracket) ∷ ts)
  element_back n k l ts (part r (takes goes)) = part (λ m. G.element r) goes

  called_back : (n : List ℕ) (k : Open) (l : ℕ) (w : Word) (us : List Lexeme)
      → After p (at_called (class w) n k (at_open (E.Named n) k w)) us → Part (ReadsCalled n) (λ e. Goes p k e) (At l w ∷ us)
  called_back n k l (Marked M.OpenBracket) us after = element_back n k l us (whole_back ByBracket (λ e. Have (E.At n e) k) us after)
  called_back n k l w us after = part (λ m. G.named) (open_back k (E.Named n) l w us after)

  parens_back : (k : Open) (l : ℕ) (ts : List Lexeme) → WholeGoes ByParen (λ e. Have e k) ts
      → Part (ReadsExpr Atom) (λ e. Goes p k e) (At l (Marked M.OpenParen) ∷ ts)
  parens_back k l ts (part r (takes goes)) = part (G.parens r) goes

  named_back : (n : List ℕ) (k : Open) (l : ℕ) (ts : List Lexeme) → Part (ReadsCalled n) (λ e. Goes p k e) ts
      → Part (ReadsExpr Atom) (λ e. Goes p k e) (At l (Named n) ∷ ts)
  named_back n k l ts (part r goes) = part (r l) goes

  atom_back : (k : Open) (l : ℕ) (w : Word) (us : List Lexeme) → After p (at_atom w k) us
      → Part (ReadsExpr Atom) (λ e. Goes p k e) (At l w ∷ us)
  atom_back k l (Numeral n) us after = part G.number after
  atom_back k l (Named n) us after = named_back n k l us after
  atom_back k l (Marked M.OpenParen) us after = parens_back k l us (whole_back ByParen (λ e. Have e k) us after)
  atom_back k l _ us after = absurd after

  minus_back : (k : Open) (l : ℕ) (ts : List Lexeme) → Part (ReadsExpr Atom) (λ e. Goes p k (E.Negate e)) ts
      → Part (ReadsExpr Unary) (λ e. Goes p k e) (At l (Marked M.Minus) ∷ ts)
  minus_back k l ts (part r goes) = part (G.minus r) goes

  unary_back : (k : Open) (ts : List Lexeme) → Part (ReadsExpr Atom) (λ e. Goes p k e) ts → Part (ReadsExpr Unary) (λ e. Goes p k e) ts
  unary_back k ts (part r goes) = part (G.atom r) goes

  operand_back : (k : Open) (l : ℕ) (w : Word) (us : List Lexeme) → After p (at_operand w k) us
      → Part (ReadsExpr Unary) (λ e. Goes p k e) (At l w ∷ us)
  operand_back k l (Marked M.Minus) us after = minus_back k l us after
  operand_back k l w us after = unary_back k (At l w ∷ us) (atom_back k l w us after)

  -- statements
  more_back : (b : List Stmt) (around : Around) (s : Stmt) (ts us : List Lexeme) → ReadsStmt s ts us → BodyGoes p around (b ++ s ∷ []) us
      → BodyGoes p around b ts
  more_back b around s ts us r (part {a = c} {us = vs} q goes) =
      part (G.more r q) (subst (λ d. Closes p around d vs) (append_assoc b (s ∷ []) c) goes)

  none_back : (b : List Stmt) (around : Around) (ts : List Lexeme) → Closes p around b ts → BodyGoes p around b ts
  none_back b around ts goes = part G.none (subst (λ d. Closes p around d ts) (sym (append-nil b)) goes)

  close_back : (b : List Stmt) (around : Around) (l : ℕ) (us : List Lexeme) → Sentence p (closed b around) us
      → Closes p around b (At l (Marked M.CloseBrace) ∷ us)
  close_back b (InCell s c) l us goes = takes goes
  close_back b (InLoop k c n before around) l us goes = takes goes
  close_back b (InYes k e before around) l us goes = takes goes
  close_back b (InNo k e first before around) l us goes = takes goes

  write_back : (l : ℕ) (b : List Stmt) (around : Around) (m : List ℕ) (k : ℕ) (ts : List Lexeme)
      → WholeGoes BySemicolon (λ e. Mach.stated l (A.Write m e) b around) ts
      → BodyGoes p around b (At l (Keyword K.Write) ∷ At k (Named m) ∷ ts)
  write_back l b around m k ts (part r (takes goes)) = more_back b around _ _ _ (G.write r) goes

  write_name_back : (l : ℕ) (b : List Stmt) (around : Around) (ts : List Lexeme) → Sentence p (Mach.write l b around) ts
      → BodyGoes p around b (At l (Keyword K.Write) ∷ ts)
  write_name_back l b around ts (takes_name {l = k} {n = m} {us = us} goes) =
      write_back l b around m k us (whole_back BySemicolon (λ e. Mach.stated l (A.Write m e) b around) us goes)

  read_back : (l : ℕ) (b : List Stmt) (around : Around) (ts : List Lexeme) → Sentence p (Mach.read l b around) ts
      → BodyGoes p around b (At l (Keyword K.Read) ∷ ts)
  read_back l b around ts (takes_name (takes_name (takes goes))) = more_back b around _ _ _ G.read goes

  take_back : (l : ℕ) (b : List Stmt) (around : Around) (ts : List Lexeme) → Sentence p (Mach.take l b around) ts
      → BodyGoes p around b (At l (Keyword K.Take) ∷ ts)
  take_back l b around ts (takes_name (takes goes)) = more_back b around _ _ _ G.take goes

  emit_back : (l : ℕ) (b : List Stmt) (around : Around) (ts : List Lexeme) → WholeGoes BySemicolon (λ e. Mach.stated l (A.Emit e) b around) ts
      → BodyGoes p around b (At l (Keyword K.Emit) ∷ ts)
  emit_back l b around ts (part r (takes goes)) = more_back b around _ _ _ (G.emit r) goes

  loop_back : (l : ℕ) (b : List Stmt) (around : Around) (ts : List Lexeme) → Sentence p (Mach.loop l b around) ts
      → BodyGoes p around b (At l (Keyword K.For) ∷ ts)
  loop_back l b around ts (takes_name (takes_number (takes (part r (takes goes))))) = more_back b around _ _ _ (G.loop r) goes

  choice_back : (l : ℕ) (b : List Stmt) (around : Around) (ts : List Lexeme) → WholeGoes ByBrace (λ e. Body [] (InYes l e b around)) ts
      → BodyGoes p around b (At l (Keyword K.If) ∷ ts)
  choice_back l b around ts (part r (takes (part q (takes (takes (takes (part s (takes goes)))))))) = more_back b around _ _ _ (G.choice r q s) goes

  body_back : (l : ℕ) (w : Word) (b : List Stmt) (around : Around) (us : List Lexeme) → After p (at_body w l b around) us
      → BodyGoes p around b (At l w ∷ us)
  body_back l (Named n) b around us (part r goes) = more_back b around _ _ _ r goes
  body_back l (Keyword K.Write) b around us after = write_name_back l b around us after
  body_back l (Keyword K.Read) b around us after = read_back l b around us after
  body_back l (Keyword K.Take) b around us after = take_back l b around us after
  body_back l (Keyword K.Emit) b around us after = emit_back l b around us (whole_back BySemicolon (λ e. Mach.stated l (A.Emit e) b around) us after)
  body_back l (Keyword K.For) b around us after = loop_back l b around us after
  body_back l (Keyword K.If) b around us after = choice_back l b around us (whole_back ByBrace (λ e. Body [] (InYes l e b around)) us after)
  body_back l (Marked M.CloseBrace) b around us after = none_back b around _ (close_back b around l us after)
  body_back l _ b around us after = absurd after

  set_back : (k l : ℕ) (n : List ℕ) (b : List Stmt) (around : Around) (ts : List Lexeme)
      → WholeGoes BySemicolon (λ e. Mach.stated l (A.Set n e) b around) ts
      → Part (ReadsTarget l n) (λ s. BodyGoes p around (b ++ s ∷ [])) (At k (Marked M.Assign) ∷ ts)
  set_back k l n b around ts (part r (takes goes)) = part (G.set r) goes

  set_at_back : (k j i l : ℕ) (n : List ℕ) (b : List Stmt) (around : Around) (e : Expr) (ts us : List Lexeme)
      → ReadsExpr Whole e ts (At j (Marked M.CloseBracket) ∷ At i (Marked M.Assign) ∷ us)
      → WholeGoes BySemicolon (λ f. Mach.stated l (A.SetAt n e f) b around) us
      → Part (ReadsTarget l n) (λ s. BodyGoes p around (b ++ s ∷ [])) (At k (Marked M.OpenBracket) ∷ ts)
  set_at_back k j i l n b around e ts us q (part r (takes goes)) = part (G.set_at q r) goes

  index_back : (k l : ℕ) (n : List ℕ) (b : List Stmt) (around : Around) (ts : List Lexeme)
      → WholeGoes ByBracket (λ e. Mach.mark M.Assign (Mach.ended l (λ f. A.SetAt n e f) b around)) ts
      → Part (ReadsTarget l n) (λ s. BodyGoes p around (b ++ s ∷ [])) (At k (Marked M.OpenBracket) ∷ ts)
  index_back k l n b around ts (part {a = e} q (takes {l = j} (takes {l = i} {us = us} goes))) =
      set_at_back k j i l n b around e ts us q (whole_back BySemicolon (λ f. Mach.stated l (A.SetAt n e f) b around) us goes)

  target_back : (k : ℕ) (w : Word) (l : ℕ) (n : List ℕ) (b : List Stmt) (around : Around) (us : List Lexeme)
      → After p (at_target w l n b around) us → Part (ReadsTarget l n) (λ s. BodyGoes p around (b ++ s ∷ [])) (At k w ∷ us)
  target_back k (Marked M.Assign) l n b around us after =
      set_back k l n b around us (whole_back BySemicolon (λ e. Mach.stated l (A.Set n e) b around) us after)
  target_back k (Marked M.OpenBracket) l n b around us after =
      index_back k l n b around us (whole_back ByBracket (λ e. Mach.mark M.Assign (Mach.ended l (λ f. A.SetAt n e f) b around)) us after)
  target_back k _ l n b around us after = absurd after

  -- words of a sort
  name_back : (l : ℕ) (w : Word) (f : List ℕ → State) (us : List Lexeme) → After p (at_name w f) us → TakesName (λ n. Sentence p (f n)) (At l w ∷ us)
  name_back l (Named n) f us after = takes_name after
  name_back l _ f us after = absurd after

  number_back : (l : ℕ) (w : Word) (f : ℕ → State) (us : List Lexeme) → After p (at_number w f) us → TakesNumber (λ n. Sentence p (f n)) (At l w ∷ us)
  number_back l (Numeral n) f us after = takes_number after
  number_back l _ f us after = absurd after

  found_back : (l : ℕ) (n : List ℕ) (f : Dir → State) (us : List Lexeme) (o : Option Dir) → dir_of n ≡ o → After p (at_dir o f) us
      → Part ReadsDir (λ d. Sentence p (f d)) (At l (Named n) ∷ us)
  found_back l n f us (Some d) is after = part (G.dir (text_of_dir n d is)) after
  found_back l n f us None is after = absurd after

  dir_back : (l : ℕ) (w : Word) (f : Dir → State) (us : List Lexeme) → After p (at_dir_name w f) us → Part ReadsDir (λ d. Sentence p (f d)) (At l w ∷ us)
  dir_back l (Named n) f us after = found_back l n f us (dir_of n) refl after
  dir_back l _ f us after = absurd after

  -- optional parts of declarations
  label_back : (l : ℕ) (w : Word) (f : Option ℕ → State) (us : List Lexeme) → After p (at_label w f) us → Sentence p (Label f) (At l w ∷ us)
  label_back l (Keyword K.Label) f us (takes_number (takes goes)) = part G.label (takes goes)
  label_back l (Marked M.Semicolon) f us after = part G.no_label (takes after)
  label_back l _ f us after = absurd after

  no_dirs_back : (ds : List Dir) (f : List Dir → Option ℕ → State) (ts : List Lexeme) → Sentence p (Label (f ds)) ts → Sentence p (Dirs ds f) ts
  no_dirs_back ds f ts goes = part done (subst (λ r. Sentence p (Label (f r)) ts) (sym (append-nil ds)) goes)

  more_dirs_back : (ds : List Dir) (f : List Dir → Option ℕ → State) (l : ℕ) (n : List ℕ) (us : List Lexeme)
      → Part ReadsDir (λ d. Sentence p (Dirs (ds ++ d ∷ []) f)) (At l (Named n) ∷ us) → Sentence p (Dirs ds f) (At l (Named n) ∷ us)
  more_dirs_back ds f l n us (part {a = d} r (part {a = more} {us = vs} q goes)) =
      part (next r q) (subst (λ x. Sentence p (Label (f x)) vs) (append_assoc ds (d ∷ []) more) goes)

  dirs_back : (l : ℕ) (w : Word) (ds : List Dir) (f : List Dir → Option ℕ → State) (us : List Lexeme) → After p (at_dirs w ds f) us
      → Sentence p (Dirs ds f) (At l w ∷ us)
  dirs_back l (Named n) ds f us after =
      more_dirs_back ds f l n us (found_back l n (λ d. Dirs (ds ++ d ∷ []) f) us (dir_of n) refl after)
  dirs_back l w ds f us after = no_dirs_back ds f (At l w ∷ us) (label_back l w (f ds) us after)

  given_back : (f : List Dir → Option ℕ → State) (l : ℕ) (ts : List Lexeme) → Part ReadsDir (λ d. Sentence p (Dirs (d ∷ []) f)) ts
      → Sentence p (Route f) (At l (Keyword K.Route) ∷ ts)
  given_back f l ts (part r (part q goes)) = part (G.route r q) goes

  route_back : (l : ℕ) (w : Word) (f : List Dir → Option ℕ → State) (us : List Lexeme) → After p (at_route w f) us
      → Sentence p (Route f) (At l w ∷ us)
  route_back l (Keyword K.Route) f us after = given_back f l us after
  route_back l w f us after = part G.no_route (label_back l w (f []) us after)

  length_back : (l : ℕ) (w : Word) (f : Option ℕ → State) (us : List Lexeme) → After p (at_length w f) us → Sentence p (Length f) (At l w ∷ us)
  length_back l (Marked M.OpenBracket) f us (takes_number (takes (takes goes))) = part G.length (takes goes)
  length_back l (Marked M.Semicolon) f us after = part G.no_length (takes after)
  length_back l _ f us after = absurd after

  -- declarations
  next_link_back : (s : Source) (x : LinkDecl) (ts us : List Lexeme) → ReadsLink x ts us → LinksGo p (with_link s x) us → LinksGo p s ts
  next_link_back s x ts us r (part {a = xs} {us = vs} q goes) =
      part (next r q) (subst (λ ys. MessagesGo p (record s { links = ys }) vs) (append_assoc s.links (x ∷ []) xs) goes)

  next_message_back : (s : Source) (x : MessageDecl) (ts us : List Lexeme) → ReadsMessage x ts us → MessagesGo p (with_message s x) us
      → MessagesGo p s ts
  next_message_back s x ts us r (part {a = xs} {us = vs} q goes) =
      part (next r q) (subst (λ ys. CellsGo p (record s { messages = ys }) vs) (append_assoc s.messages (x ∷ []) xs) goes)

  next_cell_back : (s : Source) (x : CellDecl) (ts us : List Lexeme) → ReadsCell x ts us → CellsGo p (with_cell s x) us → CellsGo p s ts
  next_cell_back s x ts us r (part {a = xs} {us = vs} q goes) =
      part (next r q) (subst (λ ys. Ends (record s { cells = ys }) p vs) (append_assoc s.cells (x ∷ []) xs) goes)

  abbrev VarsEnd : Source → CellDecl → List VarDecl → List Lexeme → Type 0
  VarsEnd s c xs us =
      Part ReadsBody (λ b vs. Takes (Marked M.CloseBrace) (λ ws. CellsGo p (with_cell s (record c { vars = xs; body = b })) ws) vs) us

  next_var_back : (s : Source) (c : CellDecl) (x : VarDecl) (ts us : List Lexeme) → ReadsVar x ts us → Sentence p (Vars s (with_var c x)) us
      → Sentence p (Vars s c) ts
  next_var_back s c x ts us r (part {a = xs} {us = vs} q goes) =
      part (next r q) (subst (λ ys. VarsEnd s c ys vs) (append_assoc c.vars (x ∷ []) xs) goes)

  no_links_back : (s : Source) (ts : List Lexeme) → MessagesGo p s ts → LinksGo p s ts
  no_links_back s ts goes = part done (subst (λ ys. MessagesGo p (record s { links = ys }) ts) (sym (append-nil s.links)) goes)

  no_messages_back : (s : Source) (ts : List Lexeme) → CellsGo p s ts → MessagesGo p s ts
  no_messages_back s ts goes = part done (subst (λ ys. CellsGo p (record s { messages = ys }) ts) (sym (append-nil s.messages)) goes)

  no_vars_back : (s : Source) (c : CellDecl) (ts : List Lexeme) → BodyGoes p (InCell s c) [] ts → Sentence p (Vars s c) ts
  no_vars_back s c ts goes = part done (subst (λ ys. VarsEnd s c ys ts) (sym (append-nil c.vars)) goes)

  cells_end_back : (s : Source) → s ≡ p → CellsGo p s []
  cells_end_back s e = part done (ends (ap (λ ys. record s { cells = ys }) (append-nil s.cells) ∙ e))

  link_back : (l : ℕ) (s : Source) (ts : List Lexeme) → Sentence p (Mach.link l s) ts → LinksGo p s (At l (Keyword K.Link) ∷ ts)
  link_back l s ts (takes_number (takes (takes_number (part r (takes (takes_number (takes goes))))))) =
      next_link_back s _ _ _ (G.link G.place r) goes

  message_back : (l : ℕ) (s : Source) (ts : List Lexeme) → Sentence p (Mach.message l s) ts → MessagesGo p s (At l (Keyword K.Message) ∷ ts)
  message_back l s ts (takes_name (takes (takes_number (takes (takes_number (takes (takes_number (takes (takes_number (part r (part o (takes goes))))))))))))
      = next_message_back s _ _ _ (G.message G.place G.place r o) goes

  cell_back : (l : ℕ) (s : Source) (ts : List Lexeme) → Sentence p (Mach.cell l s) ts → CellsGo p s (At l (Keyword K.Cell) ∷ ts)
  cell_back l s ts (takes_number (takes (takes_number (takes (part q (part r (takes goes))))))) = next_cell_back s _ _ _ (G.cell G.place q r) goes

  variable_back : (l : ℕ) (s : Source) (c : CellDecl) (ts : List Lexeme) → Sentence p (Mach.variable l s c) ts
      → Sentence p (Vars s c) (At l (Keyword K.Var) ∷ ts)
  variable_back l s c ts (takes_name (part r (takes goes))) = next_var_back s c _ _ _ (G.variable r) goes

  cells_back : (l : ℕ) (w : Word) (s : Source) (us : List Lexeme) → After p (at_cells w l s) us → CellsGo p s (At l w ∷ us)
  cells_back l (Keyword K.Cell) s us after = cell_back l s us after
  cells_back l _ s us after = absurd after

  messages_back : (l : ℕ) (w : Word) (s : Source) (us : List Lexeme) → After p (at_messages w l s) us → MessagesGo p s (At l w ∷ us)
  messages_back l (Keyword K.Message) s us after = message_back l s us after
  messages_back l w s us after = no_messages_back s _ (cells_back l w s us after)

  links_back : (l : ℕ) (w : Word) (s : Source) (us : List Lexeme) → After p (at_links w l s) us → LinksGo p s (At l w ∷ us)
  links_back l (Keyword K.Link) s us after = link_back l s us after
  links_back l w s us after = no_links_back s _ (messages_back l w s us after)

  buffer_back : (l : ℕ) (w : Word) (f : ℕ → ℕ → Source) (us : List Lexeme) → After p (at_buffer w l f) us → Sentence p (Buffer f) (At l w ∷ us)
  buffer_back l (Keyword K.Buffer) f us (takes_number (takes goes)) = part G.buffer goes
  buffer_back l w f us after = part G.no_buffer (links_back l w (f 0 0) us after)

  vars_back : (l : ℕ) (w : Word) (s : Source) (c : CellDecl) (us : List Lexeme) → After p (at_vars w l s c) us → Sentence p (Vars s c) (At l w ∷ us)
  vars_back l (Keyword K.Var) s c us after = variable_back l s c us after
  vars_back l w s c us after = no_vars_back s c _ (body_back l w [] (InCell s c) us after)

  -- One step back.
  step_back : (state : State) (l : ℕ) (w : Word) (us : List Lexeme) → After p (at state l w) us → Sentence p state (At l w ∷ us)
  step_back (Want k) l w us after = operand_back k l w us after
  step_back (WantAtom k) l w us after = atom_back k l w us after
  step_back (Called n k) l w us after = called_back n k l w us after
  step_back (Have e k) l w us after = open_back k e l w us after
  step_back (Body b around) l w us after = body_back l w b around us after
  step_back (Target line n b around) l w us after = target_back l w line n b around us after
  step_back (Expect v state) l w us after = same_back v w l us state (same_word v w) refl after
  step_back (ExpectName f) l w us after = name_back l w f us after
  step_back (ExpectNumber f) l w us after = number_back l w f us after
  step_back (ExpectKey k f) l w us after = key_back k w l us f (same_word (Keyword k) w) refl after
  step_back (ExpectDir f) l w us after = dir_back l w f us after
  step_back (Route f) l w us after = route_back l w f us after
  step_back (Dirs ds f) l w us after = dirs_back l w ds f us after
  step_back (Label f) l w us after = label_back l w f us after
  step_back (Length f) l w us after = length_back l w f us after
  step_back (Buffer f) l w us after = buffer_back l w f us after
  step_back (Links s) l w us after = links_back l w s us after
  step_back (Messages s) l w us after = messages_back l w s us after
  step_back (Cells s) l w us after = cells_back l w s us after
  step_back (Vars s c) l w us after = vars_back l w s c us after

  -- Where the words end.
  end_back : (state : State) → finish state ≡ Ok p → Sentence p state []
  end_back (Buffer f) h = part G.no_buffer (no_links_back (f 0 0) [] (no_messages_back (f 0 0) [] (cells_end_back (f 0 0) (one_ok (f 0 0) p h))))
  end_back (Links s) h = no_links_back s [] (no_messages_back s [] (cells_end_back s (one_ok s p h)))
  end_back (Messages s) h = no_messages_back s [] (cells_end_back s (one_ok s p h))
  end_back (Cells s) h = cells_end_back s (one_ok s p h)
  end_back _ h = no_ok 0 p h

  going_back : (o : Option State) (us : List Lexeme) (n : ℕ) → going o (λ state. run state us) n ≡ Ok p
      → ((state : State) → run state us ≡ Ok p → Sentence p state us) → After p o us
  going_back (Some state) us n h back = back state h
  going_back None us n h back = no_ok n p h

  sentence_back : (ts : List Lexeme) (state : State) → run state ts ≡ Ok p → Sentence p state ts
  sentence_back [] state h = end_back state h
  sentence_back (At l w ∷ ts) state h = step_back state l w ts (going_back (at state l w) ts (suc (length ts)) h (λ next q. sentence_back ts next q))

  start_back : (ts : List Lexeme) → Sentence p start ts → Reads ts p
  start_back ts (takes_key (takes_number (takes (takes_number (takes (takes_key (takes_number (takes (part b (part q (part r (part t (ends e))))))))))))) =
      subst (Reads _) e (G.program refl b q r t)

-- What the machine reads to a source is that source in the grammar.
pub backward : (ts : List Lexeme) (s : Source) → run start ts ≡ Ok s → Reads ts s
backward ts s h = start_back s ts (sentence_back s ts start h)
