-- Single steps of the machine, at what the parser's tests of the next word find.
use Rattle.std.proofs.Common.{◌≡◌, ℕ, suc, ◌+◌, arith, false, List, [], ◌∷◌, length, Option, Some, None, Err, refl, sym, ap, ◌∙◌, IfNone}
use Rattle.std.proofs.lemmas.Bool.{false_from_ne_true}
use Rattle.sys_base.specs.declared.key.Key.{Key}
use Rattle.sys_base.specs.declared.key.Key.TheVariants as K
use Rattle.sys_base.specs.declared.kinds.Dir.{Dir}
use Rattle.sys_base.specs.declared.kinds.Op.{Op}
use Rattle.cell_lexer.specs.declared.token.Mark.{Mark}
use Rattle.cell_lexer.specs.declared.token.Mark.TheVariants as M
use Rattle.cell_lexer.specs.declared.token.Token.{Token}
use Rattle.cell_tree.specs.declared.expression.Expr.{Expr}
use Rattle.cell_tree.specs.declared.expression.Expr.TheVariants as E
use Rattle.cell_tree.specs.declared.statement.Stmt.{Stmt}
use Rattle.cell_parser.specs.Grammar.{Class, Product, Additive, Comparison, Bracket, Other, class}
use Rattle.cell_parser.specs.Lexeme.{Word, Named, Numeral, Keyword, Marked, Lexeme, At, lexemes}
use Rattle.cell_parser.specs.Inner.Machine.{Around, Body, Target, at_body, Closer, closing, State, Open, Want, WantAtom, Called, Have, Terms, Sums, Compares, Negates, Operand, Then, Expect, ExpectName, ExpectNumber, ExpectKey, ExpectDir, same_word, dir_of, run, going, if_same, at_dir, at_terms, at_sums, at_compares, at_called, at_open, at_operand, at_atom}
use Rattle.cell_parser.specs.Inner.Reading.{Lacks, IsStuck, Misses}
use Rattle.cell_parser.specs.declared.fault.Fault.{Fault}
use Rattle.cell_parser.specs.declared.fault.Fault.TheVariants as F
use Rattle.cell_parser.proofs.Words.{same_words}

pub length_lexemes : (text : List ℕ) (ts : List Token) → length (lexemes text ts) ≡ length ts
length_lexemes text [] = refl
length_lexemes text (t ∷ ts) = ap suc (length_lexemes text ts)

-- A fault tells how many tokens are left.
one_left : (m n : ℕ) → F.Unexpected m ≡ F.Unexpected n → m ≡ n
one_left m n e = cc

-- The machine stops at these tokens, and that many are left as the fault says.
pub stops : (text : List ℕ) (ts : List Token) (state : State) → run state (lexemes text ts) ≡ Err (length (lexemes text ts)) → (e : Fault) → e ≡ F.Unexpected (length ts) → (left : ℕ) → e ≡ F.Unexpected left → run state (lexemes text ts) ≡ Err left
stops text ts state stop e is left at = stop ∙ ap Err (length_lexemes text ts ∙ one_left (length ts) left (sym is ∙ at))

-- No such word comes first.
abbrev pub Without : Word → List Lexeme → Type 0
Without w xs = (l : ℕ) (us : List Lexeme) → xs ≡ At l w ∷ us → ⊥

other_word : (w v : Word) (l : ℕ) (xs : List Lexeme) → Without w (At l v ∷ xs) → same_word w v ≡ false
other_word w v l xs h = false_from_ne_true (same_word w v) (λ t. h l xs (ap (λ u. At l u ∷ xs) (sym (same_words w v t))))

expect_lacks : (w : Word) (k : State) (xs : List Lexeme) → Without w xs → run (Expect w k) xs ≡ Err (length xs)
expect_lacks w k [] h = refl
expect_lacks w k (At l v ∷ xs) h = ap (λ b. going (if_same b k) (λ next. run next xs) (suc (length xs))) (other_word w v l xs h)

key_lacks : (key : Key) (k : ℕ → State) (xs : List Lexeme) → Without (Keyword key) xs → run (ExpectKey key k) xs ≡ Err (length xs)
key_lacks key k [] h = refl
key_lacks key k (At l v ∷ xs) h = ap (λ b. going (if_same b (k l)) (λ next. run next xs) (suc (length xs))) (other_word (Keyword key) v l xs h)

name_lacks : (k : List ℕ → State) (xs : List Lexeme) → ((n : List ℕ) → Without (Named n) xs) → run (ExpectName k) xs ≡ Err (length xs)
name_lacks k [] h = refl
name_lacks k (At l (Named n) ∷ xs) h = absurd (h n l xs refl)
name_lacks k (At l (Numeral n) ∷ xs) h = refl
name_lacks k (At l (Keyword n) ∷ xs) h = refl
name_lacks k (At l (Marked n) ∷ xs) h = refl

number_lacks : (k : ℕ → State) (xs : List Lexeme) → ((n : ℕ) → Without (Numeral n) xs) → run (ExpectNumber k) xs ≡ Err (length xs)
number_lacks k [] h = refl
number_lacks k (At l (Numeral n) ∷ xs) h = absurd (h n l xs refl)
number_lacks k (At l (Named n) ∷ xs) h = refl
number_lacks k (At l (Keyword n) ∷ xs) h = refl
number_lacks k (At l (Marked n) ∷ xs) h = refl

dir_lacks : (k : Dir → State) (xs : List Lexeme) → ((n : List ℕ) → Without (Named n) xs) → run (ExpectDir k) xs ≡ Err (length xs)
dir_lacks k [] h = refl
dir_lacks k (At l (Named n) ∷ xs) h = absurd (h n l xs refl)
dir_lacks k (At l (Numeral n) ∷ xs) h = refl
dir_lacks k (At l (Keyword n) ∷ xs) h = refl
dir_lacks k (At l (Marked n) ∷ xs) h = refl

no_dir : (k : Dir → State) (n : List ℕ) (l : ℕ) (xs us : List Lexeme) → xs ≡ At l (Named n) ∷ us → dir_of n ≡ None → run (ExpectDir k) xs ≡ Err (length xs)
no_dir k n l xs us e none = rw e (ap (λ o. going (at_dir o k) (λ next. run next us) (suc (length us))) none)

pub misses : (text : List ℕ) (w : Word) (ts : List Token) → Lacks text w ts → (e : Fault) → e ≡ F.Unexpected (length ts) → Misses text w ts e
misses text w ts h e is = λ left at k. stops text ts (Expect w k) (expect_lacks w k (lexemes text ts) h) e is left at

pub misses_key : (text : List ℕ) (key : Key) (ts : List Token) → Lacks text (Keyword key) ts → (e : Fault) → e ≡ F.Unexpected (length ts) → IsStuck text (λ k. ExpectKey key k) ts e
misses_key text key ts h e is = λ left at k. stops text ts (ExpectKey key k) (key_lacks key k (lexemes text ts) h) e is left at

pub misses_name : (text : List ℕ) (ts : List Token) → ((n : List ℕ) → Lacks text (Named n) ts) → (e : Fault) → e ≡ F.Unexpected (length ts) → IsStuck text ExpectName ts e
misses_name text ts h e is = λ left at k. stops text ts (ExpectName k) (name_lacks k (lexemes text ts) h) e is left at

pub misses_number : (text : List ℕ) (ts : List Token) → ((n : ℕ) → Lacks text (Numeral n) ts) → (e : Fault) → e ≡ F.Unexpected (length ts) → IsStuck text ExpectNumber ts e
misses_number text ts h e is = λ left at k. stops text ts (ExpectNumber k) (number_lacks k (lexemes text ts) h) e is left at

pub misses_dir : (text : List ℕ) (ts : List Token) → ((n : List ℕ) → Lacks text (Named n) ts) → (e : Fault) → e ≡ F.Unexpected (length ts) → IsStuck text ExpectDir ts e
misses_dir text ts h e is = λ left at k. stops text ts (ExpectDir k) (dir_lacks k (lexemes text ts) h) e is left at

pub spells_no_dir : (text n : List ℕ) (l : ℕ) (ts : List Token) (us : List Lexeme) → lexemes text ts ≡ At l (Named n) ∷ us → dir_of n ≡ None → (e : Fault) → e ≡ F.Unexpected (length ts) → IsStuck text ExpectDir ts e
spells_no_dir text n l ts us begins none e is = λ left at k. stops text ts (ExpectDir k) (no_dir k n l (lexemes text ts) us begins none) e is left at

-- A word of another class goes over the level of terms.
terms_other : (c : Class) (e : Expr) (k : Open) (other : Option State) → ((op : Op) → c ≡ Product op → ⊥) → at_terms c e k other ≡ other
terms_other (Product op) e k other h = absurd (h op refl)
terms_other (Additive op) e k other h = refl
terms_other (Comparison op) e k other h = refl
terms_other Bracket e k other h = refl
terms_other Other e k other h = refl

pub terms_pass : (e : Expr) (k : Open) (xs : List Lexeme) → ((l : ℕ) (w : Word) (us : List Lexeme) (op : Op) → xs ≡ At l w ∷ us → class w ≡ Product op → ⊥) → run (Have e (Terms k)) xs ≡ run (Have e k) xs
terms_pass e k [] h = refl
terms_pass e k (At l w ∷ us) h = ap (λ o. going o (λ next. run next us) (suc (length us))) (terms_other (class w) e k (at_open e k w) (λ op. h l w us op refl))

-- A word of another class goes over the level of sums.
sums_other : (c : Class) (e : Expr) (k : Open) (other : Option State) → ((op : Op) → c ≡ Additive op → ⊥) → at_sums c e k other ≡ other
sums_other (Additive op) e k other h = absurd (h op refl)
sums_other (Product op) e k other h = refl
sums_other (Comparison op) e k other h = refl
sums_other Bracket e k other h = refl
sums_other Other e k other h = refl

pub sums_pass : (e : Expr) (k : Open) (xs : List Lexeme) → ((l : ℕ) (w : Word) (us : List Lexeme) (op : Op) → xs ≡ At l w ∷ us → class w ≡ Additive op → ⊥) → run (Have e (Sums k)) xs ≡ run (Have e k) xs
sums_pass e k [] h = refl
sums_pass e k (At l w ∷ us) h = ap (λ o. going o (λ next. run next us) (suc (length us))) (sums_other (class w) e k (at_open e k w) (λ op. h l w us op refl))

-- A word of another class goes over the level of comparisons.
compares_other : (c : Class) (e : Expr) (k : Open) (other : Option State) → ((op : Op) → c ≡ Comparison op → ⊥) → at_compares c e k other ≡ other
compares_other (Comparison op) e k other h = absurd (h op refl)
compares_other (Product op) e k other h = refl
compares_other (Additive op) e k other h = refl
compares_other Bracket e k other h = refl
compares_other Other e k other h = refl

pub compares_pass : (e : Expr) (k : Open) (xs : List Lexeme) → ((l : ℕ) (w : Word) (us : List Lexeme) (op : Op) → xs ≡ At l w ∷ us → class w ≡ Comparison op → ⊥) → run (Have e (Compares k)) xs ≡ run (Have e k) xs
compares_pass e k [] h = refl
compares_pass e k (At l w ∷ us) h = ap (λ o. going o (λ next. run next us) (suc (length us))) (compares_other (class w) e k (at_open e k w) (λ op. h l w us op refl))

-- A word that is no minus begins an operand as it does without a minus.
operand_other : (w : Word) (k : Open) → (w ≡ Marked M.Minus → ⊥) → at_operand w k ≡ at_atom w k
operand_other (Named n) k h = refl
operand_other (Numeral n) k h = refl
operand_other (Keyword n) k h = refl
operand_other (Marked M.OpenBrace) k h = refl
operand_other (Marked M.CloseBrace) k h = refl
operand_other (Marked M.OpenBracket) k h = refl
operand_other (Marked M.CloseBracket) k h = refl
operand_other (Marked M.OpenParen) k h = refl
operand_other (Marked M.CloseParen) k h = refl
operand_other (Marked M.Semicolon) k h = refl
operand_other (Marked M.Dot) k h = refl
operand_other (Marked M.Assign) k h = refl
operand_other (Marked M.Same) k h = refl
operand_other (Marked M.Differ) k h = refl
operand_other (Marked M.Less) k h = refl
operand_other (Marked M.AtMost) k h = refl
operand_other (Marked M.Plus) k h = refl
operand_other (Marked M.Minus) k h = absurd (h refl)
operand_other (Marked M.Star) k h = refl
operand_other (Marked M.Slash) k h = refl
operand_other (Marked M.Percent) k h = refl

pub no_minus : (k : Open) (xs : List Lexeme) → Without (Marked M.Minus) xs → run (Want k) xs ≡ run (WantAtom k) xs
no_minus k [] h = refl
no_minus k (At l w ∷ us) h = ap (λ o. going o (λ next. run next us) (suc (length us))) (operand_other w k (λ e. h l us (ap (λ v. At l v ∷ us) e)))

-- A word that opens no index leaves a name as it is.
called_other : (w : Word) (n : List ℕ) (k : Open) (other : Option State) → (w ≡ Marked M.OpenBracket → ⊥) → at_called (class w) n k other ≡ other
called_other (Named m) n k other h = refl
called_other (Numeral m) n k other h = refl
called_other (Keyword m) n k other h = refl
called_other (Marked M.OpenBrace) n k other h = refl
called_other (Marked M.CloseBrace) n k other h = refl
called_other (Marked M.OpenBracket) n k other h = absurd (h refl)
called_other (Marked M.CloseBracket) n k other h = refl
called_other (Marked M.OpenParen) n k other h = refl
called_other (Marked M.CloseParen) n k other h = refl
called_other (Marked M.Semicolon) n k other h = refl
called_other (Marked M.Dot) n k other h = refl
called_other (Marked M.Assign) n k other h = refl
called_other (Marked M.Same) n k other h = refl
called_other (Marked M.Differ) n k other h = refl
called_other (Marked M.Less) n k other h = refl
called_other (Marked M.AtMost) n k other h = refl
called_other (Marked M.Plus) n k other h = refl
called_other (Marked M.Minus) n k other h = refl
called_other (Marked M.Star) n k other h = refl
called_other (Marked M.Slash) n k other h = refl
called_other (Marked M.Percent) n k other h = refl

pub no_index : (n : List ℕ) (k : Open) (xs : List Lexeme) → Without (Marked M.OpenBracket) xs → run (Called n k) xs ≡ run (Have (E.Named n) k) xs
no_index n k [] h = refl
no_index n k (At l w ∷ us) h = ap (λ o. going o (λ next. run next us) (suc (length us))) (called_other w n k (at_open (E.Named n) k w) (λ e. h l us (ap (λ v. At l v ∷ us) e)))

-- No operand begins with these words.
pub atom_lacks : (k : Open) (xs : List Lexeme) → ((n : ℕ) → Without (Numeral n) xs) → ((n : List ℕ) → Without (Named n) xs) → Without (Marked M.OpenParen) xs → run (WantAtom k) xs ≡ Err (length xs)
atom_lacks k [] number name paren = refl
atom_lacks k (At l (Numeral n) ∷ us) number name paren = absurd (number n l us refl)
atom_lacks k (At l (Named n) ∷ us) number name paren = absurd (name n l us refl)
atom_lacks k (At l (Keyword n) ∷ us) number name paren = refl
atom_lacks k (At l (Marked M.OpenBrace) ∷ us) number name paren = refl
atom_lacks k (At l (Marked M.CloseBrace) ∷ us) number name paren = refl
atom_lacks k (At l (Marked M.OpenBracket) ∷ us) number name paren = refl
atom_lacks k (At l (Marked M.CloseBracket) ∷ us) number name paren = refl
atom_lacks k (At l (Marked M.OpenParen) ∷ us) number name paren = absurd (paren l us refl)
atom_lacks k (At l (Marked M.CloseParen) ∷ us) number name paren = refl
atom_lacks k (At l (Marked M.Semicolon) ∷ us) number name paren = refl
atom_lacks k (At l (Marked M.Dot) ∷ us) number name paren = refl
atom_lacks k (At l (Marked M.Assign) ∷ us) number name paren = refl
atom_lacks k (At l (Marked M.Same) ∷ us) number name paren = refl
atom_lacks k (At l (Marked M.Differ) ∷ us) number name paren = refl
atom_lacks k (At l (Marked M.Less) ∷ us) number name paren = refl
atom_lacks k (At l (Marked M.AtMost) ∷ us) number name paren = refl
atom_lacks k (At l (Marked M.Plus) ∷ us) number name paren = refl
atom_lacks k (At l (Marked M.Minus) ∷ us) number name paren = refl
atom_lacks k (At l (Marked M.Star) ∷ us) number name paren = refl
atom_lacks k (At l (Marked M.Slash) ∷ us) number name paren = refl
atom_lacks k (At l (Marked M.Percent) ∷ us) number name paren = refl

-- A fact that holds in any case holds where there is no value.
pub if_none : {A : Type 0} (o : Option A) (P : Type 0) → P → IfNone o P
if_none None P p = p
if_none (Some x) P p = tt

pub if_none_map : {A : Type 0} (o : Option A) (P Q : Type 0) → (P → Q) → IfNone o P → IfNone o Q
if_none_map None P Q f p = f p
if_none_map (Some x) P Q f p = tt

-- Where no mark comes first, the first word does nothing after an operand.
no_mark : (xs : List Lexeme) → ((m : Mark) → Without (Marked m) xs) → (l : ℕ) (w : Word) (us : List Lexeme) → xs ≡ At l w ∷ us → class w ≡ Other
no_mark xs h l (Named n) us e = refl
no_mark xs h l (Numeral n) us e = refl
no_mark xs h l (Keyword n) us e = refl
no_mark xs h l (Marked m) us e = absurd (h m l us e)

pub terms_end : (e : Expr) (k : Open) (xs : List Lexeme) → ((m : Mark) → Without (Marked m) xs) → run (Have e (Terms k)) xs ≡ run (Have e k) xs
terms_end e k xs h = terms_pass e k xs (λ l w us op at is. let other : Other ≡ Product op = sym (no_mark xs h l w us at) ∙ is in absurd (cc))

pub sums_end : (e : Expr) (k : Open) (xs : List Lexeme) → ((m : Mark) → Without (Marked m) xs) → run (Have e (Sums k)) xs ≡ run (Have e k) xs
sums_end e k xs h = sums_pass e k xs (λ l w us op at is. let other : Other ≡ Additive op = sym (no_mark xs h l w us at) ∙ is in absurd (cc))

pub compares_end : (e : Expr) (k : Open) (xs : List Lexeme) → ((m : Mark) → Without (Marked m) xs) → run (Have e (Compares k)) xs ≡ run (Have e k) xs
compares_end e k xs h = compares_pass e k xs (λ l w us op at is. let other : Other ≡ Comparison op = sym (no_mark xs h l w us at) ∙ is in absurd (cc))

-- An operand that goes into a larger one, or to a mark after the whole expression.
pub have_operand : (op : Op) (e f : Expr) (k : Open) (xs : List Lexeme) → run (Have f (Operand op e k)) xs ≡ run (Have (E.Binary op e f) k) xs
have_operand op e f k [] = refl
have_operand op e f k (At l w ∷ xs) = refl

pub have_negates : (e : Expr) (k : Open) (xs : List Lexeme) → run (Have e (Negates k)) xs ≡ run (Have (E.Negate e) k) xs
have_negates e k [] = refl
have_negates e k (At l w ∷ xs) = refl

pub have_then : (e : Expr) (c : Closer) (f : Expr → State) (xs : List Lexeme) → run (Have e (Then c f)) xs ≡ run (Expect (Marked (closing c)) (f e)) xs
have_then e c f [] = refl
have_then e c f (At l w ∷ xs) = refl

-- A keyword that begins no statement can't stand where one may.
no_statement_key : (key : Key) (l : ℕ) (b : List Stmt) (around : Around) → (key ≡ K.Write → ⊥) → (key ≡ K.Read → ⊥) → (key ≡ K.Take → ⊥) → (key ≡ K.Emit → ⊥) → (key ≡ K.For → ⊥) → (key ≡ K.If → ⊥) → at_body (Keyword key) l b around ≡ None
no_statement_key K.Array l b around write read take emit loop choice = refl
no_statement_key K.Queues l b around write read take emit loop choice = refl
no_statement_key K.Link l b around write read take emit loop choice = refl
no_statement_key K.Message l b around write read take emit loop choice = refl
no_statement_key K.From l b around write read take emit loop choice = refl
no_statement_key K.To l b around write read take emit loop choice = refl
no_statement_key K.Route l b around write read take emit loop choice = refl
no_statement_key K.Label l b around write read take emit loop choice = refl
no_statement_key K.Cell l b around write read take emit loop choice = refl
no_statement_key K.Var l b around write read take emit loop choice = refl
no_statement_key K.Write l b around write read take emit loop choice = absurd (write refl)
no_statement_key K.Read l b around write read take emit loop choice = absurd (read refl)
no_statement_key K.Take l b around write read take emit loop choice = absurd (take refl)
no_statement_key K.Emit l b around write read take emit loop choice = absurd (emit refl)
no_statement_key K.For l b around write read take emit loop choice = absurd (loop refl)
no_statement_key K.If l b around write read take emit loop choice = absurd (choice refl)
no_statement_key K.Else l b around write read take emit loop choice = refl
no_statement_key K.Buffer l b around write read take emit loop choice = refl

pub key_stops : (key : Key) (l : ℕ) (b : List Stmt) (around : Around) (xs : List Lexeme) → (key ≡ K.Write → ⊥) → (key ≡ K.Read → ⊥) → (key ≡ K.Take → ⊥) → (key ≡ K.Emit → ⊥) → (key ≡ K.For → ⊥) → (key ≡ K.If → ⊥) → run (Body b around) (At l (Keyword key) ∷ xs) ≡ Err (suc (length xs))
key_stops key l b around xs write read take emit loop choice =
    ap (λ o. going o (λ next. run next xs) (suc (length xs))) (no_statement_key key l b around write read take emit loop choice)

-- Neither a statement nor the end of a block begins with these words.
pub body_lacks : (b : List Stmt) (around : Around) (xs : List Lexeme) → ((n : List ℕ) → Without (Named n) xs) → ((key : Key) → Without (Keyword key) xs) → Without (Marked M.CloseBrace) xs → run (Body b around) xs ≡ Err (length xs)
body_lacks b around [] name key brace = refl
body_lacks b around (At l (Named n) ∷ us) name key brace = absurd (name n l us refl)
body_lacks b around (At l (Keyword n) ∷ us) name key brace = absurd (key n l us refl)
body_lacks b around (At l (Numeral n) ∷ us) name key brace = refl
body_lacks b around (At l (Marked M.OpenBrace) ∷ us) name key brace = refl
body_lacks b around (At l (Marked M.CloseBrace) ∷ us) name key brace = absurd (brace l us refl)
body_lacks b around (At l (Marked M.OpenBracket) ∷ us) name key brace = refl
body_lacks b around (At l (Marked M.CloseBracket) ∷ us) name key brace = refl
body_lacks b around (At l (Marked M.OpenParen) ∷ us) name key brace = refl
body_lacks b around (At l (Marked M.CloseParen) ∷ us) name key brace = refl
body_lacks b around (At l (Marked M.Semicolon) ∷ us) name key brace = refl
body_lacks b around (At l (Marked M.Dot) ∷ us) name key brace = refl
body_lacks b around (At l (Marked M.Assign) ∷ us) name key brace = refl
body_lacks b around (At l (Marked M.Same) ∷ us) name key brace = refl
body_lacks b around (At l (Marked M.Differ) ∷ us) name key brace = refl
body_lacks b around (At l (Marked M.Less) ∷ us) name key brace = refl
body_lacks b around (At l (Marked M.AtMost) ∷ us) name key brace = refl
body_lacks b around (At l (Marked M.Plus) ∷ us) name key brace = refl
body_lacks b around (At l (Marked M.Minus) ∷ us) name key brace = refl
body_lacks b around (At l (Marked M.Star) ∷ us) name key brace = refl
body_lacks b around (At l (Marked M.Slash) ∷ us) name key brace = refl
body_lacks b around (At l (Marked M.Percent) ∷ us) name key brace = refl

-- No assignment goes on with these words after the name of its target.
pub target_lacks : (line : ℕ) (n : List ℕ) (b : List Stmt) (around : Around) (xs : List Lexeme) → Without (Marked M.Assign) xs → Without (Marked M.OpenBracket) xs → run (Target line n b around) xs ≡ Err (length xs)
target_lacks line n b around [] assign bracket = refl
target_lacks line n b around (At l (Named m) ∷ us) assign bracket = refl
target_lacks line n b around (At l (Keyword m) ∷ us) assign bracket = refl
target_lacks line n b around (At l (Numeral m) ∷ us) assign bracket = refl
target_lacks line n b around (At l (Marked M.OpenBrace) ∷ us) assign bracket = refl
target_lacks line n b around (At l (Marked M.CloseBrace) ∷ us) assign bracket = refl
target_lacks line n b around (At l (Marked M.OpenBracket) ∷ us) assign bracket = absurd (bracket l us refl)
target_lacks line n b around (At l (Marked M.CloseBracket) ∷ us) assign bracket = refl
target_lacks line n b around (At l (Marked M.OpenParen) ∷ us) assign bracket = refl
target_lacks line n b around (At l (Marked M.CloseParen) ∷ us) assign bracket = refl
target_lacks line n b around (At l (Marked M.Semicolon) ∷ us) assign bracket = refl
target_lacks line n b around (At l (Marked M.Dot) ∷ us) assign bracket = refl
target_lacks line n b around (At l (Marked M.Assign) ∷ us) assign bracket = absurd (assign l us refl)
target_lacks line n b around (At l (Marked M.Same) ∷ us) assign bracket = refl
target_lacks line n b around (At l (Marked M.Differ) ∷ us) assign bracket = refl
target_lacks line n b around (At l (Marked M.Less) ∷ us) assign bracket = refl
target_lacks line n b around (At l (Marked M.AtMost) ∷ us) assign bracket = refl
target_lacks line n b around (At l (Marked M.Plus) ∷ us) assign bracket = refl
target_lacks line n b around (At l (Marked M.Minus) ∷ us) assign bracket = refl
target_lacks line n b around (At l (Marked M.Star) ∷ us) assign bracket = refl
target_lacks line n b around (At l (Marked M.Slash) ∷ us) assign bracket = refl
target_lacks line n b around (At l (Marked M.Percent) ∷ us) assign bracket = refl

-- One token before these is left.
pub one_before : (text : List ℕ) (ts : List Token) (left : ℕ) → F.Unexpected (length ts + 1) ≡ F.Unexpected left → suc (length (lexemes text ts)) ≡ left
one_before text ts left e =
    let a : length ts + 1 ≡ left = one_left (length ts + 1) left e in
    let b = length_lexemes text ts in
    omega (arith, a, b)
