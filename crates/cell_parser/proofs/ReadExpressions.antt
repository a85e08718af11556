-- The words of an expression that was read are those that were read but for some parentheses, and are of the language.
use Rattle.std.proofs.Common.{◌≡◌, ℕ, ◌≤◌, ◌++◌, true, false, Bool, List, ◌∷◌, refl, sym, subst, ap, ◌∙◌, arith}
use Rattle.std.specs.Prelude.{nat_le, if◌then◌else◌}
use Rattle.std.proofs.lemmas.Bool.Decides.{nat_tests}
use Rattle.sys_base.specs.declared.kinds.Op.{Op}
use Rattle.sys_base.specs.declared.kinds.Op.TheVariants as O
use Rattle.cell_lexer.specs.declared.token.Mark.TheVariants as M
use Rattle.cell_tree.specs.Operator.{op_mark, rank, op_level, left_of, right_of, fits}
use Rattle.cell_tree.specs.Pieces.{none, space}
use Rattle.cell_tree.specs.Printable.{names_step, names_of, numbers_step, numbers_of}
use Rattle.cell_tree.specs.declared.expression.Expr.{Expr, map-Expr, roll-Expr}
use Rattle.cell_tree.specs.declared.expression.Expr.TheFolds.{fold-roll-Expr}
use Rattle.cell_tree.specs.declared.expression.Expr.TheOpen.{Expr-F}
use Rattle.cell_tree.specs.declared.expression.Expr.TheVariants as E
use Rattle.cell_tree.specs.declared.expression.Expr.TheVariants.{rolls-Number, rolls-Named, rolls-At, rolls-Negate, rolls-Binary}
use Rattle.cell_tree.specs.declared.level.Level.{Level}
use Rattle.cell_tree.specs.declared.level.Level.TheVariants as L
use Rattle.cell_parser.specs.Grammar.{Class, Product, Additive, Comparison, class, Whole, Sum, Term, Unary, Atom, ReadsExpr, sum, comparison, term, addition, unary, product, minus, atom, number, named, element, parens}
use Rattle.cell_parser.specs.Grammar as G
use Rattle.cell_parser.specs.Lexeme.{Word, Named, Numeral, Keyword, Marked, Lexeme, At}
use Rattle.cell_parser.specs.Inner.Told.{Told, tell, Voiced, at_most, voice_step, voiced}
use Rattle.cell_parser.proofs.FewerWords.{Fewer, fewer_none, fewer_same, fewer_open, fewer_join, fewer_end, fewer_closed, Sound, names_join, numbers_join}
use Rattle.cell_parser.proofs.ToldClear.{Names, Numbers}

-- the tree's level of a level of the grammar
abbrev pub tree_level : G.Level → Level
tree_level Whole = L.Comparison
tree_level Sum = L.Sum
tree_level Term = L.Product
tree_level Unary = L.Unary
tree_level Atom = L.Atom

-- What is voiced, alone and as an operand of the level, is what the lexemes say but for some parentheses, and its names and
-- numbers are those of the lexemes.
pub record Voicing (v : Voiced) (names : List (List ℕ)) (numbers : List ℕ) (level : Level) (ts us : List Lexeme) : Type 0 where
  pub bare : (gap : List ℕ) → Fewer (v.words gap) ts us
  pub operand : (gap : List ℕ) → Fewer (at_most level v gap) ts us
  pub fine : Sound ts → Names names × Numbers numbers × Sound us

-- The words of an expression at a level are those that were read but for some parentheses.
abbrev pub HeardAs : Expr → Level → List Lexeme → List Lexeme → Type 0
HeardAs e level ts us = Voicing (voiced e) (names_of e) (numbers_of e) level ts us

close : {level : Level} {ts us : List Lexeme} (x : Expr-F Expr) (e : Expr) → roll-Expr x ≡ e
    → Voicing (voice_step (map-Expr Expr Voiced voiced x)) (names_step (map-Expr Expr (List (List ℕ)) names_of x))
    (numbers_step (map-Expr Expr (List ℕ) numbers_of x)) level ts us
    → HeardAs e level ts us
close {level} {ts} {us} x e r h =
    let ns : List (List ℕ) = names_step (map-Expr Expr (List (List ℕ)) names_of x) in
    let ks : List ℕ = numbers_step (map-Expr Expr (List ℕ) numbers_of x) in
    subst (λ (e : Expr). HeardAs e level ts us) r
    (subst (λ (l : List ℕ). Voicing (voiced (roll-Expr x)) (names_of (roll-Expr x)) l level ts us)
    (sym (fold-roll-Expr (List ℕ) numbers_step x))
    (subst (λ (l : List (List ℕ)). Voicing (voiced (roll-Expr x)) l ks level ts us) (sym (fold-roll-Expr (List (List ℕ)) names_step x))
    (subst (λ (v : Voiced). Voicing v ns ks level ts us) (sym (fold-roll-Expr Voiced voice_step x)) h)))

tighter : (a b c : ℕ) → a ≤ b → nat_le a c ≡ false → nat_le b c ≡ false
tighter a b c le h = grind (arith, nat_tests)

looser : (e : Expr) {ts us : List Lexeme} (tight loose : Level) → rank loose ≤ rank tight → HeardAs e tight ts us → HeardAs e loose ts us
looser e {ts} {us} tight loose le h =
    let v : Voiced = voiced e in record {
      bare = h.bare;
      operand = λ gap.
          let Choice : Bool → Type 0 = λ b.
          Fewer (if b then v.words gap else (tell gap (Marked M.OpenParen) ++ v.words none ++ tell none (Marked M.CloseParen))) ts us in
          elim (fits v.level loose) as (λ b. fits v.level loose ≡ b → Choice b) [
            | true ↦ λ is. h.bare gap
            | false ↦ λ is. subst Choice (tighter (rank loose) (rank tight) (rank v.level) le is) (h.operand gap)
          ] refl;
      fine = h.fine;
    }

in_parens : (e : Expr) {l j : ℕ} {ts us : List Lexeme} → HeardAs e L.Comparison ts (At j (Marked M.CloseParen) ∷ us)
    → HeardAs e L.Atom (At l (Marked M.OpenParen) ∷ ts) us
in_parens e {l} {ts = ts} {us = us} h =
    let v : Voiced = voiced e in record {
      bare = λ gap. fewer_open (fewer_closed (h.bare gap));
      operand = λ gap.
          let Choice : Bool → Type 0 = λ b.
          Fewer (if b then v.words gap else (tell gap (Marked M.OpenParen) ++ v.words none ++ tell none (Marked M.CloseParen)))
          (At l (Marked M.OpenParen) ∷ ts) us in
          elim (fits v.level L.Atom) as (λ b. Choice b) [
            | true ↦ fewer_open (fewer_closed (h.bare gap))
            | false ↦ fewer_same (fewer_end none (h.bare none))
          ];
      fine = λ s. let (a, b, c) = h.fine s.1 in (a, b, c.1);
    }

fits_itself : (level : Level) → fits level level ≡ true
fits_itself L.Comparison = refl
fits_itself L.Sum = refl
fits_itself L.Product = refl
fits_itself L.Unary = refl
fits_itself L.Atom = refl

-- The word is the operator's mark, and the operator is of the level.
record IsMark (w : Word) (op : Op) (level : Level) : Type 0 where
  word : w ≡ Marked (op_mark op)
  at : op_level op ≡ level

the_mark : (op o : Op) (level : Level) → o ≡ op → op_level o ≡ level → IsMark (Marked (op_mark o)) op level
the_mark op o level e is = record { word = ap (λ (x : Op). Marked (op_mark x)) e; at = ap op_level (sym e) ∙ is }

compared : (w : Word) (op : Op) → class w ≡ Comparison op → IsMark w op L.Comparison
compared (Marked M.Less) op h = the_mark op O.Less L.Comparison (cc) refl
compared (Marked M.AtMost) op h = the_mark op O.AtMost L.Comparison (cc) refl
compared (Marked M.Same) op h = the_mark op O.Same L.Comparison (cc) refl
compared (Marked M.Differ) op h = the_mark op O.Differ L.Comparison (cc) refl
compared (Marked m) op h = absurd cc
compared (Named n) op h = absurd cc
compared (Numeral n) op h = absurd cc
compared (Keyword key) op h = absurd cc

added : (w : Word) (op : Op) → class w ≡ Additive op → IsMark w op L.Sum
added (Marked M.Plus) op h = the_mark op O.Add L.Sum (cc) refl
added (Marked M.Minus) op h = the_mark op O.Sub L.Sum (cc) refl
added (Marked m) op h = absurd cc
added (Named n) op h = absurd cc
added (Numeral n) op h = absurd cc
added (Keyword key) op h = absurd cc

multiplied : (w : Word) (op : Op) → class w ≡ Product op → IsMark w op L.Product
multiplied (Marked M.Star) op h = the_mark op O.Mul L.Product (cc) refl
multiplied (Marked M.Slash) op h = the_mark op O.Div L.Product (cc) refl
multiplied (Marked M.Percent) op h = the_mark op O.Rem L.Product (cc) refl
multiplied (Marked m) op h = absurd cc
multiplied (Named n) op h = absurd cc
multiplied (Numeral n) op h = absurd cc
multiplied (Keyword key) op h = absurd cc

both_heard : (e f : Expr) {l : ℕ} {ts us vs : List Lexeme} (op : Op)
    → HeardAs e (left_of (op_level op)) ts (At l (Marked (op_mark op)) ∷ us) → HeardAs f (right_of (op_level op)) us vs
    → HeardAs (E.Binary op e f) (op_level op) ts vs
both_heard e f {ts = ts} {vs = vs} op p q =
    let left : List ℕ → List Told = λ gap. at_most (left_of (op_level op)) (voiced e) gap in
    let right : List Told = at_most (right_of (op_level op)) (voiced f) space in
    let words : List ℕ → List Told = λ gap. left gap ++ tell space (Marked (op_mark op)) ++ right in
    let bare : (gap : List ℕ) → Fewer (words gap) ts vs = λ gap. fewer_join (fewer_end space (p.operand gap)) (q.operand space) in
    close (Expr-F.Binary op e f) (E.Binary op e f) (rolls-Binary op e f) (record {
      bare = bare;
      operand = λ gap.
          let Choice : Bool → Type 0 = λ b.
          Fewer (if b then words gap else (tell gap (Marked M.OpenParen) ++ words none ++ tell none (Marked M.CloseParen))) ts vs in
          subst Choice (sym (fits_itself (op_level op))) (bare gap);
      fine = λ s.
          let (a, b, c) = p.fine s in
          let (x, y, z) = q.fine c.1 in
          (names_join (names_of e) (names_of f) a x, numbers_join (numbers_of e) (numbers_of f) b y, z);
    })

operation : (e f : Expr) {l : ℕ} {w : Word} {ts us vs : List Lexeme} (op : Op) (level : Level) → IsMark w op level
    → HeardAs e (left_of level) ts (At l w ∷ us) → HeardAs f (right_of level) us vs → HeardAs (E.Binary op e f) level ts vs
operation e f {l} {w} {ts} {us} {vs} op level is p q =
    subst (λ (a : Level). HeardAs (E.Binary op e f) a ts vs) is.at
    (both_heard e f op
    (subst (λ (a : Level). HeardAs e (left_of a) ts (At l (Marked (op_mark op)) ∷ us)) (sym is.at)
    (subst (λ (v : Word). HeardAs e (left_of level) ts (At l v ∷ us)) is.word p))
    (subst (λ (a : Level). HeardAs f (right_of a) us vs) (sym is.at) q))

-- the words of an expression that was read are those that were read but for some parentheses
pub expression_read : {level : G.Level} {e : Expr} {ts us : List Lexeme} → ReadsExpr level e ts us → HeardAs e (tree_level level) ts us
expression_read (sum {e = e} r) = looser e L.Sum L.Comparison (omega arith) (expression_read r)
expression_read (comparison {w = w} {op = op} {e = e} {f = f} p is q) =
    operation e f op L.Comparison (compared w op is) (expression_read p) (expression_read q)
expression_read (term {e = e} r) = looser e L.Product L.Sum (omega arith) (expression_read r)
expression_read (addition {w = w} {op = op} {e = e} {f = f} p is q) =
    operation e f op L.Sum (added w op is) (expression_read p) (expression_read q)
expression_read (unary {e = e} r) = looser e L.Unary L.Product (omega arith) (expression_read r)
expression_read (product {w = w} {op = op} {e = e} {f = f} p is q) =
    operation e f op L.Product (multiplied w op is) (expression_read p) (expression_read q)
expression_read (minus {e = e} r) =
    let h = expression_read r in close (Expr-F.Negate e) (E.Negate e) (rolls-Negate e) (record {
      bare = λ gap. fewer_same (h.operand none);
      operand = λ gap. fewer_same (h.operand none);
      fine = λ s. h.fine s.1;
    })
expression_read (atom {e = e} r) = looser e L.Atom L.Unary (omega arith) (expression_read r)
expression_read (number {n = n}) = close (Expr-F.Number n) (E.Number n) (rolls-Number n) (record {
  bare = λ gap. fewer_same fewer_none;
  operand = λ gap. fewer_same fewer_none;
  fine = λ s. (tt, (s.0, tt), s.1);
})
expression_read (named {n = n}) = close (Expr-F.Named n) (E.Named n) (rolls-Named n) (record {
  bare = λ gap. fewer_same fewer_none;
  operand = λ gap. fewer_same fewer_none;
  fine = λ s. ((s.0, tt), tt, s.1);
})
expression_read (element {n = n} {e = e} r) =
    let h = expression_read r in close (Expr-F.At n e) (E.At n e) (rolls-At n e) (record {
      bare = λ gap. fewer_same (fewer_same (fewer_end none (h.bare none)));
      operand = λ gap. fewer_same (fewer_same (fewer_end none (h.bare none)));
      fine = λ s. let (a, b, c) = h.fine s.1.1 in ((s.0, a), b, c.1);
    })
expression_read (parens {e = e} r) = in_parens e (expression_read r)
