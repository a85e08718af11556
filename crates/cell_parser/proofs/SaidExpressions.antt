-- The words of an expression read to it.
use Rattle.std.proofs.Common.{◌≡◌, ℕ, true, false, List, ◌∷◌, ◌++◌, refl, sym, subst}
use Rattle.std.specs.Prelude.{if◌then◌else◌}
use Rattle.sys_base.specs.declared.kinds.Op.{Op}
use Rattle.sys_base.specs.declared.kinds.Op.TheVariants as O
use Rattle.cell_lexer.specs.declared.token.Mark.TheVariants as M
use Rattle.cell_tree.specs.Operator.{op_mark, op_level, left_of, right_of, fits}
use Rattle.cell_tree.specs.Pieces.{none, space}
use Rattle.cell_tree.specs.declared.expression.Expr.{Expr, map-Expr, roll-Expr}
use Rattle.cell_tree.specs.declared.expression.Expr.TheFolds.{fold-roll-Expr, ind-Expr}
use Rattle.cell_tree.specs.declared.expression.Expr.TheOpen.{Expr-F}
use Rattle.cell_tree.specs.declared.expression.Expr.TheVariants as E
use Rattle.cell_tree.specs.declared.expression.Expr.TheVariants.{rolls-Number, rolls-Named, rolls-At, rolls-Negate, rolls-Binary}
use Rattle.cell_tree.specs.declared.level.Level.{Level}
use Rattle.cell_tree.specs.declared.level.Level.TheVariants as L
use Rattle.cell_parser.specs.Grammar.{Whole, Sum, Term, Unary, Atom, ReadsExpr, sum, comparison, term, addition, unary, product, minus, atom, number, named, element, parens}
use Rattle.cell_parser.specs.Grammar as G
use Rattle.cell_parser.specs.Lexeme.{Named, Numeral, Marked, Lexeme, At}
use Rattle.cell_parser.specs.Inner.Told.{Told, Tell, tell, Voiced, at_most, voice_step, voiced, tell_expression}
use Rattle.cell_parser.proofs.SaidWords.{Said, said_none, said_next, split, split_end}

-- the grammar's level of a level of the tree
abbrev pub spoken_level : Level → G.Level
spoken_level L.Comparison = Whole
spoken_level L.Sum = Sum
spoken_level L.Product = Term
spoken_level L.Unary = Unary
spoken_level L.Atom = Atom

pub atom_at : (level : Level) {e : Expr} {ts us : List Lexeme} → ReadsExpr Atom e ts us → ReadsExpr (spoken_level level) e ts us
atom_at L.Comparison r = sum (term (unary (atom r)))
atom_at L.Sum r = term (unary (atom r))
atom_at L.Product r = unary (atom r)
atom_at L.Unary r = atom r
atom_at L.Atom r = r

pub whole_at : (level : Level) {e : Expr} {ts us : List Lexeme} → ReadsExpr (spoken_level level) e ts us → ReadsExpr Whole e ts us
whole_at L.Comparison r = r
whole_at L.Sum r = sum r
whole_at L.Product r = sum (term r)
whole_at L.Unary r = sum (term (unary r))
whole_at L.Atom r = sum (term (unary (atom r)))

pub loose_at : (level loosest : Level) → fits level loosest ≡ true → {e : Expr} {ts us : List Lexeme}
    → ReadsExpr (spoken_level level) e ts us → ReadsExpr (spoken_level loosest) e ts us
loose_at level L.Comparison h r = whole_at level r
loose_at L.Comparison L.Sum h r = cc
loose_at L.Sum L.Sum h r = r
loose_at L.Product L.Sum h r = term r
loose_at L.Unary L.Sum h r = term (unary r)
loose_at L.Atom L.Sum h r = term (unary (atom r))
loose_at L.Comparison L.Product h r = cc
loose_at L.Sum L.Product h r = cc
loose_at L.Product L.Product h r = r
loose_at L.Unary L.Product h r = unary r
loose_at L.Atom L.Product h r = unary (atom r)
loose_at L.Comparison L.Unary h r = cc
loose_at L.Sum L.Unary h r = cc
loose_at L.Product L.Unary h r = cc
loose_at L.Unary L.Unary h r = r
loose_at L.Atom L.Unary h r = atom r
loose_at L.Comparison L.Atom h r = cc
loose_at L.Sum L.Atom h r = cc
loose_at L.Product L.Atom h r = cc
loose_at L.Unary L.Atom h r = cc
loose_at L.Atom L.Atom h r = r

-- However these words are said, they read to the expression at the level.
abbrev pub Heard : G.Level → Expr → List Told → Type 0
Heard level e words = (ts us : List Lexeme) → Said words ts us → ReadsExpr level e ts us

-- The words of what is voiced so read to the expression.
abbrev pub Voices : Voiced → Expr → Type 0
Voices v e = (gap : List ℕ) → Heard (spoken_level v.level) e (v.words gap)

in_parens : (e : Expr) (words : List Told) (gap : List ℕ) → Heard Whole e words
    → (ts us : List Lexeme) → Said (Tell gap (Marked M.OpenParen) ∷ (words ++ tell none (Marked M.CloseParen))) ts us
    → ReadsExpr Atom e ts us
in_parens e words gap f ts us (said_next {ts = vs} r) =
    let (j, a) = split_end words none (Marked M.CloseParen) r in parens (f vs (At j (Marked M.CloseParen) ∷ us) a)

pub heard_at : (loosest : Level) (v : Voiced) (e : Expr) → Voices v e → (gap : List ℕ)
    → Heard (spoken_level loosest) e (at_most loosest v gap)
heard_at loosest v e f gap ts us =
    elim (fits v.level loosest) as (λ b. fits v.level loosest ≡ b
    → Said (if b then v.words gap else (tell gap (Marked M.OpenParen) ++ v.words none ++ tell none (Marked M.CloseParen))) ts us
    → ReadsExpr (spoken_level loosest) e ts us) [
      | true ↦ λ h c. loose_at v.level loosest h (f gap ts us c)
      | false ↦ λ h c. atom_at loosest (in_parens e (v.words none) gap (λ ts us c. whole_at v.level (f none ts us c)) ts us c)
    ] refl

number_said : (n : ℕ) (gap : List ℕ) → Heard Atom (E.Number n) (tell gap (Numeral n))
number_said n gap ts us (said_next said_none) = number

named_said : (n : List ℕ) (gap : List ℕ) → Heard Atom (E.Named n) (tell gap (Named n))
named_said n gap ts us (said_next said_none) = named

element_said : (n : List ℕ) (e : Expr) (words : List Told) (gap : List ℕ) → Heard Whole e words
    → Heard Atom (E.At n e) (Tell gap (Named n) ∷ Tell none (Marked M.OpenBracket) ∷ (words ++ tell none (Marked M.CloseBracket)))
element_said n e words gap f ts us (said_next (said_next {ts = vs} r)) =
    let (j, a) = split_end words none (Marked M.CloseBracket) r in element (f vs (At j (Marked M.CloseBracket) ∷ us) a)

minus_said : (e : Expr) (words : List Told) (gap : List ℕ) → Heard Atom e words
    → Heard Unary (E.Negate e) (Tell gap (Marked M.Minus) ∷ words)
minus_said e words gap f ts us (said_next {ts = vs} r) = minus (f vs us r)

operation : (op : Op) (e f : Expr) (j : ℕ) {ts us vs : List Lexeme}
    → ReadsExpr (spoken_level (left_of (op_level op))) e ts (At j (Marked (op_mark op)) ∷ us)
    → ReadsExpr (spoken_level (right_of (op_level op))) f us vs
    → ReadsExpr (spoken_level (op_level op)) (E.Binary op e f) ts vs
operation O.Add e f j r q = addition r refl q
operation O.Sub e f j r q = addition r refl q
operation O.Mul e f j r q = product r refl q
operation O.Div e f j r q = product r refl q
operation O.Rem e f j r q = product r refl q
operation O.Less e f j r q = comparison r refl q
operation O.AtMost e f j r q = comparison r refl q
operation O.Same e f j r q = comparison r refl q
operation O.Differ e f j r q = comparison r refl q

binary_said : (op : Op) (e f : Expr) (left right : List Told)
    → Heard (spoken_level (left_of (op_level op))) e left → Heard (spoken_level (right_of (op_level op))) f right
    → Heard (spoken_level (op_level op)) (E.Binary op e f) (left ++ tell space (Marked (op_mark op)) ++ right)
binary_said op e f left right p q ts us c =
    let (mid, a, b) = split (left ++ tell space (Marked (op_mark op))) right c in
    let (j, d) = split_end left space (Marked (op_mark op)) a in
    operation op e f j (p ts (At j (Marked (op_mark op)) ∷ mid) d) (q mid us b)

close : (x : Expr-F Expr) (e : Expr) → roll-Expr x ≡ e → Voices (voice_step (map-Expr Expr Voiced voiced x)) e
    → Voices (voiced (roll-Expr x)) (roll-Expr x)
close x e r h =
    subst (λ (f : Expr). Voices (voiced (roll-Expr x)) f) (sym r)
    (subst (λ (v : Voiced). Voices v e) (sym (fold-roll-Expr Voiced voice_step x)) h)

abbrev VoicesItself : Expr → Type 0
VoicesItself e = Voices (voiced e) e

layer : (y : Expr-F ((e : Expr) × VoicesItself e))
    → VoicesItself (roll-Expr (map-Expr ((e : Expr) × VoicesItself e) Expr (λ e. e.0) y))
layer (Expr-F.Number n) = close (Expr-F.Number n) (E.Number n) (rolls-Number n) (λ gap. number_said n gap)
layer (Expr-F.Named n) = close (Expr-F.Named n) (E.Named n) (rolls-Named n) (λ gap. named_said n gap)
layer (Expr-F.At n e) = close (Expr-F.At n e.0) (E.At n e.0) (rolls-At n e.0)
    (λ gap. element_said n e.0 ((voiced e.0).words none) gap (λ ts us c. whole_at (voiced e.0).level (e.1 none ts us c)))
layer (Expr-F.Negate e) = close (Expr-F.Negate e.0) (E.Negate e.0) (rolls-Negate e.0)
    (λ gap. minus_said e.0 (at_most (right_of L.Unary) (voiced e.0) none) gap (heard_at (right_of L.Unary) (voiced e.0) e.0 e.1 none))
layer (Expr-F.Binary op e f) = close (Expr-F.Binary op e.0 f.0) (E.Binary op e.0 f.0) (rolls-Binary op e.0 f.0)
    (λ gap. binary_said op e.0 f.0 (at_most (left_of (op_level op)) (voiced e.0) gap) (at_most (right_of (op_level op)) (voiced f.0) space)
    (heard_at (left_of (op_level op)) (voiced e.0) e.0 e.1 gap) (heard_at (right_of (op_level op)) (voiced f.0) f.0 f.1 space))

pub voices : (e : Expr) → Voices (voiced e) e
voices = ind-Expr VoicesItself (λ x y is. subst (λ (z : Expr-F Expr). VoicesItself (roll-Expr z)) is (layer y))

-- the words of an expression read to it
pub expression_said : (gap : List ℕ) (e : Expr) → Heard Whole e (tell_expression gap e)
expression_said gap e ts us c = whole_at (voiced e).level (voices e gap ts us c)
