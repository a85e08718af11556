-- The canonical text of an expression has as many words as its stack is deep, and all are plain.
use Rattle.std.proofs.Common.{ℕ, ◌+◌, ◌++◌, true, false, List, [], ◌∷◌, max, refl, sym, subst, arith}
use Rattle.std.specs.List.{AllByRecursion}
use Rattle.std.specs.Prelude.{if◌then◌else◌, codes}
use Rattle.sys_base.specs.Name.{IsName}
use Rattle.sys_base.specs.declared.kinds.Op.{Op}
use Rattle.cell_tree.specs.Depth.{depth_step, stack_depth}
use Rattle.cell_tree.specs.Expression.{Spelt, at_level, spell_step, spelt, expression_pieces}
use Rattle.cell_tree.specs.Operator.{op_text, op_level, left_of, right_of, fits}
use Rattle.cell_tree.specs.Pieces.{Piece, after, none, space, bracketed}
use Rattle.cell_tree.specs.Printable.{names_step, names_of}
use Rattle.cell_tree.specs.declared.expression.Expr.{Expr, map-Expr, roll-Expr}
use Rattle.cell_tree.specs.declared.expression.Expr.TheFolds.{fold-roll-Expr, ind-Expr}
use Rattle.cell_tree.specs.declared.expression.Expr.TheOpen.{Expr-F}
use Rattle.cell_tree.specs.declared.level.Level.{Level}
use Rattle.cell_tree.specs.declared.level.Level.TheVariants.{Unary}
use Rattle.cell_tree.proofs.PlainWords.{Stretch, stretch_one, stretch_join, stretch_less, name_plain, decimal_plain, op_plain}

-- Each of these is a name of the language.
abbrev pub Names : List (List ℕ) → Type 0
Names = AllByRecursion IsName

-- names in the first part of a list, and in the second one
pub names_front : (xs ys : List (List ℕ)) → Names (xs ++ ys) → Names xs
names_front [] ys h = tt
names_front (x ∷ xs) ys h = (h.0, names_front xs ys h.1)

pub names_back : (xs ys : List (List ℕ)) → Names (xs ++ ys) → Names ys
names_back [] ys h = h
names_back (x ∷ xs) ys h = names_back xs ys h.1

-- After any white space the pieces are a stretch, where the names are those of the language.
abbrev Stretches : ℕ → List (List ℕ) → (List ℕ → List Piece) → Type 0
Stretches few names pieces = Names names → (gap : List ℕ) → Stretch few (pieces gap)

-- An expression's pieces are a stretch of as many as its stack is deep.
abbrev StretchesItself : Expr → Type 0
StretchesItself e = Stretches (stack_depth e) (names_of e) (spelt e).pieces

-- what holds of one layer holds of the expression
close : (x : Expr-F Expr)
    → Stretches (depth_step (map-Expr Expr ℕ stack_depth x)) (names_step (map-Expr Expr (List (List ℕ)) names_of x))
    (spell_step (map-Expr Expr Spelt spelt x)).pieces
    → StretchesItself (roll-Expr x)
close x h =
    let few : ℕ = depth_step (map-Expr Expr ℕ stack_depth x) in
    let names : List (List ℕ) = names_step (map-Expr Expr (List (List ℕ)) names_of x) in
    subst (λ (n : ℕ). Stretches n (names_of (roll-Expr x)) (spelt (roll-Expr x)).pieces) (sym (fold-roll-Expr ℕ depth_step x))
    (subst (λ (l : List (List ℕ)). Stretches few l (spelt (roll-Expr x)).pieces) (sym (fold-roll-Expr (List (List ℕ)) names_step x))
    (subst (λ (s : Spelt). Stretches few names s.pieces) (sym (fold-roll-Expr Spelt spell_step x)) h))

-- an operand in parentheses, or without
operand : (few : ℕ) (loosest : Level) (s : Spelt) (gap : List ℕ) → ((inner : List ℕ) → Stretch few (s.pieces inner))
    → Stretch few (at_level loosest s gap)
operand few loosest s gap h =
    elim (fits s.level loosest) as (λ b. Stretch few
    (if b then s.pieces gap else (after gap (codes "(") ++ s.pieces none ++ after none (codes ")")))) [
      | true ↦ h gap
      | false ↦ stretch_less (omega arith)
          (stretch_join (stretch_join (stretch_one {gap = gap} {word = codes "("} (record { ends = refl })) (h none))
          (stretch_one {gap = none} {word = codes ")"} (record { ends = refl })))
    ]

-- pieces in brackets
pub in_brackets : {few : ℕ} {pieces : List Piece} → Stretch few pieces → Stretch few (bracketed pieces)
in_brackets h =
    stretch_less (omega arith)
    (stretch_join (stretch_join (stretch_one {gap = none} {word = codes "["} (record { ends = refl })) h)
    (stretch_one {gap = none} {word = codes "]"} (record { ends = refl })))

-- two operands and the operator between them
binary : (op : Op) (m n : ℕ) (left right : List Piece) → Stretch m left → Stretch n right
    → Stretch (max m (1 + n)) (left ++ after space (op_text op) ++ right)
binary op m n left right p q =
    stretch_less {m = max m (1 + n)} {n = m + 1 + n} (omega arith)
    (stretch_join (stretch_join p (stretch_one {gap = space} {word = op_text op} (op_plain op))) q)

-- each form of expression, over the facts of its operands
layer : (y : Expr-F ((e : Expr) × StretchesItself e))
    → StretchesItself (roll-Expr (map-Expr ((e : Expr) × StretchesItself e) Expr (λ e. e.0) y))
layer (Expr-F.Number n) = close (Expr-F.Number n) (λ ns gap. stretch_one (decimal_plain n))
layer (Expr-F.Named n) = close (Expr-F.Named n) (λ ns gap. stretch_one (name_plain n ns.0))
layer (Expr-F.At n e) = close (Expr-F.At n e.0)
    (λ ns gap. stretch_less {n = 1 + stack_depth e.0} (omega arith) (stretch_join (stretch_one (name_plain n ns.0)) (in_brackets (e.1 ns.1 none))))
layer (Expr-F.Negate e) = close (Expr-F.Negate e.0)
    (λ ns gap. stretch_less {n = 1 + stack_depth e.0} (omega arith)
    (stretch_join (stretch_one {gap = gap} {word = codes "-"} (record { ends = refl }))
    (operand (stack_depth e.0) (right_of Unary) (spelt e.0) none (e.1 ns))))
layer (Expr-F.Binary op e f) = close (Expr-F.Binary op e.0 f.0)
    (λ ns gap. binary op (stack_depth e.0) (stack_depth f.0) (at_level (left_of (op_level op)) (spelt e.0) gap)
    (at_level (right_of (op_level op)) (spelt f.0) space)
    (operand (stack_depth e.0) (left_of (op_level op)) (spelt e.0) gap (e.1 (names_front (names_of e.0) (names_of f.0) ns)))
    (operand (stack_depth f.0) (right_of (op_level op)) (spelt f.0) space (f.1 (names_back (names_of e.0) (names_of f.0) ns))))

-- an expression's pieces are as many as its stack is deep
pub expression_stretch : (e : Expr) → Names (names_of e) → (gap : List ℕ) → Stretch (stack_depth e) (expression_pieces gap e)
expression_stretch = ind-Expr StretchesItself (λ x y is. subst (λ (z : Expr-F Expr). StretchesItself (roll-Expr z)) is (layer y))
