-- Typed loops and choices as plain data, and typed statements in front of others.
use Rattle.std.proofs.Common.{◌≡◌, ℕ, ◌+◌, ◌<◌, Vec, Global, List, [], ◌∷◌, ◌++◌, length, drop, get_or, refl, sym, ap, ◌∙◌}
use Rattle.std.proofs.lemmas.List.{drop_more}
use Rattle.cell_types.specs.Code as C
use Rattle.cell_types.specs.Code.{Block}
use Rattle.cell_types.specs.bodies.Scopes.{block_from}
use Rattle.cell_types.specs.Typed.{expression_of, action_of, inner_block, block_of}
use Rattle.cell_types.specs.declared.expression.TypedExpr.{TypedExpr}
use Rattle.cell_types.specs.declared.statement.TypedAct.{TypedAct, Row_of-TypedStmt, end_of-TypedStmt, more_of-TypedStmt, the_lemmas}
use Rattle.cell_types.specs.declared.statement.TypedAct.TheVariants.{For, If}
use Rattle.cell_types.specs.declared.statement.TypedAct.TheBlock.{hidden-the_row-TypedStmt-0, items-the_row-TypedStmt}
use Rattle.cell_types.specs.declared.statement.TypedStmt.{TypedStmt}

row_is : {m : _} → (r : Row_of-TypedStmt m) → inner_block r ≡ block_of (items-the_row-TypedStmt _ r)
row_is end_of-TypedStmt = refl
row_is (more_of-TypedStmt line act rest) = ap (λ b. C.Then line (action_of act) b) (row_is rest)

vec_is : (x : Vec TypedStmt Global) → inner_block (hidden-the_row-TypedStmt-0 x) ≡ block_of x.items
vec_is x = search (the_lemmas, row_is)

-- a loop, and a choice
pub action_of_for : (counter turns : ℕ) (x : Vec TypedStmt Global) → action_of (For counter turns x) ≡ C.For counter turns (block_of x.items)
action_of_for counter turns x = ap (λ b. C.For counter turns b) (vec_is x)

pub action_of_if : (e : TypedExpr) (x y : Vec TypedStmt Global)
    → action_of (If e x y) ≡ C.If (expression_of e) (block_of x.items) (block_of y.items)
action_of_if e x y = ap (λ b. C.If (expression_of e) b (inner_block (hidden-the_row-TypedStmt-0 y))) (vec_is x)
    ∙ ap (λ b. C.If (expression_of e) (block_of x.items) b) (vec_is y)

-- typed statements in front of nothing
pub from_end : (xs : List TypedStmt) → block_from xs C.End ≡ block_of xs
from_end [] = refl
from_end (x ∷ xs) = ap (λ b. C.Then x.line (action_of x.act) b) (from_end xs)

-- one more typed statement
pub from_more : (xs : List TypedStmt) (x : TypedStmt) (rest : Block)
    → block_from (xs ++ x ∷ []) rest ≡ block_from xs (C.Then x.line (action_of x.act) rest)
from_more [] x rest = refl
from_more (y ∷ ys) x rest = ap (λ b. C.Then y.line (action_of y.act) b) (from_more ys x rest)

-- the same of a statement that is one
pub for_is : (act : TypedAct) (counter turns : ℕ) (x : Vec TypedStmt Global) (body : List TypedStmt)
    → act ≡ For counter turns x → body ≡ x.items → action_of act ≡ C.For counter turns (block_of body)
for_is act counter turns x body is items =
    ap action_of is ∙ action_of_for counter turns x ∙ ap (λ b. C.For counter turns (block_of b)) (sym items)

pub if_parts : (act : TypedAct) (e : TypedExpr) (x y : Vec TypedStmt Global)
    → act ≡ If e x y → action_of act ≡ C.If (expression_of e) (block_of x.items) (block_of y.items)
if_parts act e x y is = ap action_of is ∙ action_of_if e x y

-- what is left of typed statements, by the next one
pub rest_is : (body : List TypedStmt) (i : ℕ) (s : TypedStmt) → i < length body → s ≡ get_or body i s
    → block_of (drop i body) ≡ C.Then s.line (action_of s.act) (block_of (drop (i + 1) body))
rest_is body i s l e = ap block_of (drop_more body i s l) ∙ ap (λ x. block_of (x ∷ drop (i + 1) body)) (sym e)
