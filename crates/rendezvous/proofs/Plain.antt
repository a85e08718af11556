-- Typed loops, branches and statements that are left, as plain data.
use Rattle.std.proofs.Common.{◌≡◌, ℕ, ◌+◌, ◌<◌, Vec, Global, List, ◌∷◌, length, drop, get_or, refl, sym, ap, ◌∙◌}
use Rattle.std.proofs.lemmas.List.{drop_more}
use Rattle.cell_types.specs.Code as C
use Rattle.cell_types.specs.Typed.{expression_of, action_of, inner_block, block_of}
use Rattle.cell_types.specs.declared.expression.TypedExpr.{TypedExpr}
use Rattle.cell_types.specs.declared.statement.TypedAct.{TypedAct, Row_of-TypedStmt, end_of-TypedStmt, more_of-TypedStmt, the_lemmas}
use Rattle.cell_types.specs.declared.statement.TypedAct.TheVariants.{For, If}
use Rattle.cell_types.specs.declared.statement.TypedAct.TheBlock.{hidden-the_row-TypedStmt-0, items-the_row-TypedStmt}
use Rattle.cell_types.specs.declared.statement.TypedStmt.{TypedStmt}

row_is : {m : _} → (r : Row_of-TypedStmt m) → inner_block r ≡ block_of (items-the_row-TypedStmt _ r)
row_is end_of-TypedStmt = refl
row_is (more_of-TypedStmt line act rest) = ap (λ b. C.Then line (action_of act) b) (row_is rest)

vec_is : (x : Vec TypedStmt Global) → inner_block (hidden-the_row-TypedStmt-0 x) ≡ block_of x.items
vec_is x = search (the_lemmas, row_is)

pub for_is : (act : TypedAct) (k n : ℕ) (x : Vec TypedStmt Global) (body : List TypedStmt) → act ≡ For k n x → body ≡ x.items →
    action_of act ≡ C.For k n (block_of body)
for_is act k n x body is items =
    ap action_of is ∙ ap (λ b. C.For k n b) (vec_is x) ∙ ap (λ b. C.For k n (block_of b)) (sym items)

pub if_is : (act : TypedAct) (e : TypedExpr) (x y : Vec TypedStmt Global) (first second : List TypedStmt) → act ≡ If e x y →
    first ≡ x.items → second ≡ y.items → action_of act ≡ C.If (expression_of e) (block_of first) (block_of second)
if_is act e x y first second is one other =
    ap action_of is
    ∙ ap (λ b. C.If (expression_of e) b (inner_block (hidden-the_row-TypedStmt-0 y))) (vec_is x ∙ ap block_of (sym one))
    ∙ ap (λ b. C.If (expression_of e) (block_of first) b) (vec_is y ∙ ap block_of (sym other))

pub rest_is : (body : List TypedStmt) (i : ℕ) (s : TypedStmt) → i < length body → s ≡ get_or body i s →
    block_of (drop i body) ≡ C.Then s.line (action_of s.act) (block_of (drop (i + 1) body))
rest_is body i s l e = ap block_of (drop_more body i s l) ∙ ap (λ x. block_of (x ∷ drop (i + 1) body)) (sym e)
