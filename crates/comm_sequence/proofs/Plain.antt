-- Typed statements as plain data: the rows of loops and arms are their items.
use Rattle.std.proofs.Common.{◌≡◌, ℕ, refl, ap, ◌∙◌}
use Rattle.std.specs.Global.{Vec}
use Rattle.cell_types.specs.Code.{Then, For, If}
use Rattle.cell_types.specs.Typed.{action_of, block_of, expression_of, inner_block}
use Rattle.cell_types.specs.declared.expression.TypedExpr.{TypedExpr}
use Rattle.cell_types.specs.declared.statement.TypedAct.{Row_of-TypedStmt, end_of-TypedStmt, more_of-TypedStmt}
use Rattle.cell_types.specs.declared.statement.TypedAct.TheBlock.{items-the_row-TypedStmt, hidden-the_row-TypedStmt-0, items_hidden-the_row-TypedStmt-0}
use Rattle.cell_types.specs.declared.statement.TypedAct.TheVariants as T
use Rattle.cell_types.specs.declared.statement.TypedStmt.{TypedStmt}

-- a row is the block of its items
pub row_is : {m : _} → (r : Row_of-TypedStmt m) → inner_block r ≡ block_of (items-the_row-TypedStmt _ r)
row_is end_of-TypedStmt = refl
row_is (more_of-TypedStmt line act rest) = ap (λ b. Then line (action_of act) b) (row_is rest)

-- a body is the block of its items
pub vec_is : (body : Vec TypedStmt) → inner_block (hidden-the_row-TypedStmt-0 body) ≡ block_of body.items
vec_is body =
    row_is (hidden-the_row-TypedStmt-0 body) ∙ ap block_of (items_hidden-the_row-TypedStmt-0 body)

-- a loop, by its body
pub for_is : (counter turns : ℕ) (body : Vec TypedStmt)
    → action_of (T.For counter turns body) ≡ For counter turns (block_of body.items)
for_is counter turns body = ap (λ b. For counter turns b) (vec_is body)

-- an `if`, by its arms
pub if_is : (test : TypedExpr) (first second : Vec TypedStmt)
    → action_of (T.If test first second) ≡ If (expression_of test) (block_of first.items) (block_of second.items)
if_is test first second =
    ap (λ b. If (expression_of test) b (inner_block (hidden-the_row-TypedStmt-0 second))) (vec_is first)
    ∙ ap (λ b. If (expression_of test) (block_of first.items) b) (vec_is second)
