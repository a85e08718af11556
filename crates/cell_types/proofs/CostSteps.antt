-- The cost of loops and arms by their items, and of what is left of a list.
use Rattle.std.proofs.Common.{◌≡◌, ℕ, ◌+◌, ◌*◌, ◌<◌, ◌≤◌, max, List, length, drop, get_or, map, ap, sym, ◌∙◌, arith}
use Rattle.std.proofs.Math.Nat.{mul-le-mul_right}
use Rattle.std.proofs.lemmas.List.{at_drop_more}
use Rattle.std.proofs.lemmas.List.Sums.{sum_by-cons}
use Rattle.std.specs.Global.{Vec}
use Rattle.std.specs.Prelude.{sum_by}
use Rattle.cell_types.specs.Code.{CellCode}
use Rattle.cell_types.specs.Cost.{expression_cost, action_cost, block_cost}
use Rattle.cell_types.specs.Typed.{action_of, block_of, expression_of, plain_cell}
use Rattle.cell_types.specs.declared.expression.TypedExpr.{TypedExpr}
use Rattle.cell_types.specs.declared.cell.Cell.{Cell}
use Rattle.cell_types.specs.declared.statement.TypedAct.{TypedAct}
use Rattle.cell_types.specs.declared.statement.TypedAct.TheVariants as T
use Rattle.cell_types.specs.declared.statement.TypedStmt.{TypedStmt}
use Rattle.cell_types.proofs.TypedSteps.{action_of_for, action_of_if}

-- the cost of a loop, by the items of its body
pub loop_is : (act : TypedAct) (counter turns : ℕ) (body : Vec TypedStmt) (items : List TypedStmt)
    → act ≡ T.For counter turns body → items ≡ body.items
    → action_cost (action_of act) ≡ 1 + turns * (block_cost (block_of items) + 1)
loop_is act counter turns body items is same =
    ap (λ a. action_cost (action_of a)) is ∙ ap action_cost (action_of_for counter turns body)
    ∙ ap (λ xs. 1 + turns * (block_cost (block_of xs) + 1)) (sym same)

-- the cost of an `if`, by the items of its arms
pub branch_is : (act : TypedAct) (test : TypedExpr) (first second : Vec TypedStmt) (yes_items no_items : List TypedStmt)
    → act ≡ T.If test first second → yes_items ≡ first.items → no_items ≡ second.items
    → action_cost (action_of act)
    ≡ expression_cost (expression_of test) + 1 + max (block_cost (block_of yes_items) + 1) (block_cost (block_of no_items))
branch_is act test first second yes_items no_items is same other =
    ap (λ a. action_cost (action_of a)) is ∙ ap action_cost (action_of_if test first second)
    ∙ ap (λ xs. expression_cost (expression_of test) + 1 + max (block_cost (block_of xs) + 1) (block_cost (block_of second.items)))
    (sym same)
    ∙ ap (λ xs. expression_cost (expression_of test) + 1 + max (block_cost (block_of yes_items) + 1) (block_cost (block_of xs)))
    (sym other)

-- a loop with a turn costs more than its body
pub loop_over : (turns body : ℕ) → 1 ≤ turns → body < 1 + turns * (body + 1)
loop_over turns body some = omega (arith, mul-le-mul_right (body + 1) some)

-- the cost of the cells of a program
abbrev pub cost_of_cells : List Cell → ℕ
cost_of_cells cells = sum_by (λ (c : CellCode). block_cost c.body) (map plain_cell cells)

-- the cost of the cells that are left, one step on
pub cells_more : (cells : List Cell) (i : ℕ) (d : Cell) → i < length cells
    → cost_of_cells (drop i cells) ≡ block_cost (block_of (get_or cells i d).body.items) + cost_of_cells (drop (i + 1) cells)
cells_more cells i d within =
    at_drop_more cost_of_cells cells i d within
    ∙ sum_by-cons (λ (c : CellCode). block_cost c.body) (plain_cell (get_or cells i d)) (map plain_cell (drop (i + 1) cells))
