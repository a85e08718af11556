use Rattle.std.proofs.Common.{◌+◌, ◌≤◌, ◌≡◌, drop}
use Rattle.cell_types.proofs.CostSteps.{cost_of_cells}
use Rattle.cell_types.proofs.program.Program.cost.Given as goal

abbrev pub invariant-loop-cell : goal.invariant-loop-cell
invariant-loop-cell l =
    (l.cost + cost_of_cells (drop l.cell-index l.cell-items) ≡ cost_of_cells l.cell-items) × (l.cost ≤ 16777216)
