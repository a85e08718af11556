use Rattle.std.proofs.Common.{◌+◌, ◌≤◌, ◌≡◌, drop}
use Rattle.cell_types.specs.Cost.{block_cost}
use Rattle.cell_types.specs.Typed.{block_of}
use Rattle.cell_types.proofs.costs.+cost.Given as goal

abbrev pub invariant-statements_cost-loop-statement : goal.invariant-statements_cost-loop-statement
invariant-statements_cost-loop-statement l =
    (l.cost + block_cost (block_of (drop l.statement-index l.body)) ≡ block_cost (block_of l.body)) × (l.cost ≤ 16777216)
