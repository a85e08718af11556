use Rattle.std.proofs.Common.{◌≡◌, map}
use Rattle.sys_base.specs.Groups.{below}
use Rattle.array_sim.specs.Simulations.{states_in}
use Rattle.image_runs.proofs.reporting.outputs_of.Given as goal

abbrev pub invariant-loop-cell : goal.invariant-loop-cell
invariant-loop-cell l = l.cells ≡ map (λ c. (states_in l.sim.array c).held.output) (below l.cell)
