use Rattle.std.proofs.Common.{◌≡◌, [], replicate}
use Rattle.sim_tests.proofs.images.no_inputs.Given as goal

abbrev pub invariant-loop-cell : goal.invariant-loop-cell
invariant-loop-cell l = l.cells ≡ replicate l._cell []
