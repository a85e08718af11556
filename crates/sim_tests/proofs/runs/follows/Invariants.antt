use Rattle.std.proofs.Common.{◌≡◌}
use Rattle.sim_tests.proofs.runs.follows.Given as goal

abbrev pub invariant-loop-actor : goal.invariant-loop-actor
invariant-loop-actor l = l.sim.array.image ≡ l.initial.sim.array.image
