use Rattle.comm_sequence.proofs.Unrolled.{IsOnWay}
use Rattle.comm_sequence.proofs.unrolling.+build.Given as goal

abbrev pub invariant-build-loop-statement : goal.invariant-build-loop-statement
invariant-build-loop-statement l = IsOnWay l.body l.statement-index l.fn.parts.items l.parts.items
