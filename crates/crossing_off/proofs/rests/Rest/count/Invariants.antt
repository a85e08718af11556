use Rattle.std.proofs.Common.{◌≡◌, ◌+◌, length}
use Rattle.crossing_off.proofs.rests.Rest.count.Given as goal

abbrev pub invariant-loop-self : goal.invariant-loop-self
invariant-loop-self l = l.count + length l.self ≡ length l.fn.self

abbrev pub decreases-loop-self : goal.decreases-loop-self
decreases-loop-self l = length l.self
