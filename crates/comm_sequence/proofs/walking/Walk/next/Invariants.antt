use Rattle.std.proofs.Common.{◌≡◌, ◌≢◌, ◌-◌, []}
use Rattle.comm_sequence.specs.bodies.Walking.{IsWalk, left}
use Rattle.comm_sequence.proofs.walking.Walk.next.Given as goal

abbrev pub invariant-loop-part : goal.invariant-loop-part
invariant-loop-part l = record { walk : IsWalk l.self; left : left l.self ≡ left l.fn.self; some : l.self.inner.rest.now ≢ [] }

abbrev pub decreases-loop-part : goal.decreases-loop-part
decreases-loop-part l = 17 - l.self.depth
