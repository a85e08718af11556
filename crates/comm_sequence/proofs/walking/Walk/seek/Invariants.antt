use Rattle.std.proofs.Common.{◌≡◌}
use Rattle.comm_sequence.specs.bodies.Walking.{IsWalk, left}
use Rattle.comm_sequence.proofs.walking.Walk.seek.Given as goal

abbrev pub invariant-loop-self : goal.invariant-loop-self
invariant-loop-self l = record { walk : IsWalk l.self; left : left l.self ≡ left l.fn.self }

abbrev pub decreases-loop-self : goal.decreases-loop-self
decreases-loop-self l = l.self.depth
