use Rattle.std.proofs.Common.{◌≡◌, length}
use Rattle.comm_sequence.specs.Parts.{unrolled}
use Rattle.comm_sequence.specs.bodies.Walking.{left, IsWalk}
use Rattle.comm_sequence.proofs.unrolling.same.Given as goal

abbrev pub invariant-loop-entry : goal.invariant-loop-entry
invariant-loop-entry l =
    record {
      first : IsWalk l.first;
      second : IsWalk l.second;
      same : left l.first ≡ left l.second → unrolled l.fn.first ≡ unrolled l.fn.second;
      back : unrolled l.fn.first ≡ unrolled l.fn.second → left l.first ≡ left l.second;
    }

abbrev pub decreases-loop-entry : goal.decreases-loop-entry
decreases-loop-entry l = length (left l.first)
