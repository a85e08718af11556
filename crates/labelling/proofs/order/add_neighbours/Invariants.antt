use Rattle.std.proofs.Common.{◌≡◌, ℕ, ◌<◌, ◌||◌, length, All}
use Rattle.comm_sequence.specs.Sequences.{message_of}
use Rattle.labelling.specs.bodies.Sets.{is_before, stand_after, stand_next}
use Rattle.labelling.proofs.order.add_neighbours.Given as goal

abbrev pub invariant-loop-operation : goal.invariant-loop-operation
invariant-loop-operation l =
    record {
      left : All (λ comm. message_of comm < length l.fn.sets) l.list;
      known : l.before < length l.fn.sets;
      added : (a b : ℕ) → b < length l.fn.sets
          → (is_before l.sets a b || stand_after l.before l.list a b) ≡ (is_before l.fn.sets a b || stand_next l.fn.list a b);
    }

abbrev pub decreases-loop-operation : goal.decreases-loop-operation
decreases-loop-operation l = length l.list
