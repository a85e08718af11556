use Rattle.std.proofs.Common.{◌≡◌, ℕ, ◌<◌, ◌≤◌, ◌||◌, ◌&&◌, length}
use Rattle.labelling.specs.bodies.Sets.{is_before}
use Rattle.labelling.proofs.order.join_through.Given as goal

abbrev pub invariant-loop-set : goal.invariant-loop-set
invariant-loop-set l =
    record {
      size : length l.set-items ≡ length l.fn.sets;
      joined : (a b : ℕ) → b < l.set-index
          → is_before l.set-items a b ≡ (is_before l.fn.sets a b || (is_before l.fn.sets a l.between && is_before l.fn.sets l.between b));
      kept : (a b : ℕ) → l.set-index ≤ b → is_before l.set-items a b ≡ is_before l.fn.sets a b;
    }
