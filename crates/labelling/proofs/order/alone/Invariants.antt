use Rattle.std.proofs.Common.{◌≡◌, ℕ, ◌<◌, nat_eq, length}
use Rattle.labelling.specs.bodies.Sets.{is_before}
use Rattle.labelling.proofs.order.alone.Given as goal

abbrev pub invariant-loop-message : goal.invariant-loop-message
invariant-loop-message l =
    record {
      size : length l.sets.items ≡ l.message;
      only : (a b : ℕ) → b < l.message → is_before l.sets.items a b ≡ nat_eq a b;
    }
