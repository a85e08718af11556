use Rattle.std.proofs.Common.{◌≡◌, ℕ, ◌<◌, ◌||◌, nat_eq, length, take}
use Rattle.std.specs.List.{list_any}
use Rattle.labelling.specs.bodies.Sets.{is_before, stand_next}
use Rattle.labelling.proofs.order.neighbours.Given as goal

abbrev pub invariant-loop-cell : goal.invariant-loop-cell
invariant-loop-cell l =
    record {
      size : length l.sets.items ≡ length l.seqs.ends;
      sets : (a b : ℕ) → b < length l.seqs.ends
          → is_before l.sets.items a b ≡ (nat_eq a b || list_any (λ list. stand_next list a b) (take l.cell l.seqs.lists));
    }
