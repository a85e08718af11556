use Rattle.std.proofs.Common.{◌≡◌, ℕ, ◌<◌, ◌≤◌, get_or, bit_or, length}
use Rattle.labelling.proofs.sets.MessageSet.add_all.Given as goal

abbrev pub invariant-loop-index : goal.invariant-loop-index
invariant-loop-index l =
    record {
      joined : (i : ℕ) → i < l.index → get_or l.self.words i 0 ≡ bit_or (get_or l.fn.self.words i 0) (get_or l.other.words i 0);
      kept : (i : ℕ) → l.index ≤ i → get_or l.self.words i 0 ≡ get_or l.fn.self.words i 0;
      size : length l.self.words ≡ 8;
    }
