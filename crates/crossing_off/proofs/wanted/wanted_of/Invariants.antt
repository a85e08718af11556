use Rattle.std.proofs.Common.{◌≡◌, ℕ, Some, length, cond, nat_lt, slice_get, slice_index, slice_index_or, []}
use Rattle.comm_sequence.specs.BufferedOrder.{occurrences}
use Rattle.comm_sequence.specs.declared.comm.Comm.TheVariants.{Read}
use Rattle.crossing_off.proofs.wanted.wanted_of.Given as goal

abbrev pub invariant-loop-cell : goal.invariant-loop-cell
invariant-loop-cell l =
    record {
      size : length l.wanted.items ≡ length l.seqs.ends;
      counted : (m : ℕ) (e : ℕ × ℕ) → slice_get l.seqs.ends m ≡ Some e → slice_index l.wanted.items m
          ≡ cond (nat_lt e.1 l.cell) (occurrences (Read m) (slice_index_or l.seqs.lists e.1 [])) 0;
    }
