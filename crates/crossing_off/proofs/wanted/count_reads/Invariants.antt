use Rattle.std.proofs.Common.{◌≡◌, ℕ, ◌+◌, ◌<◌, ◌^◌, length, slice_index, All}
use Rattle.comm_sequence.specs.BufferedOrder.{occurrences}
use Rattle.comm_sequence.specs.Sequences.{message_of}
use Rattle.comm_sequence.specs.declared.comm.Comm.TheVariants.{Read}
use Rattle.crossing_off.proofs.wanted.count_reads.Given as goal

abbrev pub invariant-loop-operation : goal.invariant-loop-operation
invariant-loop-operation l =
    record {
      messages : All (λ comm. message_of comm < length l.fn.wanted) l.list;
      room : (m : ℕ) → m < length l.fn.wanted → slice_index l.wanted m + length l.list < 2 ^ 32;
      counted : (m : ℕ) → m < length l.fn.wanted
          → slice_index l.wanted m + occurrences (Read m) l.list ≡ slice_index l.fn.wanted m + occurrences (Read m) l.fn.list;
    }

abbrev pub decreases-loop-operation : goal.decreases-loop-operation
decreases-loop-operation l = length l.list
