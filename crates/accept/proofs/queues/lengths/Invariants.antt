use Rattle.std.proofs.Common.{◌≡◌, take}
use Rattle.accept.proofs.queues.lengths.Given as goal

abbrev pub invariant-loop-message : goal.invariant-loop-message
invariant-loop-message l = l.lengths.items ≡ take l.message l.seqs.lengths
