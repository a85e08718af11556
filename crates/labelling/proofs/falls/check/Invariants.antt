use Rattle.std.proofs.Common.{ℕ, ◌<◌, [], slice_index_or}
use Rattle.labelling.specs.Falls.{NeverFalls}
use Rattle.labelling.proofs.falls.check.Given as goal

abbrev pub invariant-loop-cell : goal.invariant-loop-cell
invariant-loop-cell l = (cell : ℕ) → cell < l.cell → NeverFalls (slice_index_or l.seqs.lists cell []) l.labels
