use Rattle.std.proofs.Common.{◌≡◌, ◌++◌, [], length, slice_index_or}
use Rattle.sequence_tests.proofs.parts.list_of.Given as goal

abbrev pub invariant-loop-operation : goal.invariant-loop-operation
invariant-loop-operation l = l.list.items ++ l.cursor ≡ slice_index_or l.seqs.lists l.cell []

abbrev pub decreases-loop-operation : goal.decreases-loop-operation
decreases-loop-operation l = length l.cursor
