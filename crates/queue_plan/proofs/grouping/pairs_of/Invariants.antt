use Rattle.std.proofs.Common.{◌≡◌, map, slice_index}
use Rattle.cell_types.specs.Groups.{below}
use Rattle.queue_plan.proofs.grouping.pairs_of.Given as goal

abbrev pub invariant-loop-message : goal.invariant-loop-message
invariant-loop-message l = l.pairs.items ≡ map (λ message. (slice_index l.labels message, message)) (below l.message)
