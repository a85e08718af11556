use Rattle.std.proofs.Common.{◌≡◌, ◌++◌, ◌<◌, length, All, slice_index}
use Rattle.std.specs.List.Sorted.{IsNonDecreasingBy}
use Rattle.queue_plan.specs.bodies.ByLabel.{grouped}
use Rattle.queue_plan.proofs.grouping.groups_of.Given as goal

abbrev pub invariant-loop-first : goal.invariant-loop-first
invariant-loop-first l = record {
  known : All (λ message. message < length l.labels) l.rest;
  rising : IsNonDecreasingBy (slice_index l.labels) l.rest;
  whole : l.groups ++ grouped l.labels l.rest ≡ grouped l.labels l.messages;
}

abbrev pub decreases-loop-first : goal.decreases-loop-first
decreases-loop-first l = length l.rest
