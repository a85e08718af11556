use Rattle.std.proofs.Common.{◌≡◌, ℕ, ◌<◌, [], filter_map, slice_index}
use Rattle.queue_plan.specs.Grouping.{groups_at}
use Rattle.queue_plan.specs.Lacks.{lack_of}
use Rattle.queue_plan.proofs.groups.Groups.lack.Given as goal

abbrev pub invariant-loop-link : goal.invariant-loop-link
invariant-loop-link l =
    (k : ℕ) → k < l.link → filter_map (lack_of k (slice_index l.program.queues k)) (groups_at l.groups-items k) ≡ []
