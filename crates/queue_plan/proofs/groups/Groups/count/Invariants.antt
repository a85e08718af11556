use Rattle.std.proofs.Common.{◌≡◌, length, sum_by, take}
use Rattle.queue_plan.proofs.groups.Groups.count.Given as goal

abbrev pub invariant-loop-groups : goal.invariant-loop-groups
invariant-loop-groups l = l.count ≡ sum_by length (take l.groups-index l.groups-items)
