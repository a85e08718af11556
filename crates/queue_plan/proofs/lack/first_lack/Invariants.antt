use Rattle.std.proofs.Common.{◌≡◌, [], filter_map, take}
use Rattle.queue_plan.specs.Lacks.{lack_of}
use Rattle.queue_plan.proofs.lack.first_lack.Given as goal

abbrev pub invariant-loop-group : goal.invariant-loop-group
invariant-loop-group l = filter_map (lack_of l.link l.queues) (take l.group-index l.groups) ≡ []
