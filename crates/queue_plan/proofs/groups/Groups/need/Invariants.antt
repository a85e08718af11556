use Rattle.std.proofs.Common.{◌≡◌, length, map, take}
use Rattle.cell_types.specs.Groups.{greatest}
use Rattle.queue_plan.proofs.groups.Groups.need.Given as goal

abbrev pub invariant-loop-group : goal.invariant-loop-group
invariant-loop-group l = l.need ≡ greatest (map (λ group. length group.1) (take l.group-index l.group-items))
