use Rattle.std.proofs.Common.{◌≡◌, map, take}
use Rattle.queue_plan.specs.bodies.ByLabel.{grouped}
use Rattle.queue_plan.proofs.grouping.group.Given as goal

abbrev pub invariant-loop-messages : goal.invariant-loop-messages
invariant-loop-messages l = l.links ≡ map (grouped l.labels) (take l.messages-index l.messages-items)
