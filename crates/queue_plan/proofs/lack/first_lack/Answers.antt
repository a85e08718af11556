use Rattle.std.proofs.Common.{ap, length, arith}
use Rattle.queue_plan.proofs.Firsts.{first_given, none_more}
use Rattle.queue_plan.proofs.Lacking.{lack_there, none_there}
use Rattle.queue_plan.specs.Lacks.{lack_of}
use Rattle.queue_plan.proofs.lack.first_lack.Goals as goal

pub returns-then-from-need : goal.returns-then-from-need
returns-then-from-need c =
    first_given (lack_of c.args.link c.args.queues) c.args.groups.now c.loop-group.group-index c.group-item.result _
    c.loop-group-test.true c.group-item.is c.loop-group.invariant
    (lack_there c.args.link c.args.queues c.label.result (length c.members.result.now) c.group-item.result c.label.ensures
    (ap length c.members.ensures) (omega arith))

pub loop-group-preserved : goal.loop-group-preserved
loop-group-preserved c =
    none_more (lack_of c.args.link c.args.queues) c.args.groups.now c.loop-group.group-index c.group-item.result
    c.loop-group-test.true c.group-item.is c.loop-group.invariant
    (none_there c.args.link c.args.queues c.group-item.result (omega (arith, ap length c.members.ensures)))
