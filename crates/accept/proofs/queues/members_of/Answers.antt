use Rattle.std.proofs.Common.{◌∙◌, arith}
use Rattle.queue_plan.specs.Grouping.{groups_at}
use Rattle.accept.proofs.FirstLack.{place_within, next_place, members_there, none_there}
use Rattle.accept.proofs.queues.members_of.Goals as goal

pub returns-then-other-label : goal.returns-then-other-label
returns-then-other-label c =
    c.members.ensures.members
    ∙ members_there (groups_at c.args.groups.now c.args.link) c.loop-other.place c.args.label c.loop-other.invariant.none
    c.in-Some.other c.in-Some.ensures.label c.if-other-label.true

pub loop-other-smaller : goal.loop-other-smaller
loop-other-smaller c =
    let within = place_within (groups_at c.args.groups.now c.args.link) c.loop-other.place c.in-Some.other c.in-Some.ensures.label in
    omega arith

pub loop-other-preserved : goal.loop-other-preserved
loop-other-preserved c =
    let within = place_within (groups_at c.args.groups.now c.args.link) c.loop-other.place c.in-Some.other c.in-Some.ensures.label in
    record {
      within = omega arith;
      none =
          next_place (groups_at c.args.groups.now c.args.link) c.loop-other.place c.args.label c.loop-other.invariant.none
          c.in-Some.other c.in-Some.ensures.label c.if-other-label.false;
    }

pub returns : goal.returns
returns c =
    none_there (groups_at c.args.groups.now c.args.link) c.loop-other.place c.args.label c.loop-other.invariant.none
    c.in_default.ensures.label
