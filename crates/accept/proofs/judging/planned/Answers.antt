use Rattle.std.proofs.Common.{◌∙◌}
use Rattle.cell_types.specs.Typed.{plain}
use Rattle.accept.specs.bodies.Answers.{IsFound}
use Rattle.accept.specs.FirstRefusal.{IsFirstOf, label_trials, naming_trials, room_trials}
use Rattle.accept.proofs.Judged.{bound_is, few_first, over_first, passes, judged}
use Rattle.accept.proofs.Refused.{handed_on}
use Rattle.accept.proofs.Trials.{found_then}
use Rattle.accept.proofs.judging.planned.Goals as goal

pub returns-in_err-labels-clause-refused : goal.returns-in_err-labels-clause-refused
returns-in_err-labels-clause-refused c =
    handed_on (IsFound (IsFirstOf label_trials) (plain c.args.program.now)) _ c.in_err-labels.field-0.0
    c.from_residual.ensures.1
    (found_then naming_trials room_trials (plain c.args.program.now) c.in_err-labels.field-0.0 c.in_err-labels.ensures.refused)

pub returns-in_err-groups-clause-refused : goal.returns-in_err-groups-clause-refused
returns-in_err-groups-clause-refused c =
    handed_on (IsFound (IsFirstOf label_trials) (plain c.args.program.now)) _ c.in_err-groups.field-0.0
    c.from_residual-in_err-groups.ensures.1
    (few_first c.laws_below.ensures (plain c.args.program.now) c.in_ok-labels.labels.items c.in_ok-labels.ensures.labels
    c.in_ok-labels.ensures.consistent c.in_err-groups.field-0.0 c.in_err-groups.ensures.refused)

pub returns-in_err-bound-clause-refused : goal.returns-in_err-bound-clause-refused
returns-in_err-bound-clause-refused c =
    handed_on (IsFound (IsFirstOf label_trials) (plain c.args.program.now)) _ c.in_err-bound.field-0.0
    c.from_residual-in_err-bound.ensures.1
    (over_first c.laws_below.ensures (plain c.args.program.now) c.in_ok-labels.labels.items c.in_ok-labels.ensures.labels
    c.in_ok-labels.ensures.consistent (rw c.deref.ensures.value at c.in_ok-groups.ensures.enough)
    c.bound_of-sum.result c.in_err-bound.field-0.0
    (bound_is c.laws_below.ensures (plain c.args.program.now) c.in_ok-labels.labels.items c.in_ok-groups.groups c.bound_of-sum.result
    (rw c.deref.ensures.value at c.in_ok-groups.ensures.groups) c.bound_of-sum.ensures)
    c.in_err-bound.ensures.refused)

pub returns-clause-passes : goal.returns-clause-passes
returns-clause-passes c =
    passes c.laws_below.ensures (plain c.args.program.now) c.in_ok-labels.labels.items c.in_ok-labels.ensures.labels
    c.in_ok-labels.ensures.consistent (rw c.deref.ensures.value at c.in_ok-groups.ensures.enough)
    c.in_ok-bound.bound
    (c.in_ok-bound.ensures.within.0
    ∙ bound_is c.laws_below.ensures (plain c.args.program.now) c.in_ok-labels.labels.items c.in_ok-groups.groups c.bound_of-sum.result
    (rw c.deref.ensures.value at c.in_ok-groups.ensures.groups) c.bound_of-sum.ensures)
    c.in_ok-bound.ensures.within.1

pub returns-clause-judged : goal.returns-clause-judged
returns-clause-judged c =
    judged c.laws_below.ensures (plain c.args.program.now) c.in_ok-labels.labels.items c.in_ok-labels.ensures.labels
    c.in_ok-labels.ensures.consistent (rw c.deref.ensures.value at c.in_ok-groups.ensures.enough)
    c.in_ok-bound.bound
    (c.in_ok-bound.ensures.within.0
    ∙ bound_is c.laws_below.ensures (plain c.args.program.now) c.in_ok-labels.labels.items c.in_ok-groups.groups c.bound_of-sum.result
    (rw c.deref.ensures.value at c.in_ok-groups.ensures.groups) c.bound_of-sum.ensures)
    c.in_ok-bound.ensures.within.1
