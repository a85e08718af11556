use Rattle.cell_types.specs.Typed.{plain}
use Rattle.accept.specs.bodies.Answers.{IsFound}
use Rattle.accept.specs.FirstRefusal.{IsFirstOf, naming_trials}
use Rattle.accept.proofs.Judged.{falling_first, names_pass}
use Rattle.accept.proofs.Refused.{handed_on}
use Rattle.accept.proofs.judging.labelled.Goals as goal

pub returns-in_err-never_fall-clause-refused : goal.returns-in_err-never_fall-clause-refused
returns-in_err-never_fall-clause-refused c =
    handed_on (IsFound (IsFirstOf naming_trials) (plain c.args.program.now)) _ c.in_err-never_fall.field-0.0
    c.from_residual-in_err-never_fall.ensures.1
    (falling_first c.laws_below.ensures (plain c.args.program.now) c.in_ok-labels.labels.items c.in_ok-labels.ensures.labels
    c.in_err-never_fall.field-0.0 c.in_err-never_fall.ensures.refused)

pub returns-clause-passes : goal.returns-clause-passes
returns-clause-passes c =
    names_pass c.laws_below.ensures (plain c.args.program.now) c.in_ok-labels.labels.items c.in_ok-labels.ensures.labels
    (rw c.deref.ensures.value at c.in_ok-never_fall.ensures.consistent)

pub returns-clause-consistent : goal.returns-clause-consistent
returns-clause-consistent c = rw c.deref.ensures.value at c.in_ok-never_fall.ensures.consistent
