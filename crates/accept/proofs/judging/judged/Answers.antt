use Rattle.cell_types.specs.Typed.{plain}
use Rattle.accept.specs.bodies.Answers.{IsFound}
use Rattle.accept.specs.FirstRefusal.{IsFirstOf, cell_trials, label_trials, program_trials}
use Rattle.accept.proofs.Refused.{handed_on}
use Rattle.accept.proofs.Trials.{then_found, then_passes}
use Rattle.accept.proofs.judging.judged.Goals as goal

pub returns-in_err-plan-clause-refused : goal.returns-in_err-plan-clause-refused
returns-in_err-plan-clause-refused c =
    let p = plain c.args.program in
    handed_on (IsFound (IsFirstOf program_trials) p) _ c.in_err-plan.field-0.0 c.from_residual-in_err-plan.ensures.1
    (then_found cell_trials label_trials p c.in_err-plan.field-0.0 c.in_ok-seqs.ensures.passes c.in_err-plan.ensures.refused)

pub returns-clause-passes : goal.returns-clause-passes
returns-clause-passes c =
    then_passes cell_trials label_trials (plain c.args.program) c.in_ok-seqs.ensures.passes c.in_ok-plan.ensures.passes

pub returns-clause-judged : goal.returns-clause-judged
returns-clause-judged c = c.in_ok-plan.ensures.judged c.in_ok-seqs.field-0.order c.in_ok-seqs.ensures.empty
