use Rattle.cell_types.specs.Typed.{plain}
use Rattle.accept.specs.bodies.Answers.{IsFound}
use Rattle.accept.specs.FirstRefusal.{IsFirstOf, cell_trials}
use Rattle.accept.proofs.Judged.{cells_pass, stalled_first}
use Rattle.accept.proofs.Refused.{handed_on}
use Rattle.accept.proofs.judging.ordered.Goals as goal

pub returns-in_err-order-clause-refused : goal.returns-in_err-order-clause-refused
returns-in_err-order-clause-refused c =
    let p = plain c.args.program.now in
    handed_on (IsFound (IsFirstOf cell_trials) p) _ c.in_err-order.field-0.0 c.from_residual-in_err-order.ensures.1
    (stalled_first c.laws_below.ensures p c.in-Some.ensures.1 ((c.laws_below.ensures.alike p).0 c.in_ok-seqs.ensures.sequences.0)
    c.in_err-order.field-0.0 c.in_err-order.ensures.refused)

pub returns-clause-passes : goal.returns-clause-passes
returns-clause-passes c =
    let p = plain c.args.program.now in
    cells_pass c.laws_below.ensures p c.in-Some.ensures.1 ((c.laws_below.ensures.alike p).0 c.in_ok-seqs.ensures.sequences.0)
    c.in_ok-order.order c.in_ok-order.ensures.empty
