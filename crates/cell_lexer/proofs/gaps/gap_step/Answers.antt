use Rattle.std.proofs.Common.{◌<◌, length, sym, ◌∙◌, arith}
use Rattle.cell_lexer.proofs.GapSteps.{one_space, one_comment}
use Rattle.cell_lexer.proofs.gaps.gap_step.Goals as goal

pub returns-in-35-clause-gap : goal.returns-in-35-clause-gap
returns-in-35-clause-gap c =
    let lt : c.args.place.at < length c.args.text.now = omega arith in
    one_comment _ _ _ lt c.step.ensures.next _ c.in-35.is c.comment_end.ensures.comment

pub returns-in_default-clause-gap : goal.returns-in_default-clause-gap
returns-in_default-clause-gap c =
    let lt : c.args.place.at < length c.args.text.now = omega arith in
    one_space _ _ _ lt c.step-in_default.ensures.next (sym c.is_space.ensures ∙ c.if-is_space.true)
