use Rattle.std.proofs.Common.{arith}
use Rattle.cell_lexer.specs.Gaps.{none}
use Rattle.cell_lexer.proofs.OneGap.{gap_then}
use Rattle.cell_lexer.proofs.gaps.gap_end.Goals as goal

pub gap-preserved : goal.gap-preserved
gap-preserved c = record {
  here = c.in-Some.ensures.place;
  onward = omega (arith, c.in-Some.ensures.onward);
  before = λ rest more. c.gap.invariant.before rest (gap_then _ _ _ c.in-Some.ensures.gap more);
}

pub returns-clause-gap : goal.returns-clause-gap
returns-clause-gap c = c.gap.invariant.before _ none
