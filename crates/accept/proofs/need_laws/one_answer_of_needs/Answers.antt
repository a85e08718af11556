use Rattle.accept.proofs.NeedAnswers.{lines_or_refusal, one_lines, one_need_refusal}
use Rattle.accept.proofs.need_laws.one_answer_of_needs.Goals as goal

pub returns-clause-lines : goal.returns-clause-lines
returns-clause-lines c = one_lines c.laws_below.ensures

pub returns-clause-refusal : goal.returns-clause-refusal
returns-clause-refusal c = one_need_refusal c.laws_below.ensures

pub returns-clause-apart : goal.returns-clause-apart
returns-clause-apart c = lines_or_refusal
