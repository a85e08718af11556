use Rattle.systole_top.proofs.Judging.{first_only, lines_only}
use Rattle.systole_top.proofs.judgement.judge_needs.Goals as goal

pub returns-in-Ok : goal.returns-in-Ok
returns-in-Ok c =
    let law = c.one_answer_of_needs.ensures in
    lines_only law.lines law.refusal law.apart c.args.text.now _ c.in-Ok.ensures.needs

pub returns-in-Err-Refused : goal.returns-in-Err-Refused
returns-in-Err-Refused c =
    let law = c.one_answer_of_needs.ensures in
    first_only law.lines law.refusal law.apart c.args.text.now c.in-Err-Refused.refusal
    (rw c.in-Err-Refused.field-0-is at c.in-Err-Refused.ensures.refused)
