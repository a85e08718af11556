use Rattle.accept.proofs.NeedAnswers.{some_answer}
use Rattle.accept.proofs.SomeRefusal.{tried}
use Rattle.accept.proofs.need_laws.some_answer_of_needs.Goals as goal

pub returns : goal.returns
returns c =
    let laws = c.laws_below.ensures in
    let exist = c.existence_below.ensures in
    some_answer laws exist (tried laws exist)
