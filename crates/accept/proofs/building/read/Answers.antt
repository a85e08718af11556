use Rattle.accept.specs.bodies.Reading.{misplaced}
use Rattle.accept.proofs.Refused.{misplaced_refused, handed_on}
use Rattle.accept.specs.bodies.Answers.{IsUnread}
use Rattle.accept.proofs.building.read.Goals as goal

pub returns-in_err-parse-clause-refused : goal.returns-in_err-parse-clause-refused
returns-in_err-parse-clause-refused c =
    handed_on (IsUnread c.args.text.now) _ (misplaced c.in_err-parse.field-0.0) c.from_residual-in_err-parse.ensures.1
    (misplaced_refused c.args.text.now c.requires c.laws_below.ensures.apart c.laws_below.ensures.tokens
    c.in_ok-tokens.tokens.items c.in_ok-tokens.ensures.tokens c.in_err-parse.field-0.0
    (rw c.deref.ensures.value at c.in_err-parse.ensures.refused))
