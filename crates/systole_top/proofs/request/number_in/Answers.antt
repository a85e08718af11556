use Rattle.std.proofs.Common.{arith}
use Rattle.systole_top.proofs.Numbers.{number_out, number_some}
use Rattle.systole_top.proofs.request.number_in.Goals as goal

pub returns-then-number-least-clause-value : goal.returns-then-number-least-clause-value
returns-then-number-least-clause-value c =
    number_out c.args.least c.args.most c.args.word.now c.in_ok-number.number (omega arith) (rw c.as_bytes.ensures.value at c.in_ok-number.ensures.text)
    (λ above below. omega (arith, above, c.if-number-least.true))

pub returns-then-most-number-clause-value : goal.returns-then-most-number-clause-value
returns-then-most-number-clause-value c =
    number_out c.args.least c.args.most c.args.word.now c.in_ok-number.number (omega arith) (rw c.as_bytes.ensures.value at c.in_ok-number.ensures.text)
    (λ above below. omega (arith, below, c.if-most-number.true))

pub returns-clause-value : goal.returns-clause-value
returns-clause-value c =
    number_some c.args.least c.args.most c.args.word.now c.in_ok-number.number (omega arith) (rw c.as_bytes.ensures.value at c.in_ok-number.ensures.text)
    (omega (arith, c.if-number-least.false)) (omega (arith, c.if-most-number.false))
