use Rattle.std.proofs.Common.{arith}
use Rattle.schedules.proofs.Decimals.{narrow_none}
use Rattle.schedules.proofs.line.number_of.Goals as goal

pub returns-clause-none : goal.returns-clause-none
returns-clause-none c = rw c.ok.ensures.value
    (narrow_none _ _ c.args.digits.now c.in_ok-plain_number.field-0 _ c.try_from.result (λ small. omega (arith, small)) (omega arith)
    c.in_ok-plain_number.ensures.text c.try_from.ensures)
