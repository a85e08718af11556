use Rattle.std.proofs.Common.{arith, true≢false, ◌≡◌, ◌^◌, ◌<◌, decimal, sym, subst, ℕ}
use Rattle.schedules.specs.Bytes.{BeginsPlainly}
use Rattle.schedules.proofs.Decimals.{begins_decimal, utf8_decimal, parsed_some, parsed_none}
use Rattle.schedules.proofs.line.plain_number.Goals as goal

pub returns-then-not-begins_plainly-clause-none : goal.returns-then-not-begins_plainly-clause-none
returns-then-not-begins_plainly-clause-none c =
    λ n small same. true≢false (sym (c.if-not-begins_plainly.ensures.1 (subst BeginsPlainly (sym same) (begins_decimal n (omega arith)))))

pub returns-in-Err-clause-none : goal.returns-in-Err-clause-none
returns-in-Err-clause-none c = λ n small same. c.in-Err.ensures.cases.0 (utf8_decimal n c.args.digits.now same (omega arith))

pub returns-in-Ok-clause-text : goal.returns-in-Ok-clause-text
returns-in-Ok-clause-text c = rw c.ok.ensures.value
    (parsed_some _ c.args.digits.now c.in-Ok.text.now c.parse.result (c.begins_plainly.ensures.0 c.if-not-begins_plainly.false)
    c.in-Ok.ensures.cases.0 c.parse.ensures.value.0)

pub returns-in-Ok-clause-none : goal.returns-in-Ok-clause-none
returns-in-Ok-clause-none c = rw c.ok.ensures.value
    (parsed_none _ c.args.digits.now c.in-Ok.text.now c.parse.result c.in-Ok.ensures.cases.0 c.parse.ensures.value.0)
