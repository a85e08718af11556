use Rattle.sys_base.specs.Bytes.{is_digit}
use Rattle.cell_lexer.proofs.Fronts.{Run, run_digits, run_longest_digits}
use Rattle.cell_lexer.proofs.numbers.number_at.Goals as goal
use Rattle.cell_lexer.proofs.numbers.number_at.Goals.{After-digits_len-len}

counted : (c : After-digits_len-len) → Run is_digit c.args.rest.now c.digits_len-len.result
counted c = record { inside = c.digits_len-len.ensures.inside; each = c.digits_len-len.ensures.each; stop = c.digits_len-len.ensures.stop }

pub returns-in-Some-clause-longest : goal.returns-in-Some-clause-longest
returns-in-Some-clause-longest c =
    run_longest_digits _ _ (counted (goal.at.returns-in-Some-clause-longest c).After-digits_len-len) c.requires

pub returns-in-None-clause-flaw : goal.returns-in-None-clause-flaw
returns-in-None-clause-flaw c =
    let run = counted (goal.at.returns-in-None-clause-flaw c).After-digits_len-len in
    (c.digits_len-len.result, record { longest = run_longest_digits _ _ run c.requires; digits = run_digits _ _ run c.requires; big = c.in-None.ensures.big })
