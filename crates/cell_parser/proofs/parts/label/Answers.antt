use Rattle.std.proofs.Common.{Some, None, ap, ◌∙◌}
use Rattle.std.proofs.lemmas.Result.{err_from_is_err_and}
use Rattle.cell_parser.specs.Lexeme.{lexemes}
use Rattle.cell_parser.specs.Inner.Machine.{Label, run}
use Rattle.cell_parser.proofs.DeclarationSteps.{label_pass}
use Rattle.cell_parser.proofs.parts.label.Goals as goal

pub returns-in_err-label-clause-wrong : goal.returns-in_err-label-clause-wrong
returns-in_err-label-clause-wrong c =
    let p = err_from_is_err_and c.from_residual.result c.from_residual.ensures.1 in
    rw (p.1, p.2) (λ text left at k. ap (run (Label k)) (c.in-Some.ensures.some text) ∙ c.in_err-label.ensures.wrong text left at (λ n. k (Some n)))

pub returns-in-Some-clause-read : goal.returns-in-Some-clause-read
returns-in-Some-clause-read c = λ text k.
    ap (run (Label k)) (c.in-Some.ensures.some text) ∙ c.in_ok-label.ensures.read text (λ n. k (Some n))

pub returns-in-Some-clause-kept : goal.returns-in-Some-clause-kept
returns-in-Some-clause-kept c = λ text are. c.in_ok-label.ensures.kept text (c.in-Some.ensures.kept text are)

pub returns-in_err-rest-clause-wrong : goal.returns-in_err-rest-clause-wrong
returns-in_err-rest-clause-wrong c =
    let p = err_from_is_err_and c.from_residual-in_err-rest.result c.from_residual-in_err-rest.ensures.1 in
    rw (p.1, p.2) (λ text left at k. label_pass k (lexemes text c.args.tokens.now) (c.in_default.ensures.none text) ∙ c.in_err-rest.ensures.wrong text left at (k None))

pub returns-clause-read : goal.returns-clause-read
returns-clause-read c = λ text k.
    label_pass k (lexemes text c.args.tokens.now) (c.in_default.ensures.none text) ∙ c.in_ok-rest.ensures.read text (k None)
