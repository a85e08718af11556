use Rattle.std.proofs.Common.{None, ◌∙◌}
use Rattle.std.proofs.lemmas.Result.{err_from_is_err_and}
use Rattle.cell_parser.specs.Lexeme.{lexemes}
use Rattle.cell_parser.proofs.DeclarationSteps.{length_pass}
use Rattle.cell_parser.proofs.parts.length.Goals as goal

pub returns-in-Some-clause-kept : goal.returns-in-Some-clause-kept
returns-in-Some-clause-kept c = λ text are.
    c.in_ok-rest-2.ensures.kept text (c.in_ok-rest.ensures.kept text (c.in_ok-length.ensures.kept text (c.in-Some.ensures.kept text are)))

pub returns-in_err-rest-3-clause-wrong : goal.returns-in_err-rest-3-clause-wrong
returns-in_err-rest-3-clause-wrong c =
    let p = err_from_is_err_and c.from_residual-in_err-rest-3.result c.from_residual-in_err-rest-3.ensures.1 in
    rw (p.1, p.2) (λ text left at k. length_pass k (lexemes text c.args.tokens.now) (c.in_default.ensures.none text) ∙ c.in_err-rest-3.ensures.wrong text left at (k None))

pub returns-clause-read : goal.returns-clause-read
returns-clause-read c = λ text k.
    length_pass k (lexemes text c.args.tokens.now) (c.in_default.ensures.none text) ∙ c.in_ok-rest-3.ensures.read text (k None)
