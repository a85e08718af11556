use Rattle.std.proofs.Common.{◌∙◌}
use Rattle.std.proofs.lemmas.Result.{err_from_is_err_and}
use Rattle.cell_lexer.specs.declared.token.Mark.TheVariants as M
use Rattle.cell_tree.specs.declared.statement.Act.TheVariants as A
use Rattle.cell_parser.specs.Inner.Machine.{ExpectName, mark, stated}
use Rattle.cell_parser.proofs.statement.read.Goals as goal

pub returns-in_err-rest-clause-wrong : goal.returns-in_err-rest-clause-wrong
returns-in_err-rest-clause-wrong c =
    let p = err_from_is_err_and c.from_residual-in_err-rest.result c.from_residual-in_err-rest.ensures.1 in
    rw (p.1, p.2) (λ left at l b around.
    c.in_ok-message.ensures.read (λ m. ExpectName (λ n. mark M.Semicolon (stated l (A.Read m n) b around)))
    ∙ c.in_ok-name.ensures.read (λ n. mark M.Semicolon (stated l (A.Read c.in_ok-message.message n) b around))
    ∙ c.in_err-rest.ensures.wrong c.args.text.now left at (stated l (A.Read c.in_ok-message.message c.in_ok-name.name) b around))
