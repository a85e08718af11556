use Rattle.std.proofs.Common.{sym, ap, ◌∙◌}
use Rattle.cell_parser.specs.Lexeme.{lexemes}
use Rattle.cell_parser.specs.Inner.Machine.{Label, run}
use Rattle.cell_parser.proofs.DeclarationSteps.{route_pass}
use Rattle.cell_parser.proofs.parts.route.Goals as goal

pub dirs-requires : goal.dirs-requires
dirs-requires c = c.in-Some.ensures.kept c.args.text.now c.requires

pub returns-in-None-clause-read : goal.returns-in-None-clause-read
returns-in-None-clause-read c = λ f.
    let xs = lexemes c.args.text.now c.args.tokens.now in
    route_pass f xs (c.in-None.ensures.none c.args.text.now) ∙ ap (λ ds. run (Label (λ o. f ds o)) xs) (sym c.new.ensures)
