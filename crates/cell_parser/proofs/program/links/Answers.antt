use Rattle.std.proofs.Common.{◌∙◌}
use Rattle.cell_parser.specs.Inner.Declaring.{with_links}
use Rattle.cell_parser.specs.Lexeme.{lexemes}
use Rattle.cell_parser.proofs.DeclarationSteps.{links_pass}
use Rattle.cell_parser.proofs.program.links.Goals as goal

pub link-requires : goal.link-requires
link-requires c = c.in-Some.ensures.kept c.args.text.now c.each.invariant.kept

pub returns-clause-read : goal.returns-clause-read
returns-clause-read c = λ s.
    let text = c.args.text.now in
    c.each.invariant.comes s ∙ links_pass (with_links s c.each.links) (lexemes text c.each.rest.now) (c.in_default.ensures.none text)
