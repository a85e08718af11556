use Rattle.std.proofs.Common.{◌∙◌}
use Rattle.cell_parser.specs.Inner.Declaring.{with_vars}
use Rattle.cell_parser.specs.Lexeme.{lexemes}
use Rattle.cell_parser.proofs.DeclarationSteps.{vars_pass}
use Rattle.cell_parser.proofs.declaration.variables.Goals as goal

pub variable-requires : goal.variable-requires
variable-requires c = c.in-Some.ensures.kept c.args.text.now c.each.invariant.kept

pub returns-clause-read : goal.returns-clause-read
returns-clause-read c = λ s d.
    let text = c.args.text.now in
    c.each.invariant.comes s d ∙ vars_pass s (with_vars d c.each.vars) (lexemes text c.each.rest.now) (c.in_default.ensures.none text)
