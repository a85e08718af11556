use Rattle.std.proofs.Common.{sym, ◌∙◌}
use Rattle.cell_parser.specs.Lexeme.{lexemes}
use Rattle.cell_parser.specs.Inner.Machine.{Dirs}
use Rattle.cell_parser.proofs.Steps.{stops}
use Rattle.cell_parser.proofs.DeclarationSteps.{dirs_pass, dirs_stuck}
use Rattle.cell_parser.proofs.parts.dirs.Goals as goal

pub returns-in_default-dir_of-clause-wrong : goal.returns-in_default-dir_of-clause-wrong
returns-in_default-dir_of-clause-wrong c = λ f left at.
    let text = c.args.text.now in
    let rest = c.each.rest.now in
    let stuck = dirs_stuck c.each.dirs f c.in-Some.bytes.now c.in-Some.field-0-1 (lexemes text rest) (lexemes text c.in-Some.after.now) c.in-Some.ensures.some (sym c.in_default-dir_of.ensures) in
    c.each.invariant.comes f ∙ stops text rest (Dirs c.each.dirs f) stuck c.unexpected.result c.unexpected.ensures left at

pub returns-clause-read : goal.returns-clause-read
returns-clause-read c = λ f.
    c.each.invariant.comes f ∙ dirs_pass c.each.dirs f (lexemes c.args.text.now c.each.rest.now) c.in_default.ensures.none
