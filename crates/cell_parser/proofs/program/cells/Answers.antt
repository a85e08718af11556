use Rattle.std.proofs.Common.{◌∙◌}
use Rattle.cell_parser.specs.Inner.Declaring.{with_cells}
use Rattle.cell_parser.specs.Lexeme.{lexemes}
use Rattle.cell_parser.specs.Inner.Machine.{Cells}
use Rattle.cell_parser.proofs.DeclarationSteps.{cells_stuck, some_lexeme}
use Rattle.cell_parser.proofs.Steps.{stops}
use Rattle.cell_parser.proofs.program.cells.Goals as goal

pub cell-requires : goal.cell-requires
cell-requires c = c.in-Some.ensures.kept c.args.text.now c.each.invariant.kept

pub returns-else-is_empty-clause-wrong : goal.returns-else-is_empty-clause-wrong
returns-else-is_empty-clause-wrong c = λ s left at.
    let text = c.args.text.now in
    let rest = c.each.rest.now in
    let state = Cells (with_cells s c.each.cells) in
    let stuck = cells_stuck (with_cells s c.each.cells) (lexemes text rest) (some_lexeme text rest c.if-is_empty.ensures) (c.in_default.ensures.none text) in
    c.each.invariant.comes s ∙ stops text rest state stuck c.unexpected.result c.unexpected.ensures left at
