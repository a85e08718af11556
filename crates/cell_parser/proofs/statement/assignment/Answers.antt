use Rattle.cell_parser.specs.Lexeme.{lexemes}
use Rattle.cell_parser.specs.Inner.Machine.{Target}
use Rattle.cell_parser.proofs.Steps.{stops, target_lacks}
use Rattle.cell_parser.proofs.statement.assignment.Goals as goal

pub returns-in-None-clause-wrong : goal.returns-in-None-clause-wrong
returns-in-None-clause-wrong c = λ left at l b around.
    stops c.args.text.now c.args.tokens.now (Target l c.args.name b around)
    (target_lacks l c.args.name b around (lexemes c.args.text.now c.args.tokens.now) (c.in_default.ensures.none c.args.text.now) (c.in-None.ensures.none c.args.text.now))
    c.unexpected.result c.unexpected.ensures left at
