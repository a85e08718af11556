use Rattle.cell_parser.proofs.Steps.{misses_name}
use Rattle.cell_parser.proofs.cursor.name.Goals as goal

pub returns-in-None-clause-wrong : goal.returns-in-None-clause-wrong
returns-in-None-clause-wrong c = misses_name c.args.text.now c.args.tokens.now c.in-None.ensures.none c.unexpected.result c.unexpected.ensures
