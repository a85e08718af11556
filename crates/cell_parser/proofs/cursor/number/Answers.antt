use Rattle.cell_parser.proofs.Steps.{misses_number}
use Rattle.cell_parser.proofs.cursor.number.Goals as goal

pub returns-in-None-clause-wrong : goal.returns-in-None-clause-wrong
returns-in-None-clause-wrong c = λ text. misses_number text c.args.tokens.now (c.in-None.ensures.none text) c.unexpected.result c.unexpected.ensures
