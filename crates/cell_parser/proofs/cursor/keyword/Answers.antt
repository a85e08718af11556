use Rattle.cell_parser.proofs.Steps.{misses_key}
use Rattle.cell_parser.proofs.cursor.keyword.Goals as goal

pub returns-in-None-clause-wrong : goal.returns-in-None-clause-wrong
returns-in-None-clause-wrong c = λ text. misses_key text c.args.key c.args.tokens.now (c.in-None.ensures.none text) c.unexpected.result c.unexpected.ensures
