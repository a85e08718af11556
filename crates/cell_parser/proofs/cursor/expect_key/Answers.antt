use Rattle.cell_parser.specs.Lexeme.{Keyword}
use Rattle.cell_parser.proofs.Steps.{misses}
use Rattle.cell_parser.proofs.cursor.expect_key.Goals as goal

pub returns-in-None-clause-wrong : goal.returns-in-None-clause-wrong
returns-in-None-clause-wrong c = λ text. misses text (Keyword c.args.key) c.args.tokens.now (c.in-None.ensures.none text) c.unexpected.result c.unexpected.ensures
