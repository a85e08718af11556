use Rattle.std.proofs.Common.{codes}
use Rattle.cell_parser.specs.Lexeme.{Named}
use Rattle.cell_parser.proofs.Steps.{misses}
use Rattle.cell_parser.proofs.cursor.expect_x.Goals as goal

pub returns-in-None-clause-wrong : goal.returns-in-None-clause-wrong
returns-in-None-clause-wrong c = misses c.args.text.now (Named (codes "x")) c.args.tokens.now c.in-None.ensures.none c.unexpected.result c.unexpected.ensures
