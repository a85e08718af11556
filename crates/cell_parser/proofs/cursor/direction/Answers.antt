use Rattle.std.proofs.Common.{sym}
use Rattle.cell_parser.specs.Lexeme.{lexemes}
use Rattle.cell_parser.proofs.Steps.{misses_dir, spells_no_dir}
use Rattle.cell_parser.proofs.cursor.direction.Goals as goal

pub returns-in_default-clause-wrong : goal.returns-in_default-clause-wrong
returns-in_default-clause-wrong c = misses_dir c.args.text.now c.args.tokens.now c.in_default.ensures.none c.unexpected.result c.unexpected.ensures

pub returns-in-None-clause-wrong : goal.returns-in-None-clause-wrong
returns-in-None-clause-wrong c =
    spells_no_dir c.args.text.now c.in-Some.bytes.now c.in-Some.field-0-1 c.args.tokens.now (lexemes c.args.text.now c.in-Some.rest.now) c.in-Some.ensures.some (sym c.in-None.ensures) c.unexpected-in-None.result c.unexpected-in-None.ensures
