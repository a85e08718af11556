use Rattle.cell_parser.specs.Lexeme.{lexemes}
use Rattle.cell_parser.proofs.DeclarationSteps.{buffer_pass}
use Rattle.cell_parser.proofs.program.buffer.Goals as goal

pub returns-clause-read : goal.returns-clause-read
returns-clause-read c = λ text f. buffer_pass f (lexemes text c.args.tokens.now) (c.in_default.ensures.none text)
