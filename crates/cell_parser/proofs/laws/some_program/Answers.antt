use Rattle.cell_parser.proofs.SomeOutcome.{read_or_wrong}
use Rattle.cell_parser.proofs.laws.some_program.Goals as goal

pub returns : goal.returns
returns c = read_or_wrong
