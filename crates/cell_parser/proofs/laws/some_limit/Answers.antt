use Rattle.cell_parser.proofs.SomeOutcome.{kept_or_over}
use Rattle.cell_parser.proofs.laws.some_limit.Goals as goal

pub returns : goal.returns
returns c = kept_or_over
