use Rattle.cell_lexer.proofs.SomeOutcome.{tokens_or_fault}
use Rattle.cell_lexer.proofs.laws.some_outcome.Goals as goal

pub returns : goal.returns
returns c = tokens_or_fault
