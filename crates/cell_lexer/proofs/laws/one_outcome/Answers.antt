use Rattle.cell_lexer.proofs.OneOutcome.{one_tokens, one_first_fault, tokens_no_fault}
use Rattle.cell_lexer.proofs.laws.one_outcome.Goals as goal

pub returns-clause-tokens : goal.returns-clause-tokens
returns-clause-tokens c = one_tokens

pub returns-clause-faults : goal.returns-clause-faults
returns-clause-faults c = one_first_fault

pub returns-clause-apart : goal.returns-clause-apart
returns-clause-apart c = tokens_no_fault
