use Rattle.cell_lexer.proofs.FewTokens.{few_tokens}
use Rattle.cell_lexer.proofs.Outcomes.{each_inside}
use Rattle.cell_lexer.proofs.laws.few_tokens.Goals as goal

pub returns-clause-inside : goal.returns-clause-inside
returns-clause-inside c = each_inside

pub returns-clause-few : goal.returns-clause-few
returns-clause-few c = few_tokens
