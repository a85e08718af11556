use Rattle.cell_lexer.proofs.ReadBack.{read_tokens, read_words, read_lines, space_separates, decimal_says}
use Rattle.cell_lexer.proofs.laws.read_back.Goals as goal

pub returns-clause-tokens : goal.returns-clause-tokens
returns-clause-tokens c = read_tokens

pub returns-clause-words : goal.returns-clause-words
returns-clause-words c = read_words

pub returns-clause-lines : goal.returns-clause-lines
returns-clause-lines c = read_lines

pub returns-clause-separators : goal.returns-clause-separators
returns-clause-separators c = space_separates

pub returns-clause-decimals : goal.returns-clause-decimals
returns-clause-decimals c = decimal_says
