use Rattle.cell_lexer.proofs.Spellings.{one_mark, one_key}
use Rattle.cell_lexer.proofs.laws.one_spelling.Goals as goal

pub returns-clause-marks : goal.returns-clause-marks
returns-clause-marks c = one_mark

pub returns-clause-keys : goal.returns-clause-keys
returns-clause-keys c = one_key
