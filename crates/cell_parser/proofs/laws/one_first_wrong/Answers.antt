use Rattle.cell_parser.proofs.FirstWrongs.{one_first, none_wrong}
use Rattle.cell_parser.proofs.laws.one_first_wrong.Goals as goal

pub returns-clause-one : goal.returns-clause-one
returns-clause-one c = one_first

pub returns-clause-none : goal.returns-clause-none
returns-clause-none c = none_wrong
