use Rattle.cell_parser.proofs.FirstWrongs.{one_source}
use Rattle.cell_parser.proofs.laws.one_program.Goals as goal

pub returns : goal.returns
returns c = one_source
