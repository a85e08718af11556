use Rattle.cell_parser.proofs.Unlined.{same_text}
use Rattle.cell_parser.proofs.laws_printed.lines_are_not_printed.Goals as goal

pub returns : goal.returns
returns c = same_text
