use Rattle.cell_parser.proofs.ReadPrintable.{read_printable}
use Rattle.cell_parser.proofs.laws_printed.read_is_printable.Goals as goal

pub returns : goal.returns
returns c = read_printable c.read_back.ensures.separators c.read_back.ensures.decimals
