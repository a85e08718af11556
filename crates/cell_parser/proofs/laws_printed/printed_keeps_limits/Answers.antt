use Rattle.cell_parser.proofs.PrintedLimits.{printed_kept}
use Rattle.cell_parser.proofs.laws_printed.printed_keeps_limits.Goals as goal

pub returns : goal.returns
returns c = printed_kept c.read_back.ensures.separators c.read_back.ensures.decimals c.read_back.ensures.tokens c.one_outcome.ensures.tokens
