use Rattle.cell_parser.proofs.ToldReadBack.{canonical_tokens, canonical_stands, canonical_reads}
use Rattle.cell_parser.proofs.laws_printed.printed_text_reads_back.Goals as goal

pub returns-clause-tokens : goal.returns-clause-tokens
returns-clause-tokens c s p =
    (canonical_tokens s, canonical_stands c.read_back.ensures.separators c.read_back.ensures.decimals c.read_back.ensures.tokens s p)

pub returns-clause-reads : goal.returns-clause-reads
returns-clause-reads c =
    canonical_reads c.read_back.ensures.separators c.read_back.ensures.decimals c.read_back.ensures.tokens
    c.read_back.ensures.words c.one_outcome.ensures.tokens
