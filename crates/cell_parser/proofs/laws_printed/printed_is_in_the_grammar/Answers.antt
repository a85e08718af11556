use Rattle.cell_parser.proofs.SaidSources.{source_said}
use Rattle.cell_parser.proofs.ToldPieces.{source_spelt}
use Rattle.cell_parser.proofs.laws_printed.printed_is_in_the_grammar.Goals as goal

pub returns-clause-spelt : goal.returns-clause-spelt
returns-clause-spelt c = source_spelt

pub returns-clause-reads : goal.returns-clause-reads
returns-clause-reads c = source_said
