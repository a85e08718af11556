use Rattle.cell_types.proofs.FewCommunications.{block_within, cells_within}
use Rattle.cell_types.proofs.laws.few_communications.Goals as goal

pub returns-clause-block : goal.returns-clause-block
returns-clause-block c = block_within

pub returns-clause-cells : goal.returns-clause-cells
returns-clause-cells c = λ program. cells_within program.cells
