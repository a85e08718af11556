use Rattle.cell_types.proofs.Sizes.{program_small}
use Rattle.cell_types.proofs.laws.few_instructions.Goals as goal

pub returns : goal.returns
returns c = program_small
