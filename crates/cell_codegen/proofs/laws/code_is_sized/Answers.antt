use Rattle.cell_codegen.proofs.Sizes.{cell_sized}
use Rattle.cell_codegen.proofs.laws.code_is_sized.Goals as goal

pub returns : goal.returns
returns c = cell_sized
