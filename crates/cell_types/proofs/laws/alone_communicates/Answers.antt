use Rattle.cell_types.proofs.SoloMade.{made_alone}
use Rattle.cell_types.proofs.laws.alone_communicates.Goals as goal

pub returns : goal.returns
returns c = made_alone
