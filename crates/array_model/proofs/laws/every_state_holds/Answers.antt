use Rattle.array_model.proofs.Always.{always}
use Rattle.array_model.proofs.laws.every_state_holds.Goals as goal

pub returns : goal.returns
returns c = always
