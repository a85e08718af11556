use Rattle.array_model.proofs.Always.{listed}
use Rattle.array_model.proofs.laws.enabled_actors_are_listed.Goals as goal

pub returns : goal.returns
returns c = listed
