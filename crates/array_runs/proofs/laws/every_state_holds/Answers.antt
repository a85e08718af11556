use Rattle.array_runs.proofs.Always.{holds_always}
use Rattle.array_runs.proofs.laws.every_state_holds.Goals as goal

pub returns : goal.returns
returns g c = holds_always
