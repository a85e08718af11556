use Rattle.array_runs.proofs.Sure.{sure}
use Rattle.array_runs.proofs.laws.every_run_ends.Goals as goal

pub returns : goal.returns
returns c = sure
