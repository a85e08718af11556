use Rattle.array_runs.proofs.Arrays.{array_sure}
use Rattle.array_runs.proofs.laws.every_array_run_ends.Goals as goal

pub returns : goal.returns
returns g c = array_sure
