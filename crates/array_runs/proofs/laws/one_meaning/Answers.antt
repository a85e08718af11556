use Rattle.array_runs.proofs.Unique.{one_meaning}
use Rattle.array_runs.proofs.laws.one_meaning.Goals as goal

pub returns : goal.returns
returns g c = one_meaning
