use Rattle.array_runs.proofs.Enabling.{enabled_is}
use Rattle.array_runs.proofs.laws.enabled_actors_are_listed.Goals as goal

pub returns : goal.returns
returns g c = enabled_is
