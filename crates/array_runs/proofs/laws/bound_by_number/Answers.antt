use Rattle.array_runs.proofs.GroupNumbers.{held_group}
use Rattle.array_runs.proofs.laws.bound_by_number.Goals as goal

pub returns : goal.returns
returns c = held_group
