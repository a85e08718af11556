use Rattle.array_runs.proofs.GroupsCome.{groups_grouped}
use Rattle.array_runs.proofs.laws.groups_are_regular.Goals as goal

pub returns : goal.returns
returns c = groups_grouped
