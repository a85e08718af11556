use Rattle.array_runs.proofs.Slices.{slices_move}
use Rattle.array_runs.proofs.laws.queues_are_slices.Goals as goal

pub returns : goal.returns
returns g c = slices_move
