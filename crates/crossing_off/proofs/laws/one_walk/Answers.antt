use Rattle.crossing_off.proofs.OneWalk.{same_walk}
use Rattle.crossing_off.proofs.laws.one_walk.Goals as goal

pub returns : goal.returns
returns c = same_walk
