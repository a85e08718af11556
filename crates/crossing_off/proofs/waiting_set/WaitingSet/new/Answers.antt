use Rattle.std.proofs.Common.{refl}
use Rattle.crossing_off.proofs.WaitingSets.{none_set}
use Rattle.crossing_off.proofs.waiting_set.WaitingSet.new.Goals as goal

pub returns : goal.returns
returns c = none_set _ 8 refl
