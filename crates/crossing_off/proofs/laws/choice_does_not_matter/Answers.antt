use Rattle.crossing_off.proofs.Exact.{same_left}
use Rattle.crossing_off.proofs.Whole.{may_all}
use Rattle.crossing_off.proofs.laws.choice_does_not_matter.Goals as goal

pub returns : goal.returns
returns c = λ s buffer any greedy sound may stuck is. same_left s buffer any greedy sound may stuck (may_all s buffer greedy is) is.stuck
