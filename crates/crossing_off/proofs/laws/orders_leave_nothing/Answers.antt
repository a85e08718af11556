use Rattle.crossing_off.proofs.Exact.{nothing_left}
use Rattle.crossing_off.proofs.Runs.{holds_all}
use Rattle.crossing_off.proofs.Whole.{may_all}
use Rattle.crossing_off.proofs.laws.orders_leave_nothing.Goals as goal

pub returns : goal.returns
returns c = λ s buffer order greedy sound is rule.
    nothing_left s buffer order greedy sound is (holds_all s buffer greedy sound (may_all s buffer greedy rule)) rule.stuck
