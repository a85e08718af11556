use Rattle.crossing_off.proofs.OneOrder.{one_order}
use Rattle.crossing_off.proofs.laws.one_greedy_order.Goals as goal

pub returns : goal.returns
returns c = one_order
