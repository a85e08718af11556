use Rattle.crossing_off.proofs.Whole.{whole_order}
use Rattle.crossing_off.proofs.laws.nothing_left_is_an_order.Goals as goal

pub returns : goal.returns
returns c = whole_order
