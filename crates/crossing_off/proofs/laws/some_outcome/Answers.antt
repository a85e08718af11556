use Rattle.crossing_off.proofs.SomeOrder.{some_order}
use Rattle.crossing_off.proofs.SomeWalk.{some_walk}
use Rattle.crossing_off.proofs.laws.some_outcome.Goals as goal

pub returns-clause-order : goal.returns-clause-order
returns-clause-order c = some_order

pub returns-clause-walk : goal.returns-clause-walk
returns-clause-walk c = some_walk
