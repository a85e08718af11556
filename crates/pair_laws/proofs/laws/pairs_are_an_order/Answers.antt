use Rattle.pair_laws.proofs.Texts.{generated_ordered, generated_unbuffered}
use Rattle.pair_laws.proofs.laws.pairs_are_an_order.Goals as goal

pub returns-clause-buffer : goal.returns-clause-buffer
returns-clause-buffer c = generated_unbuffered c.laws_below.ensures c.more_laws_below.ensures

pub returns-clause-order : goal.returns-clause-order
returns-clause-order c = generated_ordered c.laws_below.ensures c.more_laws_below.ensures
