use Rattle.pair_laws.proofs.Texts.{generated_accepted}
use Rattle.pair_laws.proofs.laws.generated_sources_are_accepted.Goals as goal

pub returns : goal.returns
returns c = generated_accepted c.laws_below.ensures c.more_laws_below.ensures
