use Rattle.accept.proofs.SomeRefusal.{tried}
use Rattle.accept.proofs.laws.accepted_or_refused.Goals as goal

pub returns : goal.returns
returns c = tried c.laws_below.ensures c.existence_below.ensures
