use Rattle.labelling.proofs.SomeLabels as S
use Rattle.labelling.proofs.laws.consistent_or_fall.Goals as goal

pub returns : goal.returns
returns c = S.consistent_or_fall
