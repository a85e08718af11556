use Rattle.labelling.proofs.SomeLabels as S
use Rattle.labelling.proofs.laws.some_proposal.Goals as goal

pub returns : goal.returns
returns c = S.some_proposal
