use Rattle.labelling.proofs.Proposals.{one_proposal}
use Rattle.labelling.proofs.laws.one_proposal.Goals as goal

pub returns : goal.returns
returns c = one_proposal
