use Rattle.labelling.proofs.Closed.{below_from_all}
use Rattle.labelling.proofs.Proposals.{consistent}
use Rattle.labelling.proofs.laws.proposed_are_consistent.Goals as goal

pub returns : goal.returns
returns c = λ lists count labels all. consistent lists count labels (below_from_all lists count all)
