use Rattle.labelling.proofs.Proposals.{equal_labels}
use Rattle.labelling.proofs.laws.equal_where_neither_is_later.Goals as goal

pub returns : goal.returns
returns c = equal_labels
