use Rattle.labelling.proofs.Finest.{finest}
use Rattle.labelling.proofs.laws.proposed_labels_are_finest.Goals as goal

pub returns : goal.returns
returns c = finest
