use Rattle.accept.proofs.AllLabels.{for_all}
use Rattle.accept.proofs.need_laws.too_few_for_all_labels.Goals as goal

pub returns : goal.returns
returns c = for_all c.proposed_labels_need_least.ensures c.links_fit_by_need.ensures
