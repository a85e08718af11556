use Rattle.queue_plan.proofs.Finer.{finer_law}
use Rattle.queue_plan.proofs.laws.finer_labels_need_no_more.Goals as goal

pub returns : goal.returns
returns c = finer_law
