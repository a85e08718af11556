use Rattle.queue_plan.proofs.Finer.{fit_law}
use Rattle.queue_plan.proofs.laws.links_fit_by_need.Goals as goal

pub returns : goal.returns
returns c = fit_law
