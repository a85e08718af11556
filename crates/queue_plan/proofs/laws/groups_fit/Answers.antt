use Rattle.queue_plan.proofs.Fits.{fits_law}
use Rattle.queue_plan.proofs.laws.groups_fit.Goals as goal

pub returns : goal.returns
returns c = fits_law
