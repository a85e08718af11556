use Rattle.systole_top.proofs.Trees.{step_shows}
use Rattle.systole_top.proofs.mean.meant_by.Goals as goal

pub returns : goal.returns
returns g c = step_shows _ c.in_ok-given.ensures.given c.mean_reply.ensures
