use Rattle.systole_top.proofs.Trees.{step_shows}
use Rattle.systole_top.proofs.need.need.Goals as goal

pub returns : goal.returns
returns g c = step_shows _ c.in_ok-judgement.ensures c.need_reply.ensures
