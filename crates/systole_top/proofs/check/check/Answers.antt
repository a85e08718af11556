use Rattle.systole_top.proofs.Trees.{step_shows}
use Rattle.systole_top.proofs.check.check.Goals as goal

pub returns : goal.returns
returns g c = step_shows _ c.in_ok-judgement.ensures.judged c.check_reply.ensures
