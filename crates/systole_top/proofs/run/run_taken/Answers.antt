use Rattle.systole_top.proofs.Trees.{step_shows}
use Rattle.systole_top.proofs.run.run_taken.Goals as goal

pub returns : goal.returns
returns g c = step_shows _ c.in_ok-choice.ensures.given c.run_reply.ensures
