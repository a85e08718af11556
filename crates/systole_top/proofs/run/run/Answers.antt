use Rattle.systole_top.proofs.Trees.{step_then}
use Rattle.systole_top.proofs.run.run.Goals as goal

pub returns : goal.returns
returns g c = step_then _ c.in_ok-judgement.ensures.judged c.run_judged.ensures
