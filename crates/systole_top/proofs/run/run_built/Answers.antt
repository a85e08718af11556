use Rattle.systole_top.proofs.Trees.{step_then}
use Rattle.systole_top.proofs.run.run_built.Goals as goal

pub returns : goal.returns
returns g c = step_then _ c.in_ok-given.ensures.given c.run_given.ensures
