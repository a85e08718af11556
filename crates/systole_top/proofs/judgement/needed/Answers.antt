use Rattle.systole_top.proofs.Trees.{step_shows}
use Rattle.systole_top.proofs.judgement.needed.Goals as goal

pub returns : goal.returns
returns g c = step_shows _ c.in_ok-text.ensures.read c.needs_of.ensures
