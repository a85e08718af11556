use Rattle.systole_top.proofs.Trees.{step_shows}
use Rattle.systole_top.proofs.given.given_in.Goals as goal

pub returns-clause-given : goal.returns-clause-given
returns-clause-given g c = step_shows _ c.in_ok-bytes.ensures.read c.given_of.ensures.shows
