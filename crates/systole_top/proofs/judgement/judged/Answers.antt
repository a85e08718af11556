use Rattle.systole_top.proofs.Trees.{step_shows}
use Rattle.systole_top.proofs.judgement.judged.Goals as goal

pub returns-clause-judged : goal.returns-clause-judged
returns-clause-judged g c = step_shows _ c.in_ok-text.ensures.read c.judgement_of.ensures.shows
