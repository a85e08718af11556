use Rattle.array_picks.proofs.Entries.{once}
use Rattle.array_picks.proofs.laws.entries_make_one_run.Goals as goal

pub returns : goal.returns
returns c = once
