use Rattle.array_picks.proofs.Finished.{ends_finished}
use Rattle.array_picks.proofs.laws.runs_end_finished.Goals as goal

pub returns : goal.returns
returns c =
    λ image least cap inputs run last shaped sure counted enough is.
    ends_finished image inputs cap least run last shaped sure counted enough is
