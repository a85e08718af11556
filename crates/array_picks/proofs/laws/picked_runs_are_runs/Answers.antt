use Rattle.array_model.specs.States.{opening}
use Rattle.array_picks.specs.Replays.{PicksNext}
use Rattle.array_picks.proofs.Entries.{entries_are}
use Rattle.array_picks.proofs.Turns.{picked_after}
use Rattle.array_picks.proofs.laws.picked_runs_are_runs.Goals as goal

pub returns-clause-picked : goal.returns-clause-picked
returns-clause-picked g c =
    λ image inputs cap value left run last picked.
    picked_after image inputs cap g.C.Chooser.picks (opening image) value run last left picked

pub returns-clause-taken : goal.returns-clause-taken
returns-clause-taken g c =
    λ image inputs cap entries left run last picked. (
      picked_after image inputs cap PicksNext (opening image) entries run last left picked,
      entries_are image inputs cap (opening image) entries run last left picked,
    )
