use Rattle.std.proofs.Common.{refl}
use Rattle.array_model.specs.States.{opening}
use Rattle.array_picks.proofs.Entries.{picked_itself, run_itself}
use Rattle.array_picks.proofs.laws.runs_replay_themselves.Goals as goal

pub returns-clause-ended : goal.returns-clause-ended
returns-clause-ended g c =
    λ image inputs cap run last shaped is none. record { taken = run_itself image inputs cap shaped run last is; ends = none }

pub returns-clause-stopped : goal.returns-clause-stopped
returns-clause-stopped g c =
    λ image inputs cap run last shaped is some. record {
      taken = run_itself image inputs cap shaped run last is;
      ends = (some, refl);
    }

pub returns-clause-picked_ended : goal.returns-clause-picked_ended
returns-clause-picked_ended g c =
    λ image inputs cap value left run last picked none. record {
      taken = picked_itself image inputs cap g.C.Chooser.picks (opening image) value run last left picked;
      ends = none;
    }

pub returns-clause-picked_stopped : goal.returns-clause-picked_stopped
returns-clause-picked_stopped g c =
    λ image inputs cap value left run last picked some. record {
      taken = picked_itself image inputs cap g.C.Chooser.picks (opening image) value run last left picked;
      ends = (some, refl);
    }
