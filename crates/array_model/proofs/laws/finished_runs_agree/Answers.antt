use Rattle.array_model.proofs.Meant.{finished_alike}
use Rattle.array_model.proofs.laws.finished_runs_agree.Goals as goal

pub returns : goal.returns
returns c =
    λ image buffer inputs cap other run others last end h counted enough later is there f g c l.
    finished_alike image buffer h inputs counted cap other run others last end enough later is there f g c l
