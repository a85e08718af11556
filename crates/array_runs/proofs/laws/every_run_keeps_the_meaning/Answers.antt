use Rattle.array_runs.proofs.Agreed.{keeps_meaning}
use Rattle.array_runs.proofs.laws.every_run_keeps_the_meaning.Goals as goal

pub returns : goal.returns
returns g c =
    λ p mc start lists cost d h output grows v agrees cap run enough r.
    keeps_meaning p mc start lists cost d h v agrees cap output grows run r
