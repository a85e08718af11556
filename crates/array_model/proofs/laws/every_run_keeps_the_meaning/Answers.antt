use Rattle.array_model.proofs.Meant.{keeps}
use Rattle.array_model.proofs.laws.every_run_keeps_the_meaning.Goals as goal

pub returns : goal.returns
returns c =
    λ image buffer inputs streams cap run last h counted agrees enough is.
    keeps image buffer h inputs counted streams agrees cap run last enough is
