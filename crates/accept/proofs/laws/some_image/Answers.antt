use Rattle.accept.specs.FirstRefusal.{need_trials, of_source, room_trials}
use Rattle.accept.proofs.Needed.{some_source}
use Rattle.accept.proofs.OneBuild.{some_image}
use Rattle.accept.proofs.Trials.{passes_first}
use Rattle.accept.proofs.laws.some_image.Goals as goal

pub returns : goal.returns
returns c text accepts =
    let source = some_source c.existence_below.ensures text (passes_first need_trials (of_source room_trials) text accepts) in
    some_image c.laws_below.ensures c.existence_below.ensures text accepts source.0 source.1
