use Rattle.systole_top.proofs.SameOutputs.{same_outputs}
use Rattle.systole_top.proofs.agreement.runs_put_the_same_outputs.Goals as goal

pub returns : goal.returns
returns c = λ text bytes asked other schedule another recorded too out err out_too err_too x y.
    same_outputs c.one_image.ensures.one c.one_image.ensures.program c.one_input.ensures.inputs c.images_do_as_they_say.ensures.shaped
    c.images_do_as_they_say.ensures.faithful text bytes x y
