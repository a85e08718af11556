use Rattle.std.proofs.Common.{ap, subst, sym}
use Rattle.array_model.specs.Runs.{IsSure}
use Rattle.drive_tests.proofs.images.image.Goals as goal

pub returns-in-Ok-clause-shaped : goal.returns-in-Ok-clause-shaped
returns-in-Ok-clause-shaped c =
    let is = (c.one_image.ensures.built c.args.source.now c.in-Ok.built c.in-Ok.ensures.built).0 in
    c.images_do_as_they_say.ensures.shaped c.args.source.now c.in-Ok.built.image is

pub returns-in-Ok-clause-sure : goal.returns-in-Ok-clause-sure
returns-in-Ok-clause-sure c =
    let is = (c.one_image.ensures.built c.args.source.now c.in-Ok.built c.in-Ok.ensures.built).0 in
    subst (IsSure c.in-Ok.built.image) (sym (ap (λ i. i.buffer) is.image_is))
    (c.images_do_as_they_say.ensures.faithful c.args.source.now c.in-Ok.built.image is).sure
