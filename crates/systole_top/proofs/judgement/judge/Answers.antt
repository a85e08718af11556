use Rattle.systole_top.specs.bodies.Stops.{made_of}
use Rattle.systole_top.proofs.Judging.{accepted, built_plan, ready, refused}
use Rattle.systole_top.proofs.judgement.judge.Goals as goal

pub returns-in-Ok-clause-only : goal.returns-in-Ok-clause-only
returns-in-Ok-clause-only c =
    let law = c.one_first_refusal.ensures in
    let images = c.one_image.ensures in
    accepted law.one law.none c.args.text.now images.one images.program (made_of c.in-Ok.built)
    (built_plan c.args.text.now c.in-Ok.built (images.built c.args.text.now c.in-Ok.built c.in-Ok.ensures.built))

pub returns-in-Ok-clause-ready : goal.returns-in-Ok-clause-ready
returns-in-Ok-clause-ready c =
    let images = c.images_do_as_they_say.ensures in
    ready c.args.text.now c.in-Ok.built c.in-Ok.ensures.built (c.one_image.ensures.built c.args.text.now c.in-Ok.built c.in-Ok.ensures.built)
    images.shaped images.listed images.faithful
    (λ t i is. c.accepted_programs_are_alike.ensures.cost t is.source is.accepts is.is)
    (λ t i is. c.accepted_programs_are_alike.ensures.alike t is.source is.accepts is.is)

pub returns-in-Err-Refused-clause-only : goal.returns-in-Err-Refused-clause-only
returns-in-Err-Refused-clause-only c =
    let law = c.one_first_refusal.ensures in
    refused law.one law.none c.args.text.now c.in-Err-Refused.refusal (rw c.in-Err-Refused.field-0-is at c.in-Err-Refused.ensures.refused)
