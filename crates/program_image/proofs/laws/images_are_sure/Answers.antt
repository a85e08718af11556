use Rattle.program_image.specs.ImageOf.{image_of}
use Rattle.program_image.proofs.laws.images_are_sure.Goals as goal

pub returns : goal.returns
returns c =
    λ program labels buffer order sound alike within are falls enough is.
    c.regular_images_are_sure.ensures (image_of program labels) buffer
    (c.images_are_regular.ensures program labels buffer order sound alike within are falls enough is)
