use Rattle.program_image.proofs.Shaped.{image_shaped}
use Rattle.program_image.proofs.laws.images_are_shaped.Goals as goal

pub returns : goal.returns
returns c =
    λ program labels sound alike.
    image_shaped program labels sound alike c.code_is_shaped.ensures.shaped c.code_is_shaped.ensures.ends
