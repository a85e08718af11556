use Rattle.program_image.proofs.Listed.{image_listed}
use Rattle.program_image.proofs.laws.images_are_listed.Goals as goal

pub returns : goal.returns
returns c =
    λ program labels sound alike.
    image_listed program labels sound c.groups_rise.ensures.filled alike c.code_is_shaped.ensures.shaped
