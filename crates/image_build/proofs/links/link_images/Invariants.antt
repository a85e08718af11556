use Rattle.std.proofs.Common.{◌≡◌, map}
use Rattle.cell_types.specs.Typed.{plain}
use Rattle.program_image.specs.ImageOf.{link_image}
use Rattle.image_build.proofs.Grouped.{grouped_before}
use Rattle.image_build.proofs.links.link_images.Given as goal

abbrev pub invariant-loop-link : goal.invariant-loop-link
invariant-loop-link l = l.links ≡ map (link_image (plain l.program)) (grouped_before l.fn.groups l.link)
