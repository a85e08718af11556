use Rattle.std.proofs.Common.{◌≡◌, map}
use Rattle.cell_types.specs.Groups.{below}
use Rattle.cell_types.specs.Typed.{plain}
use Rattle.program_image.specs.ImageOf.{cell_of}
use Rattle.image_build.proofs.cells.cell_images.Given as goal

abbrev pub invariant-loop-cell : goal.invariant-loop-cell
invariant-loop-cell l = l.cells ≡ map (cell_of (plain l.program)) (below l.cell)
