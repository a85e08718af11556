use Rattle.image_build.proofs.EachCell.{cells_step}
use Rattle.image_build.proofs.cells.cell_images.Goals as goal

pub loop-cell-preserved : goal.loop-cell-preserved
loop-cell-preserved c =
    cells_step c.args.program.now c.loop-cell.cell _ _ _ c.in_ok-cell_image.ensures c.loop-cell.invariant
    c.in_ok-push.ensures.ok
