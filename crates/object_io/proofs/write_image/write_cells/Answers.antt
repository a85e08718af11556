use Rattle.object_io.specs.Objects.{cell_lines}
use Rattle.object_io.proofs.Enumerated.{lines_step}
use Rattle.object_io.proofs.write_image.write_cells.Goals as goal

pub loop-index-preserved : goal.loop-index-preserved
loop-index-preserved c =
    lines_step cell_lines c.args.cells.now c.loop-index.index c.index-cells-index.result _ _ _ c.loop-index-test.true
    c.index-cells-index.is c.loop-index.invariant c.in_ok-write_cell.ensures
