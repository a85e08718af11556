use Rattle.std.proofs.Common.{◌++◌, sym, ap, ◌∙◌, subst}
use Rattle.cell_types.specs.bodies.Declarations.{HasQueuesOf}
use Rattle.cell_types.specs.Resolved.{cell_queues}
use Rattle.cell_types.proofs.Ranges.{flat_map_range}
use Rattle.cell_types.proofs.links.all_queues.Goals as goal

pub loop-cell-preserved : goal.loop-cell-preserved
loop-cell-preserved c source so =
    c.in_ok-add_queues.ensures.queues source (subst (HasQueuesOf source c.args.grid.now c.args.usual) (sym c.as_slice.ensures.value) so)
    ∙ ap (λ qs. qs ++ cell_queues source c.loop-cell.cell) (c.loop-cell.invariant source so)
    ∙ sym (flat_map_range (cell_queues source) c.loop-cell.cell)
