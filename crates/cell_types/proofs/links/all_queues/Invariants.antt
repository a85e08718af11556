use Rattle.std.proofs.Common.{◌≡◌, flat_map}
use Rattle.std.specs.List.{range_with_len}
use Rattle.cell_types.specs.bodies.Declarations.{HasQueuesOf}
use Rattle.cell_types.specs.Resolved.{cell_queues}
use Rattle.cell_types.specs.Written.{WrittenSource}
use Rattle.cell_types.proofs.links.all_queues.Given as goal

abbrev pub invariant-loop-cell : goal.invariant-loop-cell
invariant-loop-cell l =
    (source : WrittenSource) → HasQueuesOf source l.grid l.usual l.own.items
    → l.queues.items ≡ flat_map (cell_queues source) (range_with_len 0 l.cell)
