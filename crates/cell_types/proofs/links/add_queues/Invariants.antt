use Rattle.std.proofs.Common.{◌≡◌, ◌++◌, map, take}
use Rattle.cell_types.specs.bodies.Declarations.{HasQueuesOf}
use Rattle.cell_types.specs.Resolved.{queues_of}
use Rattle.cell_types.specs.Written.{WrittenSource}
use Rattle.cell_types.proofs.links.add_queues.Given as goal

abbrev pub invariant-loop-dir : goal.invariant-loop-dir
invariant-loop-dir l =
    (source : WrittenSource) → HasQueuesOf source l.grid l.usual l.own
    → l.queues.items ≡ l.fn.queues.items ++ map (queues_of source l.cell) (take l.dir-index l.dir-items)
