use Rattle.std.proofs.Common.{drop, take}
use Rattle.cell_types.specs.Typed.{plain}
use Rattle.rendezvous.specs.bodies.UnderWay.{AreOn}
use Rattle.rendezvous.proofs.array.meaning.Given as goal

abbrev pub invariant-loop-event : goal.invariant-loop-event
invariant-loop-event l =
    AreOn (plain l.program) l.inputs.cells (take l.event-index l.order) (drop l.event-index l.order) l.cells.items
    l.streams.items
