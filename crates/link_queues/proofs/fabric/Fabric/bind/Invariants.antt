use Rattle.link_queues.proofs.Settling.{Partly}
use Rattle.link_queues.proofs.fabric.Fabric.bind.Given as goal

abbrev pub invariant-loop-message : goal.invariant-loop-message
invariant-loop-message l =
    Partly l.self-inside.image.now l.self-inside.cap l.self-inside.tables l.fn.self l.fn.link l.message-index
