use Rattle.std.proofs.Common.{◌≡◌, map, take}
use Rattle.cell_types.specs.Typed.{plain}
use Rattle.accept.specs.Told.{message_name}
use Rattle.accept.proofs.queues.names_of.Given as goal

abbrev pub invariant-loop-message : goal.invariant-loop-message
invariant-loop-message l = l.names ≡ map (message_name (plain l.program)) (take l.message-index l.messages)
