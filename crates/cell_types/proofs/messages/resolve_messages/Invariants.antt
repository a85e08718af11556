use Rattle.cell_types.specs.bodies.Scopes.{names_in}
use Rattle.cell_types.proofs.MessageLoop.{MessagesSoFar}
use Rattle.cell_types.proofs.messages.resolve_messages.Given as goal

abbrev pub invariant-loop-message : goal.invariant-loop-message
invariant-loop-message l = MessagesSoFar l.grid l.declared (names_in l.names) l.ends.items l.list.items l.message-index
