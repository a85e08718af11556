use Rattle.std.proofs.Common.{◌≡◌, Some, map, take}
use Rattle.cell_types.specs.declared.program.Message.{Message}
use Rattle.accept.proofs.labels.given_labels.Given as goal

abbrev pub invariant-loop-message : goal.invariant-loop-message
invariant-loop-message l = map (λ (m : Message). m.label) (take l.message-index l.messages) ≡ map Some l.labels.items
