use Rattle.std.proofs.Common.{Some, ap, sym, ◌∙◌}
use Rattle.accept.proofs.Unlabelled.{first_without}
use Rattle.accept.proofs.labels.given_labels.Goals as goal

pub returns-in_default-clause-refused : goal.returns-in_default-clause-refused
returns-in_default-clause-refused c =
    first_without c.args.messages.now c.loop-message.labels.items c.loop-message.message-index c.message-item.result c.loop-message.invariant
    c.loop-message-test.true c.message-item.is c.in_default.is
    ∙ ap Some (sym c.in_ok-name.ensures)
