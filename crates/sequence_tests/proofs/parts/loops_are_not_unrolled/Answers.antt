use Rattle.std.proofs.Common.{◌≡◌, true, ap, arith}
use Rattle.std.proofs.lemmas.List.Elements.{All-weaker}
use Rattle.sys_base.specs.Communications.{Writes, Reads}
use Rattle.comm_sequence.specs.Parts.{unrolled}
use Rattle.sequence_tests.specs.Exchange.{receives, sends}
use Rattle.sequence_tests.proofs.parts.loops_are_not_unrolled.Goals as goal

pub exchange-requires-clause-sends : goal.exchange-requires-clause-sends
exchange-requires-clause-sends g c =
    All-weaker (λ x. x ≡ Writes 0) (λ x. sends 1 x ≡ true) (λ x e. ap (sends 1) e)
    (unrolled c.in_ok-sender.sender.items) c.in_ok-sender.ensures.list

pub exchange-requires-clause-receives : goal.exchange-requires-clause-receives
exchange-requires-clause-receives g c =
    All-weaker (λ x. x ≡ Reads 0) (λ x. receives 1 x ≡ true) (λ x e. ap (receives 1) e)
    (unrolled c.in_ok-receiver.receiver.items) c.in_ok-receiver.ensures.list

pub exchange-requires-clause-few : goal.exchange-requires-clause-few
exchange-requires-clause-few g c = omega (arith, c.in_ok-sender.ensures.long, c.in_ok-receiver.ensures.long)
