use Rattle.std.proofs.Common.{◌≡◌, ◌∙◌, ◌++◌, [], ◌∷◌, List, length, refl, ap, sym, subst, arith}
use Rattle.std.proofs.lemmas.List.Sums.{AllPass-from_list_all}
use Rattle.std.specs.List.{AllPass}
use Rattle.sys_base.specs.Communications.{Communication, Writes, Reads, Takes, Emits, copies}
use Rattle.comm_sequence.specs.Parts.{unrolled}
use Rattle.sequence_tests.specs.Exchange.{receives, sends}
use Rattle.sequence_tests.proofs.parts.two_messages.Goals as goal

-- what the sender communicates
abbrev sent : List Communication
sent = Takes ∷ Writes 0 ∷ Takes ∷ Writes 0 ∷ Writes 1 ∷ []

-- what the receiver communicates
abbrev received : List Communication
received = Reads 1 ∷ Reads 0 ∷ Emits ∷ Reads 0 ∷ Emits ∷ []

pub exchange-requires-clause-sends : goal.exchange-requires-clause-sends
exchange-requires-clause-sends c =
    let is : unrolled c.in_ok-sender.sender.items ≡ sent =
    ap unrolled c.in_ok-sender.ensures.items
    ∙ ap (λ xs. xs ++ Writes 1 ∷ [])
    (c.repeat.ensures.list ∙ ap (λ xs. copies 2 (unrolled xs)) c.in_ok-sent.ensures.items) in
    subst (AllPass (sends 2)) (sym is) (AllPass-from_list_all (sends 2) sent refl)

pub exchange-requires-clause-receives : goal.exchange-requires-clause-receives
exchange-requires-clause-receives c =
    let is : unrolled c.in_ok-receiver.receiver.items ≡ received =
    ap unrolled c.in_ok-receiver.ensures.items
    ∙ ap (λ xs. Reads 1 ∷ xs ++ [])
    (c.repeat-2.ensures.list ∙ ap (λ xs. copies 2 (unrolled xs)) c.in_ok-received.ensures.items) in
    subst (AllPass (receives 2)) (sym is) (AllPass-from_list_all (receives 2) received refl)

pub exchange-requires-clause-few : goal.exchange-requires-clause-few
exchange-requires-clause-few c =
    let first : unrolled c.in_ok-sender.sender.items ≡ sent =
    ap unrolled c.in_ok-sender.ensures.items
    ∙ ap (λ xs. xs ++ Writes 1 ∷ [])
    (c.repeat.ensures.list ∙ ap (λ xs. copies 2 (unrolled xs)) c.in_ok-sent.ensures.items) in
    let second : unrolled c.in_ok-receiver.receiver.items ≡ received =
    ap unrolled c.in_ok-receiver.ensures.items
    ∙ ap (λ xs. Reads 1 ∷ xs ++ [])
    (c.repeat-2.ensures.list ∙ ap (λ xs. copies 2 (unrolled xs)) c.in_ok-received.ensures.items) in
    omega (arith, ap length first, ap length second)
