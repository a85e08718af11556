use Rattle.std.proofs.Common.{◌≡◌, [], ◌∷◌, ap, ◌∙◌, sym, subst, rules}
use Rattle.comm_sequence.specs.Gathered.{all_unrolled, AreCommunications}
use Rattle.comm_sequence.specs.Parts.{unrolled}
use Rattle.sequence_tests.proofs.Exchanges.{ends, exchange_sound}
use Rattle.sequence_tests.proofs.parts.exchange.Goals as goal

pub of-requires-clause-communications : goal.of-requires-clause-communications
of-requires-clause-communications c =
    let sender = unrolled c.args.sender.items in
    let receiver = unrolled c.args.receiver.items in
    let cells : all_unrolled c.push-2.new.self.items ≡ sender ∷ receiver ∷ [] =
    search (rules, c.in_ok-push.ensures.items, c.in_ok-push-2.ensures.items) in
    let are_ends : c.in_ok-ends.ends.items ≡ ends c.args.messages =
    c.in_ok-ends.ensures.items_if_clones_equal (λ y h. search rules) ∙ ap ends c.from.ensures in
    let r = c.requires in
    subst (λ xs. AreCommunications xs c.in_ok-ends.ends.items) (sym cells)
    (subst (AreCommunications (sender ∷ receiver ∷ [])) (sym are_ends)
    (exchange_sound c.args.messages sender receiver r.messages r.sends r.receives r.few))
