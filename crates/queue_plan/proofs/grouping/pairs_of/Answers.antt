use Rattle.std.proofs.Common.{slice_index, ap, sym, ◌∙◌, ◌++◌, ◌∷◌, [], arith}
use Rattle.std.proofs.lemmas.List.FromFn.{map-range_with_len_more}
use Rattle.queue_plan.proofs.grouping.pairs_of.Goals as goal

pub loop-message-preserved : goal.loop-message-preserved
loop-message-preserved c =
    c.in_ok-push.ensures.items
    ∙ ap (λ xs. xs ++ (slice_index c.args.labels.now c.loop-message.message, c.loop-message.message) ∷ []) c.loop-message.invariant
    ∙ sym (map-range_with_len_more (λ message. (slice_index c.args.labels.now message, message)) 0 c.loop-message.message c.loop-message.message (omega arith))
