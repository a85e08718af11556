use Rattle.std.proofs.Common.{◌≡◌, slice_index, ap, sym, ◌∙◌}
use Rattle.std.proofs.lemmas.List.Elements.{All-more}
use Rattle.queue_plan.proofs.grouping.run_length.Goals as goal

pub loop-place-preserved : goal.loop-place-preserved
loop-place-preserved c =
    All-more (λ m. slice_index c.args.labels.now m ≡ c.args.label) c.args.messages.now c.loop-place.place 0 c.loop-place-test.true
    c.loop-place.invariant (ap (slice_index c.args.labels.now) (sym c.from.ensures) ∙ c.if-labels-from.false)
