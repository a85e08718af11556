use Rattle.std.proofs.Common.{[], ◌∷◌}
use Rattle.queue_tests.proofs.Grown.{grown_alike, grown_below}
use Rattle.queue_tests.proofs.images.wide.Goals as goal

pub loop-message-preserved : goal.loop-message-preserved
loop-message-preserved c = (
  grown_alike c.loop-message.message c.in_ok-from_slice.field-0 (1 ∷ []) c.loop-message.messages c.add_message.new.messages
      c.loop-message.invariant.0 c.in_ok-from_slice.ensures c.in_ok-add_message.ensures,
  grown_below c.loop-message.message c.loop-message.members c.push.new.self c.loop-message.invariant.1
      c.in_ok-push.ensures.ok,
)
