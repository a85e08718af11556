use Rattle.image_build.proofs.EachMessage.{messages_step}
use Rattle.image_build.proofs.messages.message_images.Goals as goal

pub loop-index-preserved : goal.loop-index-preserved
loop-index-preserved c =
    messages_step c.args.program.now c.args.labels.now c.args.seqs.now c.messages-message-items.result.now c.loop-index.index
    c.message-item.result c.length.result _ _ _ c.requires.seqs c.messages-message-items.ensures.messages
    c.loop-index-test.true c.message-item.is c.length.ensures.length c.in_ok-message_image.ensures c.loop-index.invariant
    c.in_ok-push.ensures.ok
