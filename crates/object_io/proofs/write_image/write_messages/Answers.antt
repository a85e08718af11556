use Rattle.object_io.specs.Objects.{message_line}
use Rattle.object_io.proofs.Enumerated.{lines_step}
use Rattle.object_io.proofs.write_image.write_messages.Goals as goal

pub loop-index-preserved : goal.loop-index-preserved
loop-index-preserved c =
    lines_step message_line c.args.messages.now c.loop-index.index c.index-messages-index.result _ _ _ c.loop-index-test.true
    c.index-messages-index.is c.loop-index.invariant c.in_ok-write_message.ensures
