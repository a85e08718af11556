use Rattle.std.proofs.Common.{ap, ◌∙◌, arith}
use Rattle.link_queues.specs.Tables.{Laid, mark_in, queues}
use Rattle.link_queues.proofs.Opened.{seen}
use Rattle.link_queues.proofs.Tests.{first_hop, writes}
use Rattle.link_queues.proofs.fabric.Fabric.can_push.Goals as goal

pub has_room-requires : goal.has_room-requires
has_room-requires c =
    first_hop (queues c.args.self.now) (seen _ _ _ c.args.self.now c.self.view_is c.self.invariant).kept c.args.message c.requires

pub returns-then-mark-length-clause-can : goal.returns-then-mark-length-clause-can
returns-then-mark-length-clause-can c =
    c.has_room.ensures
    ∙ writes (queues c.args.self.now) (seen _ _ _ c.args.self.now c.self.view_is c.self.invariant).kept c.args.message c.requires
    (omega (
      arith,
      c.if-mark-length.true,
      c.mark.ensures.mark,
      c.length.ensures,
      ap (λ (f : Laid). mark_in f.table c.args.message 0) c.self.view_is,
    ))
