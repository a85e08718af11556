use Rattle.std.proofs.Common.{◌≡◌, length, nat_le, sym, ap, ◌∙◌}
use Rattle.link_slots.specs.Slots.{held_count}
use Rattle.link_queues.specs.Tables.{link_of, queues}
use Rattle.link_queues.specs.declared.link.Link.{Link}
use Rattle.link_queues.specs.declared.fabric.Fabric.TheInside.{Inside}
use Rattle.link_queues.proofs.Opened.{link_seen, seen}
use Rattle.link_queues.proofs.Tests.{may_next, none_next}
use Rattle.link_queues.proofs.fabric.Fabric.can_bind.Goals as goal

pub returns-in-Some-clause-can : goal.returns-in-Some-clause-can
returns-in-Some-clause-can c =
    let link : c.index.result.now ≡ link_of c.args.self.now.table c.args.link =
    link_seen c.self.inside.image.now c.self.inside.cap c.self.inside.tables c.args.self.now c.self.view_is c.self.invariant
    _ (ap (λ (u : Inside). u.tables.links) c.self-inside.view_is) c.args.link c.from.result c.index.result.now c.requires
    c.from.ensures c.index.ensures
    in
    ap (λ n. nat_le c.len.result n) c.from-in-Some.ensures
    ∙ may_next (queues c.args.self.now) (seen _ _ _ c.args.self.now c.self.view_is c.self.invariant).kept c.args.link c.requires
    c.in-Some.group.now.members c.len.result c.count.result c.held.result (sym c.in-Some.ensures.members) c.len.ensures
    (c.count.ensures.count ∙ ap (λ (x : Link). length x.slots) link)
    (c.held.ensures.held ∙ ap (λ (x : Link). held_count x.slots) link)

pub returns-in-None-clause-can : goal.returns-in-None-clause-can
returns-in-None-clause-can c =
    none_next (queues c.args.self.now) (seen _ _ _ c.args.self.now c.self.view_is c.self.invariant).kept c.args.link c.requires
    (sym c.in-None.ensures.members)
