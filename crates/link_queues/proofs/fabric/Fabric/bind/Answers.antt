use Rattle.std.proofs.Common.{arith, ap, ◌∙◌}
use Rattle.link_queues.specs.Fabrics.{Queues, slice}
use Rattle.link_queues.specs.Tables.{queues}
use Rattle.link_queues.proofs.Binding.{bound_bound, bound_cap, bound_image, bound_marks, bound_slices, stands_bound}
use Rattle.link_queues.proofs.Opened.{seen}
use Rattle.link_queues.proofs.Settling.{all_settled, group_is, none_settled, settles}
use Rattle.link_queues.proofs.fabric.Fabric.bind.Goals as goal

pub loop-message-init : goal.loop-message-init
loop-message-init c =
    none_settled c.self.inside.image.now c.self.inside.cap c.self.inside.tables c.args.self.now c.self.view_is c.self.invariant
    c.args.link c.from.result c.count_group.new.self c.requires.link c.from.ensures c.count_group.ensures

pub hop_on-hop-requires-clause-message : goal.hop_on-hop-requires-clause-message
hop_on-hop-requires-clause-message c =
    (settles c.args.self.now (seen _ _ _ c.args.self.now c.self.view_is c.self.invariant).kept c.args.link c.requires.can
    c.requires.link c.loop-message.self-inside.image.now c.loop-message.self-inside.cap c.loop-message.self-inside.tables
    c.loop-message.message-index c.as_slice-message-items.result.now
    (group_is c.args.self.now c.args.link c.next_group.result c.unwrap-group.result c.as_slice-message-items.result.now
    c.next_group.ensures.members c.unwrap-group.ensures c.as_slice-message-items.ensures)
    c.loop-message-test.true c.loop-message.invariant).message

pub hop_on-hop-requires-clause-uses : goal.hop_on-hop-requires-clause-uses
hop_on-hop-requires-clause-uses c =
    (settles c.args.self.now (seen _ _ _ c.args.self.now c.self.view_is c.self.invariant).kept c.args.link c.requires.can
    c.requires.link c.loop-message.self-inside.image.now c.loop-message.self-inside.cap c.loop-message.self-inside.tables
    c.loop-message.message-index c.as_slice-message-items.result.now
    (group_is c.args.self.now c.args.link c.next_group.result c.unwrap-group.result c.as_slice-message-items.result.now
    c.next_group.ensures.members c.unwrap-group.ensures c.as_slice-message-items.ensures)
    c.loop-message-test.true c.loop-message.invariant).uses

pub settle-requires-clause-message : goal.settle-requires-clause-message
settle-requires-clause-message c =
    (settles c.args.self.now (seen _ _ _ c.args.self.now c.self.view_is c.self.invariant).kept c.args.link c.requires.can
    c.requires.link c.loop-message.self-inside.image.now c.loop-message.self-inside.cap c.loop-message.self-inside.tables
    c.loop-message.message-index c.as_slice-message-items.result.now
    (group_is c.args.self.now c.args.link c.next_group.result c.unwrap-group.result c.as_slice-message-items.result.now
    c.next_group.ensures.members c.unwrap-group.ensures c.as_slice-message-items.ensures)
    c.loop-message-test.true c.loop-message.invariant).way

pub settle-requires-clause-hop : goal.settle-requires-clause-hop
settle-requires-clause-hop c =
    (settles c.args.self.now (seen _ _ _ c.args.self.now c.self.view_is c.self.invariant).kept c.args.link c.requires.can
    c.requires.link c.loop-message.self-inside.image.now c.loop-message.self-inside.cap c.loop-message.self-inside.tables
    c.loop-message.message-index c.as_slice-message-items.result.now
    (group_is c.args.self.now c.args.link c.next_group.result c.unwrap-group.result c.as_slice-message-items.result.now
    c.next_group.ensures.members c.unwrap-group.ensures c.as_slice-message-items.ensures)
    c.loop-message-test.true c.loop-message.invariant).place c.hop_on-hop.result c.hop_on-hop.ensures

pub settle-requires-clause-link : goal.settle-requires-clause-link
settle-requires-clause-link c =
    (settles c.args.self.now (seen _ _ _ c.args.self.now c.self.view_is c.self.invariant).kept c.args.link c.requires.can
    c.requires.link c.loop-message.self-inside.image.now c.loop-message.self-inside.cap c.loop-message.self-inside.tables
    c.loop-message.message-index c.as_slice-message-items.result.now
    (group_is c.args.self.now c.args.link c.next_group.result c.unwrap-group.result c.as_slice-message-items.result.now
    c.next_group.ensures.members c.unwrap-group.ensures c.as_slice-message-items.ensures)
    c.loop-message-test.true c.loop-message.invariant).link c.from-in-loop-message.result c.from-in-loop-message.ensures

pub settle-requires-clause-free : goal.settle-requires-clause-free
settle-requires-clause-free c =
    (settles c.args.self.now (seen _ _ _ c.args.self.now c.self.view_is c.self.invariant).kept c.args.link c.requires.can
    c.requires.link c.loop-message.self-inside.image.now c.loop-message.self-inside.cap c.loop-message.self-inside.tables
    c.loop-message.message-index c.as_slice-message-items.result.now
    (group_is c.args.self.now c.args.link c.next_group.result c.unwrap-group.result c.as_slice-message-items.result.now
    c.next_group.ensures.members c.unwrap-group.ensures c.as_slice-message-items.ensures)
    c.loop-message-test.true c.loop-message.invariant).free c.from-in-loop-message.result c.from-in-loop-message.ensures

pub loop-message-preserved : goal.loop-message-preserved
loop-message-preserved c =
    (settles c.args.self.now (seen _ _ _ c.args.self.now c.self.view_is c.self.invariant).kept c.args.link c.requires.can
    c.requires.link c.loop-message.self-inside.image.now c.loop-message.self-inside.cap c.loop-message.self-inside.tables
    c.loop-message.message-index c.as_slice-message-items.result.now
    (group_is c.args.self.now c.args.link c.next_group.result c.unwrap-group.result c.as_slice-message-items.result.now
    c.next_group.ensures.members c.unwrap-group.ensures c.as_slice-message-items.ensures)
    c.loop-message-test.true c.loop-message.invariant).next c.hop_on-hop.result c.from-in-loop-message.result c.settle.new.self
    c.hop_on-hop.ensures c.from-in-loop-message.ensures c.settle.ensures

pub invariant_of-self : goal.invariant_of-self
invariant_of-self c =
    (all_settled c.args.self.now (seen _ _ _ c.args.self.now c.self.view_is c.self.invariant).kept c.args.link c.requires.can
    c.requires.link c.loop-message.self-inside.image.now c.loop-message.self-inside.cap c.loop-message.self-inside.tables
    c.loop-message.message-index c.as_slice-message-items.result.now
    (group_is c.args.self.now c.args.link c.next_group.result c.unwrap-group.result c.as_slice-message-items.result.now
    c.next_group.ensures.members c.unwrap-group.ensures c.as_slice-message-items.ensures)
    (omega (arith, c.loop-message-test.false)) c.loop-message.invariant).fabric

pub returns-clause-after : goal.returns-clause-after
returns-clause-after c =
    (all_settled c.args.self.now (seen _ _ _ c.args.self.now c.self.view_is c.self.invariant).kept c.args.link c.requires.can
    c.requires.link c.loop-message.self-inside.image.now c.loop-message.self-inside.cap c.loop-message.self-inside.tables
    c.loop-message.message-index c.as_slice-message-items.result.now
    (group_is c.args.self.now c.args.link c.next_group.result c.unwrap-group.result c.as_slice-message-items.result.now
    c.next_group.ensures.members c.unwrap-group.ensures c.as_slice-message-items.ensures)
    (omega (arith, c.loop-message-test.false)) c.loop-message.invariant).seen

pub returns-clause-kept : goal.returns-clause-kept
returns-clause-kept c = (invariant_of-self c).kept

pub returns-clause-image : goal.returns-clause-image
returns-clause-image c =
    ap (λ (r : Queues). r.image) (returns-clause-after c)
    ∙ bound_image (queues c.args.self.now) (seen _ _ _ c.args.self.now c.self.view_is c.self.invariant).kept c.args.link
    c.requires.can c.requires.link

pub returns-clause-cap : goal.returns-clause-cap
returns-clause-cap c =
    ap (λ (r : Queues). r.cap) (returns-clause-after c)
    ∙ bound_cap (queues c.args.self.now) (seen _ _ _ c.args.self.now c.self.view_is c.self.invariant).kept c.args.link
    c.requires.can c.requires.link

pub returns-clause-marks : goal.returns-clause-marks
returns-clause-marks c =
    ap (λ (r : Queues). r.marks) (returns-clause-after c)
    ∙ bound_marks (queues c.args.self.now) (seen _ _ _ c.args.self.now c.self.view_is c.self.invariant).kept c.args.link
    c.requires.can c.requires.link

pub returns-clause-bound : goal.returns-clause-bound
returns-clause-bound c =
    ap (λ (r : Queues). r.bound) (returns-clause-after c)
    ∙ bound_bound (queues c.args.self.now) (seen _ _ _ c.args.self.now c.self.view_is c.self.invariant).kept c.args.link
    c.requires.can c.requires.link

pub returns-clause-slices : goal.returns-clause-slices
returns-clause-slices c =
    λ m hop g.
    ap (λ (r : Queues). slice r m hop) (returns-clause-after c)
    ∙ bound_slices (queues c.args.self.now) (seen _ _ _ c.args.self.now c.self.view_is c.self.invariant).kept c.args.link
    c.requires.can c.requires.link m hop g

pub returns-clause-stands : goal.returns-clause-stands
returns-clause-stands c =
    λ s st.
    stands_bound (queues c.args.self.now) s st c.args.link _ (returns-clause-image c) (returns-clause-marks c)
    (returns-clause-bound c) (returns-clause-slices c)
