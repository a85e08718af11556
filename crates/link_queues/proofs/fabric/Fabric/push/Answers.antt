use Rattle.std.proofs.Common.{arith, sym, subst, ap, ◌∙◌}
use Rattle.link_slots.specs.Slots.{HasRoom}
use Rattle.link_queues.specs.Tables.{Table, link_of, with_raised}
use Rattle.link_queues.specs.Fabrics.{Queues, slice}
use Rattle.link_queues.specs.Standing.{StandsFor, written}
use Rattle.link_queues.specs.Tables.{queues}
use Rattle.link_queues.proofs.Moves.{push_done, pushes}
use Rattle.link_queues.proofs.Calls.{push_slices, push_stands}
use Rattle.link_queues.proofs.Opened.{seen}
use Rattle.link_queues.proofs.fabric.Fabric.push.Goals as goal

pub link_at-link-requires : goal.link_at-link-requires
link_at-link-requires c = (pushes c.self.inside.image.now c.self.inside.cap c.self.inside.tables c.args.self.now c.self.view_is c.self.invariant c.args.message c.args.word c.requires.message c.requires.can).0

pub slot-requires-clause-hop : goal.slot-requires-clause-hop
slot-requires-clause-hop c = (pushes c.self.inside.image.now c.self.inside.cap c.self.inside.tables c.args.self.now c.self.view_is c.self.invariant c.args.message c.args.word c.requires.message c.requires.can).1.0

pub unwrap-slot-requires : goal.unwrap-slot-requires
unwrap-slot-requires c = let h = (pushes c.self.inside.image.now c.self.inside.cap c.self.inside.tables c.args.self.now c.self.view_is c.self.invariant c.args.message c.args.word c.requires.message c.requires.can).1.1.0 in grind (arith, h)

pub push-requires-clause-room : goal.push-requires-clause-room
push-requires-clause-room c =
    let h = (pushes c.self.inside.image.now c.self.inside.cap c.self.inside.tables c.args.self.now c.self.view_is c.self.invariant c.args.message c.args.word c.requires.message c.requires.can).1.1.1
    c.unwrap-slot.result (sym c.slot.ensures ∙ c.unwrap-slot.ensures)
    in
    subst (λ (t : Table). HasRoom (link_of t c.link_at-link.result).slots c.unwrap-slot.result) (sym c.raise.ensures)
    (subst (λ l. HasRoom (link_of (with_raised c.self.inside.tables c.args.message 0) l).slots c.unwrap-slot.result) (sym c.link_at-link.ensures) h.0)

pub invariant_of-self : goal.invariant_of-self
invariant_of-self c =
    (push_done c.self.inside.image.now c.self.inside.cap c.self.inside.tables c.raise.new.self c.push.new.self c.args.message
    c.link_at-link.result _ c.unwrap-slot.result c.args.word _ c.link_at-link.ensures c.raise.ensures c.push.ensures
    ((pushes c.self.inside.image.now c.self.inside.cap c.self.inside.tables c.args.self.now c.self.view_is c.self.invariant
    c.args.message c.args.word c.requires.message c.requires.can).1.1.1 c.unwrap-slot.result (sym c.slot.ensures ∙ c.unwrap-slot.ensures)).1).fabric

pub returns-clause-after : goal.returns-clause-after
returns-clause-after c =
    (push_done c.self.inside.image.now c.self.inside.cap c.self.inside.tables c.raise.new.self c.push.new.self c.args.message
    c.link_at-link.result _ c.unwrap-slot.result c.args.word _ c.link_at-link.ensures c.raise.ensures c.push.ensures
    ((pushes c.self.inside.image.now c.self.inside.cap c.self.inside.tables c.args.self.now c.self.view_is c.self.invariant
    c.args.message c.args.word c.requires.message c.requires.can).1.1.1 c.unwrap-slot.result (sym c.slot.ensures ∙ c.unwrap-slot.ensures)).1).seen

pub returns-clause-kept : goal.returns-clause-kept
returns-clause-kept c =
    (push_done c.self.inside.image.now c.self.inside.cap c.self.inside.tables c.raise.new.self c.push.new.self c.args.message
    c.link_at-link.result _ c.unwrap-slot.result c.args.word _ c.link_at-link.ensures c.raise.ensures c.push.ensures
    ((pushes c.self.inside.image.now c.self.inside.cap c.self.inside.tables c.args.self.now c.self.view_is c.self.invariant
    c.args.message c.args.word c.requires.message c.requires.can).1.1.1 c.unwrap-slot.result (sym c.slot.ensures ∙ c.unwrap-slot.ensures)).1).fabric.kept

pub returns-clause-marks : goal.returns-clause-marks
returns-clause-marks c =
    ap (λ (r : Queues). r.marks) (returns-clause-after c)

pub returns-clause-bound : goal.returns-clause-bound
returns-clause-bound c =
    ap (λ (r : Queues). r.bound) (returns-clause-after c)

pub returns-clause-slices : goal.returns-clause-slices
returns-clause-slices c =
    λ m hop g.
    ap (λ (r : Queues). slice r m hop) (returns-clause-after c)
    ∙ push_slices (queues c.args.self.now) (seen _ _ _ c.args.self.now c.self.view_is c.self.invariant).kept c.args.message c.args.word
    c.requires.message c.requires.can m hop g

pub returns-clause-stands : goal.returns-clause-stands
returns-clause-stands c =
    λ s cell st.
    subst (λ r. StandsFor r (written s cell c.args.message c.args.word)) (sym (returns-clause-after c))
    (push_stands (queues c.args.self.now) (seen _ _ _ c.args.self.now c.self.view_is c.self.invariant).kept c.args.message c.args.word
    c.requires.message c.requires.can s cell st)
