use Rattle.std.proofs.Common.{◌≡◌, suc, true, is_some, length, arith, sym, subst, ap, ◌∙◌}
use Rattle.cell_code.specs.Marks.{may_forward, raised_at}
use Rattle.link_slots.specs.Slots.{HasRoom}
use Rattle.link_queues.specs.Fabrics.{Queues, forwarded, slice}
use Rattle.link_queues.specs.Standing.{StandsFor}
use Rattle.link_queues.specs.Tables.{Table, link_of, queues}
use Rattle.link_queues.proofs.Calls.{forward_bound, forward_marks, forward_slices, forward_stands}
use Rattle.link_queues.proofs.Moves.{Done}
use Rattle.link_queues.proofs.Opened.{seen}
use Rattle.link_queues.proofs.Pops.{leaving, moving, moving_done}
use Rattle.link_queues.proofs.fabric.Fabric.forward.Goals as goal

pub unwrap-slot-requires : goal.unwrap-slot-requires
unwrap-slot-requires c =
    let known =
    moving c.self.inside.image.now c.self.inside.cap c.self.inside.tables c.args.self.now c.self.view_is
    c.self.invariant c.args.message c.from-hop.result
    (subst (λ n. may_forward c.args.self.now.image c.args.self.now.cap (queues c.args.self.now).marks
    (queues c.args.self.now).bound c.args.message n ≡ true) (sym c.from-hop.ensures) c.requires.can)
    in
    let here =
    leaving c.self.inside.image.now c.self.inside.cap c.self.inside.tables c.args.self.now c.self.view_is
    c.self.invariant c.args.message c.from-hop.result known.here known.waits
    in
    ap is_some c.slot.ensures ∙ here.sits

pub unwrap-next_slot-requires : goal.unwrap-next_slot-requires
unwrap-next_slot-requires c =
    let known =
    moving c.self.inside.image.now c.self.inside.cap c.self.inside.tables c.args.self.now c.self.view_is
    c.self.invariant c.args.message c.from-hop.result
    (subst (λ n. may_forward c.args.self.now.image c.args.self.now.cap (queues c.args.self.now).marks
    (queues c.args.self.now).bound c.args.message n ≡ true) (sym c.from-hop.ensures) c.requires.can)
    in
    ap is_some c.slot-2.ensures ∙ known.sits

pub leave-word-requires-clause-held : goal.leave-word-requires-clause-held
leave-word-requires-clause-held c =
    let known =
    moving c.self.inside.image.now c.self.inside.cap c.self.inside.tables c.args.self.now c.self.view_is
    c.self.invariant c.args.message c.from-hop.result
    (subst (λ n. may_forward c.args.self.now.image c.args.self.now.cap (queues c.args.self.now).marks
    (queues c.args.self.now).bound c.args.message n ≡ true) (sym c.from-hop.ensures) c.requires.can)
    in
    let here =
    leaving c.self.inside.image.now c.self.inside.cap c.self.inside.tables c.args.self.now c.self.view_is
    c.self.invariant c.args.message c.from-hop.result known.here known.waits
    in
    let seat =
    here.slot c.unwrap-slot.result c.link_at-link.result (sym c.slot.ensures ∙ c.unwrap-slot.ensures) c.link_at-link.ensures
    in
    seat.held

pub push-requires-clause-link : goal.push-requires-clause-link
push-requires-clause-link c =
    let known =
    moving c.self.inside.image.now c.self.inside.cap c.self.inside.tables c.args.self.now c.self.view_is
    c.self.invariant c.args.message c.from-hop.result
    (subst (λ n. may_forward c.args.self.now.image c.args.self.now.cap (queues c.args.self.now).marks
    (queues c.args.self.now).bound c.args.message n ≡ true) (sym c.from-hop.ensures) c.requires.can)
    in
    let here =
    leaving c.self.inside.image.now c.self.inside.cap c.self.inside.tables c.args.self.now c.self.view_is
    c.self.invariant c.args.message c.from-hop.result known.here known.waits
    in
    let seat =
    here.slot c.unwrap-slot.result c.link_at-link.result (sym c.slot.ensures ∙ c.unwrap-slot.ensures) c.link_at-link.ensures
    in
    omega (
      arith,
      seat.links,
      known.link,
      c.link_at-next_link.ensures,
      ap (λ (u : Table). length u.links) c.leave-word.ensures.after,
    )

pub push-requires-clause-room : goal.push-requires-clause-room
push-requires-clause-room c =
    let known =
    moving c.self.inside.image.now c.self.inside.cap c.self.inside.tables c.args.self.now c.self.view_is
    c.self.invariant c.args.message c.from-hop.result
    (subst (λ n. may_forward c.args.self.now.image c.args.self.now.cap (queues c.args.self.now).marks
    (queues c.args.self.now).bound c.args.message n ≡ true) (sym c.from-hop.ensures) c.requires.can)
    in
    let here =
    leaving c.self.inside.image.now c.self.inside.cap c.self.inside.tables c.args.self.now c.self.view_is
    c.self.invariant c.args.message c.from-hop.result known.here known.waits
    in
    let seat =
    here.slot c.unwrap-slot.result c.link_at-link.result (sym c.slot.ensures ∙ c.unwrap-slot.ensures) c.link_at-link.ensures
    in
    let there =
    known.there c.unwrap-slot.result c.link_at-link.result c.link_at-next_link.result c.unwrap-next_slot.result seat
    c.link_at-next_link.ensures (sym c.slot-2.ensures ∙ c.unwrap-next_slot.ensures)
    in
    subst (λ u. HasRoom (link_of u c.link_at-next_link.result).slots c.unwrap-next_slot.result)
    (sym c.leave-word.ensures.after) there.0

pub invariant_of-self : goal.invariant_of-self
invariant_of-self c =
    let known =
    moving c.self.inside.image.now c.self.inside.cap c.self.inside.tables c.args.self.now c.self.view_is
    c.self.invariant c.args.message c.from-hop.result
    (subst (λ n. may_forward c.args.self.now.image c.args.self.now.cap (queues c.args.self.now).marks
    (queues c.args.self.now).bound c.args.message n ≡ true) (sym c.from-hop.ensures) c.requires.can)
    in
    let here =
    leaving c.self.inside.image.now c.self.inside.cap c.self.inside.tables c.args.self.now c.self.view_is
    c.self.invariant c.args.message c.from-hop.result known.here known.waits
    in
    let seat =
    here.slot c.unwrap-slot.result c.link_at-link.result (sym c.slot.ensures ∙ c.unwrap-slot.ensures) c.link_at-link.ensures
    in
    let there =
    known.there c.unwrap-slot.result c.link_at-link.result c.link_at-next_link.result c.unwrap-next_slot.result seat
    c.link_at-next_link.ensures (sym c.slot-2.ensures ∙ c.unwrap-next_slot.ensures)
    in
    let after : Done c.self.inside.image.now c.self.inside.cap c.push.new.self
    (forwarded (queues c.args.self.now) c.args.message c.args.hop) =
    moving_done c.self.inside.image.now c.self.inside.cap c.self.inside.tables c.leave-word.new.self c.push.new.self
    c.args.self.now c.args.message c.from-hop.result c.args.hop c.link_at-link.result c.link_at-next_link.result
    c.unwrap-slot.result c.unwrap-next_slot.result c.leave-word.result c.from-hop.ensures c.leave-word.ensures.after
    c.push.ensures (there.1 c.leave-word.result (seat.word c.leave-word.result c.leave-word.ensures.word))
    in
    after.fabric

pub returns-clause-after : goal.returns-clause-after
returns-clause-after c =
    let known =
    moving c.self.inside.image.now c.self.inside.cap c.self.inside.tables c.args.self.now c.self.view_is
    c.self.invariant c.args.message c.from-hop.result
    (subst (λ n. may_forward c.args.self.now.image c.args.self.now.cap (queues c.args.self.now).marks
    (queues c.args.self.now).bound c.args.message n ≡ true) (sym c.from-hop.ensures) c.requires.can)
    in
    let here =
    leaving c.self.inside.image.now c.self.inside.cap c.self.inside.tables c.args.self.now c.self.view_is
    c.self.invariant c.args.message c.from-hop.result known.here known.waits
    in
    let seat =
    here.slot c.unwrap-slot.result c.link_at-link.result (sym c.slot.ensures ∙ c.unwrap-slot.ensures) c.link_at-link.ensures
    in
    let there =
    known.there c.unwrap-slot.result c.link_at-link.result c.link_at-next_link.result c.unwrap-next_slot.result seat
    c.link_at-next_link.ensures (sym c.slot-2.ensures ∙ c.unwrap-next_slot.ensures)
    in
    let after : Done c.self.inside.image.now c.self.inside.cap c.push.new.self
    (forwarded (queues c.args.self.now) c.args.message c.args.hop) =
    moving_done c.self.inside.image.now c.self.inside.cap c.self.inside.tables c.leave-word.new.self c.push.new.self
    c.args.self.now c.args.message c.from-hop.result c.args.hop c.link_at-link.result c.link_at-next_link.result
    c.unwrap-slot.result c.unwrap-next_slot.result c.leave-word.result c.from-hop.ensures c.leave-word.ensures.after
    c.push.ensures (there.1 c.leave-word.result (seat.word c.leave-word.result c.leave-word.ensures.word))
    in
    after.seen

pub returns-clause-marks : goal.returns-clause-marks
returns-clause-marks c =
    ap (λ (r : Queues). r.marks) (returns-clause-after c)
    ∙ forward_marks (queues c.args.self.now) (seen _ _ _ c.args.self.now c.self.view_is c.self.invariant).kept c.args.message c.args.hop
    c.requires.can

pub returns-clause-bound : goal.returns-clause-bound
returns-clause-bound c =
    ap (λ (r : Queues). r.bound) (returns-clause-after c)
    ∙ forward_bound (queues c.args.self.now) (seen _ _ _ c.args.self.now c.self.view_is c.self.invariant).kept c.args.message c.args.hop
    c.requires.can

pub returns-clause-slices : goal.returns-clause-slices
returns-clause-slices c =
    λ m j g.
    ap (λ (r : Queues). slice r m j) (returns-clause-after c)
    ∙ forward_slices (queues c.args.self.now) (seen _ _ _ c.args.self.now c.self.view_is c.self.invariant).kept c.args.message c.args.hop
    c.requires.can m j g

pub returns-clause-stands : goal.returns-clause-stands
returns-clause-stands c =
    λ s st.
    subst (λ r. StandsFor r (record s { marks = raised_at s.marks c.args.message (suc c.args.hop) }))
    (sym (returns-clause-after c))
    (forward_stands (queues c.args.self.now) (seen _ _ _ c.args.self.now c.self.view_is c.self.invariant).kept c.args.message c.args.hop
    c.requires.can s st)

pub returns-clause-kept : goal.returns-clause-kept
returns-clause-kept c =
    let known =
    moving c.self.inside.image.now c.self.inside.cap c.self.inside.tables c.args.self.now c.self.view_is
    c.self.invariant c.args.message c.from-hop.result
    (subst (λ n. may_forward c.args.self.now.image c.args.self.now.cap (queues c.args.self.now).marks
    (queues c.args.self.now).bound c.args.message n ≡ true) (sym c.from-hop.ensures) c.requires.can)
    in
    let here =
    leaving c.self.inside.image.now c.self.inside.cap c.self.inside.tables c.args.self.now c.self.view_is
    c.self.invariant c.args.message c.from-hop.result known.here known.waits
    in
    let seat =
    here.slot c.unwrap-slot.result c.link_at-link.result (sym c.slot.ensures ∙ c.unwrap-slot.ensures) c.link_at-link.ensures
    in
    let there =
    known.there c.unwrap-slot.result c.link_at-link.result c.link_at-next_link.result c.unwrap-next_slot.result seat
    c.link_at-next_link.ensures (sym c.slot-2.ensures ∙ c.unwrap-next_slot.ensures)
    in
    let after : Done c.self.inside.image.now c.self.inside.cap c.push.new.self
    (forwarded (queues c.args.self.now) c.args.message c.args.hop) =
    moving_done c.self.inside.image.now c.self.inside.cap c.self.inside.tables c.leave-word.new.self c.push.new.self
    c.args.self.now c.args.message c.from-hop.result c.args.hop c.link_at-link.result c.link_at-next_link.result
    c.unwrap-slot.result c.unwrap-next_slot.result c.leave-word.result c.from-hop.ensures c.leave-word.ensures.after
    c.push.ensures (there.1 c.leave-word.result (seat.word c.leave-word.result c.leave-word.ensures.word))
    in
    after.fabric.kept
