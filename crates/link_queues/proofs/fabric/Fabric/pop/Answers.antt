use Rattle.std.proofs.Common.{◌-◌, is_some, sym, subst, ap, ◌∙◌}
use Rattle.cell_code.specs.Marks.{hops}
use Rattle.link_queues.specs.Fabrics.{Queues, oldest, popped, slice}
use Rattle.link_queues.specs.Standing.{StandsFor, advanced}
use Rattle.link_queues.specs.Tables.{queues}
use Rattle.link_queues.proofs.Calls.{pop_bound, pop_marks, pop_reads, pop_slices, pop_stands}
use Rattle.link_queues.proofs.Moves.{Done}
use Rattle.link_queues.proofs.Opened.{seen}
use Rattle.link_queues.proofs.Pops.{popping, read_done}
use Rattle.link_queues.proofs.fabric.Fabric.pop.Goals as goal

pub unwrap-slot-requires : goal.unwrap-slot-requires
unwrap-slot-requires c =
    let known =
    popping c.self.inside.image.now c.self.inside.cap c.self.inside.tables c.args.self.now c.self.view_is
    c.self.invariant c.args.message c.hops-hop.result c.requires.message c.requires.can c.hops-hop.ensures.hops
    in
    ap is_some c.slot.ensures ∙ known.1.sits

pub leave-requires-clause-held : goal.leave-requires-clause-held
leave-requires-clause-held c =
    let known =
    popping c.self.inside.image.now c.self.inside.cap c.self.inside.tables c.args.self.now c.self.view_is
    c.self.invariant c.args.message c.hops-hop.result c.requires.message c.requires.can c.hops-hop.ensures.hops
    in
    let seat =
    known.1.slot c.unwrap-slot.result c.link_at-link.result (sym c.slot.ensures ∙ c.unwrap-slot.ensures) c.link_at-link.ensures
    in
    seat.held

pub invariant_of-self : goal.invariant_of-self
invariant_of-self c =
    let known =
    popping c.self.inside.image.now c.self.inside.cap c.self.inside.tables c.args.self.now c.self.view_is
    c.self.invariant c.args.message c.hops-hop.result c.requires.message c.requires.can c.hops-hop.ensures.hops
    in
    let seat =
    known.1.slot c.unwrap-slot.result c.link_at-link.result (sym c.slot.ensures ∙ c.unwrap-slot.ensures) c.link_at-link.ensures
    in
    let after : Done c.self.inside.image.now c.self.inside.cap c.leave.new.self (popped (queues c.args.self.now) c.args.message) =
    read_done c.self.inside.image.now c.self.inside.cap c.leave.new.self c.args.self.now c.self.inside.tables c.args.message
    (c.hops-hop.result - 1) c.link_at-link.result c.unwrap-slot.result seat known.0 c.leave.ensures.after
    in
    after.fabric

pub returns-clause-word : goal.returns-clause-word
returns-clause-word c =
    let known =
    popping c.self.inside.image.now c.self.inside.cap c.self.inside.tables c.args.self.now c.self.view_is
    c.self.invariant c.args.message c.hops-hop.result c.requires.message c.requires.can c.hops-hop.ensures.hops
    in
    let seat =
    known.1.slot c.unwrap-slot.result c.link_at-link.result (sym c.slot.ensures ∙ c.unwrap-slot.ensures) c.link_at-link.ensures
    in
    seat.word c.leave.result c.leave.ensures.word ∙ ap (oldest (queues c.args.self.now) c.args.message) known.0.is

pub returns-clause-read : goal.returns-clause-read
returns-clause-read c =
    λ s st. returns-clause-word c ∙ pop_reads (queues c.args.self.now) (seen _ _ _ c.args.self.now c.self.view_is c.self.invariant).kept c.args.message c.requires.message
    c.requires.can s st

pub returns-clause-after : goal.returns-clause-after
returns-clause-after c =
    let known =
    popping c.self.inside.image.now c.self.inside.cap c.self.inside.tables c.args.self.now c.self.view_is
    c.self.invariant c.args.message c.hops-hop.result c.requires.message c.requires.can c.hops-hop.ensures.hops
    in
    let seat =
    known.1.slot c.unwrap-slot.result c.link_at-link.result (sym c.slot.ensures ∙ c.unwrap-slot.ensures) c.link_at-link.ensures
    in
    let after : Done c.self.inside.image.now c.self.inside.cap c.leave.new.self (popped (queues c.args.self.now) c.args.message) =
    read_done c.self.inside.image.now c.self.inside.cap c.leave.new.self c.args.self.now c.self.inside.tables c.args.message
    (c.hops-hop.result - 1) c.link_at-link.result c.unwrap-slot.result seat known.0 c.leave.ensures.after
    in
    after.seen

pub returns-clause-marks : goal.returns-clause-marks
returns-clause-marks c =
    ap (λ (r : Queues). r.marks) (returns-clause-after c)
    ∙ pop_marks (queues c.args.self.now) (seen _ _ _ c.args.self.now c.self.view_is c.self.invariant).kept c.args.message c.requires.message
    c.requires.can

pub returns-clause-bound : goal.returns-clause-bound
returns-clause-bound c =
    ap (λ (r : Queues). r.bound) (returns-clause-after c)
    ∙ pop_bound (queues c.args.self.now) (seen _ _ _ c.args.self.now c.self.view_is c.self.invariant).kept c.args.message c.requires.message
    c.requires.can

pub returns-clause-slices : goal.returns-clause-slices
returns-clause-slices c =
    λ m hop g.
    ap (λ (r : Queues). slice r m hop) (returns-clause-after c)
    ∙ pop_slices (queues c.args.self.now) (seen _ _ _ c.args.self.now c.self.view_is c.self.invariant).kept c.args.message c.requires.message
    c.requires.can m hop g

pub returns-clause-stands : goal.returns-clause-stands
returns-clause-stands c =
    λ s cell st.
    subst (λ r. StandsFor r (advanced s cell c.args.message (hops c.args.self.now.image c.args.message)))
    (sym (returns-clause-after c))
    (pop_stands (queues c.args.self.now) (seen _ _ _ c.args.self.now c.self.view_is c.self.invariant).kept c.args.message c.requires.message
    c.requires.can s cell st)

pub returns-clause-kept : goal.returns-clause-kept
returns-clause-kept c =
    let known =
    popping c.self.inside.image.now c.self.inside.cap c.self.inside.tables c.args.self.now c.self.view_is
    c.self.invariant c.args.message c.hops-hop.result c.requires.message c.requires.can c.hops-hop.ensures.hops
    in
    let seat =
    known.1.slot c.unwrap-slot.result c.link_at-link.result (sym c.slot.ensures ∙ c.unwrap-slot.ensures) c.link_at-link.ensures
    in
    let after : Done c.self.inside.image.now c.self.inside.cap c.leave.new.self (popped (queues c.args.self.now) c.args.message) =
    read_done c.self.inside.image.now c.self.inside.cap c.leave.new.self c.args.self.now c.self.inside.tables c.args.message
    (c.hops-hop.result - 1) c.link_at-link.result c.unwrap-slot.result seat known.0 c.leave.ensures.after
    in
    after.fabric.kept
