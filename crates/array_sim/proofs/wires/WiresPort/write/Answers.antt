-- A message to which a word may be written has a first hop, whose link alone gets a word.
use Rattle.std.proofs.Common.{subst}
use Rattle.array_sim.specs.bodies.Wiring.{HasWritten, IsRaised, Wired}
use Rattle.array_sim.proofs.Calls.{first_hop, link_held, link_inside, link_peak, pushed_raised, write_known}
use Rattle.array_sim.proofs.Peaks.{wired_after}
use Rattle.array_sim.proofs.wires.WiresPort.write.Goals as goal

pub link_at-link-requires-clause-hop : goal.link_at-link-requires-clause-hop
link_at-link-requires-clause-hop c =
    first_hop c.self.inside.image.now
    (record { fabric = c.self.inside.fabric; peaks = c.self.inside.peaks.items }) c.args.message c.self.invariant
    (write_known c.self.inside.image.now _ _ c.args.message _ c.self.invariant c.self.view_is c.can_write.ensures
    c.if-not-can_write.false)

pub held-requires : goal.held-requires
held-requires c =
    let known = write_known c.self.inside.image.now _ _ c.args.message _ c.self.invariant c.self.view_is
    c.can_write.ensures c.if-not-can_write.false in
    link_held c.self.inside.image.now
    (record { fabric = c.self.inside.fabric; peaks = c.self.inside.peaks.items }) c.push.new.self
    c.link_at-link.result c.self.invariant c.push.ensures.image
    (link_inside c.self.inside.image.now _ c.args.message 0 _ c.self.invariant known
    (first_hop c.self.inside.image.now _ c.args.message c.self.invariant known) c.link_at-link.ensures)

pub raise-requires : goal.raise-requires
raise-requires c =
    let known = write_known c.self.inside.image.now _ _ c.args.message _ c.self.invariant c.self.view_is
    c.can_write.ensures c.if-not-can_write.false in
    link_peak c.self.inside.image.now
    (record { fabric = c.self.inside.fabric; peaks = c.self.inside.peaks.items }) c.link_at-link.result
    c.self.invariant
    (link_inside c.self.inside.image.now _ c.args.message 0 _ c.self.invariant known
    (first_hop c.self.inside.image.now _ c.args.message c.self.invariant known) c.link_at-link.ensures)

-- the peak of that link alone may have risen
is_raised : (c : goal.After-raise) → IsRaised
    (record { fabric = c.self.inside.fabric; peaks = c.self.inside.peaks.items })
    (record { fabric = c.push.new.self; peaks = c.raise.new.peaks.items })
is_raised c =
    let known = write_known c.self.inside.image.now _ _ c.args.message _ c.self.invariant c.self.view_is
    c.can_write.ensures c.if-not-can_write.false in
    pushed_raised c.self.inside.image.now _ _ c.args.message c.args.word c.link_at-link.result c.self.invariant
    c.push.ensures.image c.push.ensures.cap c.push.ensures.kept
    (link_peak c.self.inside.image.now _ c.link_at-link.result c.self.invariant
    (link_inside c.self.inside.image.now _ c.args.message 0 _ c.self.invariant known
    (first_hop c.self.inside.image.now _ c.args.message c.self.invariant known) c.link_at-link.ensures))
    c.link_at-link.ensures (rw (← c.held.ensures.words) c.raise.ensures) c.push.ensures.slices

pub invariant_of-self : goal.invariant_of-self
invariant_of-self c = wired_after c.self.inside.image.now _ _ c.self.invariant (is_raised c)

pub returns-clause-written : goal.returns-clause-written
returns-clause-written c e =
    subst (λ (w : Wired). HasWritten w c.args.message c.args.word
    (record { fabric = c.push.new.self; peaks = c.raise.new.peaks.items }))
    c.self.view_is (record { is_raised = is_raised c; stands = c.push.ensures.stands })
