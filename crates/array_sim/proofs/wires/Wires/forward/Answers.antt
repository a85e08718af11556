-- A word that may move on has a next hop, whose link alone gets a word.
use Rattle.std.proofs.Common.{◌≡◌, ◌<◌, ◌*◌, suc, subst, arith}
use Rattle.cell_code.specs.Marks.{link_at}
use Rattle.array_model.specs.States.{cells}
use Rattle.array_sim.specs.bodies.Wiring.{HasMoved, IsRaised, Wired}
use Rattle.array_sim.proofs.Calls.{forward_may, link_held, link_peak, moved_raised, next_link}
use Rattle.array_sim.proofs.Peaks.{wired_after}
use Rattle.array_sim.proofs.wires.Wires.forward.Goals as goal

pub held-requires : goal.held-requires
held-requires c =
    link_held c.self.inside.image.now
    (record { fabric = c.self.inside.fabric; peaks = c.self.inside.peaks.items }) c.forward.new.self
    c.link_at-link.result c.self.invariant c.forward.ensures.image
    (next_link c.self.inside.image.now _ c.args.message c.args.hop _ _ c.self.invariant
    (forward_may (record { fabric = c.self.inside.fabric; peaks = c.self.inside.peaks.items }) _ c.args.message
    c.args.hop _ c.self.view_is c.can_forward.ensures c.if-not-can_forward.false)
    (omega (arith, c.from.ensures)) c.link_at-link.ensures).0

pub raise-requires : goal.raise-requires
raise-requires c =
    link_peak c.self.inside.image.now
    (record { fabric = c.self.inside.fabric; peaks = c.self.inside.peaks.items }) c.link_at-link.result
    c.self.invariant
    (next_link c.self.inside.image.now _ c.args.message c.args.hop _ _ c.self.invariant
    (forward_may (record { fabric = c.self.inside.fabric; peaks = c.self.inside.peaks.items }) _ c.args.message
    c.args.hop _ c.self.view_is c.can_forward.ensures c.if-not-can_forward.false)
    (omega (arith, c.from.ensures)) c.link_at-link.ensures).0

-- the peak of that link alone may have risen
is_raised : (c : goal.After-raise) → IsRaised
    (record { fabric = c.self.inside.fabric; peaks = c.self.inside.peaks.items })
    (record { fabric = c.forward.new.self; peaks = c.raise.new.peaks.items })
is_raised c =
    let on : (c.link_at-link.result < 4 * cells c.self.inside.image.now) ×
    (c.link_at-link.result ≡ link_at c.self.inside.image.now c.args.message (suc c.args.hop)) =
    next_link c.self.inside.image.now _ c.args.message c.args.hop _ _ c.self.invariant
    (forward_may (record { fabric = c.self.inside.fabric; peaks = c.self.inside.peaks.items }) _ c.args.message
    c.args.hop _ c.self.view_is c.can_forward.ensures c.if-not-can_forward.false)
    (omega (arith, c.from.ensures)) c.link_at-link.ensures
    in
    moved_raised c.self.inside.image.now _ _ c.args.message c.args.hop _ c.link_at-link.result c.self.invariant
    c.forward.ensures.image c.forward.ensures.cap c.forward.ensures.kept
    (link_peak c.self.inside.image.now
    (record { fabric = c.self.inside.fabric; peaks = c.self.inside.peaks.items }) c.link_at-link.result
    c.self.invariant on.0)
    on.1 (rw (← c.held.ensures.words) c.raise.ensures) c.forward.ensures.slices

pub invariant_of-self : goal.invariant_of-self
invariant_of-self c = wired_after c.self.inside.image.now _ _ c.self.invariant (is_raised c)

pub returns-clause-moved : goal.returns-clause-moved
returns-clause-moved c e =
    subst (λ (w : Wired). HasMoved w c.args.message (suc c.args.hop)
    (record { fabric = c.forward.new.self; peaks = c.raise.new.peaks.items }))
    c.self.view_is (record { is_raised = is_raised c; stands = c.forward.ensures.stands })
