-- A link that may bind is a link of the grid, and its queues get no words by it.
use Rattle.std.proofs.Common.{refl, subst}
use Rattle.array_sim.specs.bodies.Wiring.{HasBound, IsRaised, Wired}
use Rattle.array_sim.proofs.Calls.{bound_inside, bound_raised}
use Rattle.array_sim.proofs.Peaks.{wired_after}
use Rattle.array_sim.proofs.wires.Wires.bind.Goals as goal

pub bind-requires-clause-link : goal.bind-requires-clause-link
bind-requires-clause-link c =
    bound_inside c.self.inside.image.now
    (record { fabric = c.self.inside.fabric; peaks = c.self.inside.peaks.items }) _ c.args.link _
    c.self.invariant c.self.view_is c.can_bind.ensures c.if-not-can_bind.false

-- no peak rises
is_raised : (c : goal.After-bind) → IsRaised
    (record { fabric = c.self.inside.fabric; peaks = c.self.inside.peaks.items })
    (record { fabric = c.bind.new.self; peaks = c.self.inside.peaks.items })
is_raised c =
    bound_raised c.self.inside.image.now _ _ c.self.invariant c.bind.ensures.image c.bind.ensures.cap
    c.bind.ensures.kept refl
    c.bind.ensures.slices

pub invariant_of-self : goal.invariant_of-self
invariant_of-self c = wired_after c.self.inside.image.now _ _ c.self.invariant (is_raised c)

pub returns-clause-bound : goal.returns-clause-bound
returns-clause-bound c e =
    subst (λ (w : Wired). HasBound w c.args.link
    (record { fabric = c.bind.new.self; peaks = c.self.inside.peaks.items }))
    c.self.view_is (record { is_raised = is_raised c; stands = c.bind.ensures.stands })
