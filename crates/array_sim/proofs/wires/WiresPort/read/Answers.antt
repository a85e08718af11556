-- No queues get a word by a read.
use Rattle.std.proofs.Common.{refl, subst}
use Rattle.array_sim.specs.bodies.Wiring.{HasGiven, IsRaised, Wired}
use Rattle.array_sim.proofs.Calls.{popped_raised}
use Rattle.array_sim.proofs.Peaks.{wired_after}
use Rattle.array_sim.proofs.wires.WiresPort.read.Goals as goal

-- no peak rises
is_raised : (c : goal.After-pop) → IsRaised
    (record { fabric = c.self.inside.fabric; peaks = c.self.inside.peaks.items })
    (record { fabric = c.pop.new.self; peaks = c.self.inside.peaks.items })
is_raised c =
    popped_raised c.self.inside.image.now _ _ c.args.message _ c.self.invariant c.pop.ensures.image c.pop.ensures.cap
    c.pop.ensures.kept refl
    c.pop.ensures.slices

pub invariant_of-self : goal.invariant_of-self
invariant_of-self c = wired_after c.self.inside.image.now _ _ c.self.invariant (is_raised c)

pub returns-clause-given : goal.returns-clause-given
returns-clause-given c =
    subst (λ (w : Wired). HasGiven w c.args.message c.pop.result
    (record { fabric = c.pop.new.self; peaks = c.self.inside.peaks.items }))
    c.self.view_is (record { is_raised = is_raised c; is_oldest = c.pop.ensures.read; stands = c.pop.ensures.stands })
