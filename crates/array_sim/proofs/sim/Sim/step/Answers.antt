-- The run of the old simulation, with one step more, leads to the new one.
use Rattle.std.proofs.Common.{◌≡◌, ◌*◌, ◌+◌, ◌<◌, max, [], ◌∷◌, ◌++◌, Some, refl, ap, sym, subst, ◌∙◌, arith}
use Rattle.std.specs.List.{filter}
use Rattle.std.specs.Vec.{vec_capacity}
use Rattle.array_model.specs.Runs.{words_on}
use Rattle.array_model.specs.States.{cells}
use Rattle.array_model.specs.Steps.{step}
use Rattle.array_sim.specs.Simulations.{Contents, IsAfter, IsReached, Simulation, StandsFor, cap_in, inputs_in, peak_in}
use Rattle.array_sim.specs.bodies.Inside.{HasStepped, IsSimulation, scanned}
use Rattle.array_sim.proofs.Simulated.{after_step, listed_are, peaks_by, still_reached}
use Rattle.array_sim.proofs.sim.Sim.step.Goals as goal

abbrev old : goal.After-self-1 → Simulation
old c = record { array = c.self.inside.array; steps = c.self.inside.steps }

abbrev new : goal.After-self-1 → Simulation
new c = record { array = c.act.new.self; steps = c.self.inside.steps + 1 }

stepped : (c : goal.After-self-1) → HasStepped c.self.inside.array c.args.actor c.act.new.self
stepped c = c.act.ensures.stepped c.if-not-act.false

reached : (c : goal.After-self-1) → IsReached (new c)
reached c =
    still_reached (old c) (new c) c.args.actor (stepped c) refl c.self.invariant.reached
    (λ s st. sym c.if-not-act.false ∙ c.act.ensures.answer s st)

pub invariant_of-self : goal.invariant_of-self
invariant_of-self c =
    subst (λ (a : Contents). IsSimulation
    (record { array = a; steps = c.self.inside.steps }) c.self.inside.actors.items
    c.self.inside.enabled.items (vec_capacity c.self.inside.enabled))
    (sym (c.act.ensures.refused c.if-not-act.true)) c.self.invariant

pub invariant_of-self-2 : goal.invariant_of-self-2
invariant_of-self-2 c =
    let all = c.self.invariant.actors_are ∙ ap scanned (sym (stepped c).image_is) in
    record {
      reached = reached c;
      actors_are = all;
      listed =
          listed_are c.act.new.self c.self.inside.actors.items _ (reached c).shaped all
          (λ s st. c.list.ensures.listed s st ∙ ap (filter _) c.deref.ensures.value);
      room_is = omega (arith, c.self.invariant.room_is, c.list.ensures.room);
    }

pub returns-clause-leads : goal.returns-clause-leads
returns-clause-leads c e s next =
    subst (λ (n : Simulation). StandsFor n.array s
    → step n.array.image (inputs_in n.array) (cap_in n.array) s c.args.actor ≡ Some next
    → StandsFor c.act.new.self next) c.self.view_is ((stepped c).leads s next)

pub returns-clause-peaks : goal.returns-clause-peaks
returns-clause-peaks c e next l st =
    subst (λ (n : Simulation). l < 4 * cells n.array.image
    → peak_in c.act.new.self l ≡ max (peak_in n.array l) (words_on n.array.image l next)) c.self.view_is
    (peaks_by c.self.inside.array c.act.new.self c.args.actor next l (stepped c) st)

pub returns-clause-after : goal.returns-clause-after
returns-clause-after c e run last next =
    subst (λ (n : Simulation). IsAfter n run last
    → step n.array.image (inputs_in n.array) (cap_in n.array) last c.args.actor ≡ Some next
    → IsAfter (new c) (run ++ c.args.actor ∷ []) next) c.self.view_is
    (after_step (old c) (new c) c.args.actor (stepped c) refl run last next)

pub returns-clause-reached : goal.returns-clause-reached
returns-clause-reached c = reached c
