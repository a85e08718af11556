-- A new simulation is in the opening state, to which the run without steps leads.
use Rattle.std.proofs.Common.{◌≡◌, ℕ, ◌≤◌, [], refl, ap, sym, subst, ◌∙◌, arith}
use Rattle.std.specs.List.{filter}
use Rattle.cell_code.specs.Images.{IsShaped}
use Rattle.array_model.specs.States.{opening}
use Rattle.array_sim.specs.Simulations.{IsAfter, IsReached, Simulation, inputs_of}
use Rattle.array_sim.specs.bodies.Inside.{scanned}
use Rattle.array_sim.proofs.Simulated.{listed_are, opening_after, opening_alone, opening_reached}
use Rattle.array_sim.proofs.sim.Sim.new.Goals as goal

abbrev sim : goal.After-list → Simulation
sim c = record { array = c.in_ok-array.array; steps = 0 }

starts : (c : goal.After-list) → IsAfter (sim c) [] (opening c.args.image.now)
starts c =
    opening_after (sim c) c.args.image.now c.in_ok-array.ensures.image refl c.in_ok-array.ensures.stands
    c.in_ok-array.ensures.peaks

reached : (c : goal.After-list) → IsReached (sim c)
reached c =
    opening_reached (sim c) c.args.image.now
    (inputs_of c.args.inputs.cells) c.args.cap c.requires.shaped c.requires.some_words
    c.requires.most_words c.requires.counted c.in_ok-array.ensures.image c.in_ok-array.ensures.cap
    c.in_ok-array.ensures.inputs
    (starts c)

pub new-requires : goal.new-requires
new-requires c = c.requires

pub actors_of-requires : goal.actors_of-requires
actors_of-requires c = c.requires.shaped

enough : (lent long asked room : ℕ) → lent ≡ long → asked ≡ long → asked ≤ room → lent ≤ room
enough lent long asked room l a r = omega arith

pub list-requires : goal.list-requires
list-requires c = enough _ _ _ _ c.deref.ensures.len c.len.ensures c.in_ok-enabled.ensures.capacity

still_enough : (items long asked room more : ℕ) → long ≡ items → asked ≡ long → asked ≤ room → room ≤ more
    → items ≤ more
still_enough items long asked room more i a r m = omega arith

pub invariant_of-result : goal.invariant_of-result
invariant_of-result c =
    record {
      reached = reached c;
      actors_are = c.in_ok-actors.ensures ∙ ap scanned (sym c.in_ok-array.ensures.image);
      listed =
          listed_are c.in_ok-array.array c.in_ok-actors.actors.items _
          (subst IsShaped (sym c.in_ok-array.ensures.image) c.requires.shaped)
          (c.in_ok-actors.ensures ∙ ap scanned (sym c.in_ok-array.ensures.image))
          (λ s st. c.list.ensures.listed s st ∙ ap (filter _) c.deref.ensures.value);
      room_is =
          still_enough _ _ _ _ _ c.in_ok-actors.actors.ok.0 c.len.ensures c.in_ok-enabled.ensures.capacity
          c.list.ensures.room;
    }

pub returns-clause-image : goal.returns-clause-image
returns-clause-image c = c.in_ok-array.ensures.image

pub returns-clause-cap : goal.returns-clause-cap
returns-clause-cap c = c.in_ok-array.ensures.cap

pub returns-clause-inputs : goal.returns-clause-inputs
returns-clause-inputs c = c.in_ok-array.ensures.inputs

pub returns-clause-steps : goal.returns-clause-steps
returns-clause-steps c = refl

pub returns-clause-peaks : goal.returns-clause-peaks
returns-clause-peaks c l k = c.in_ok-array.ensures.peaks l

pub returns-clause-alone : goal.returns-clause-alone
returns-clause-alone c s st =
    opening_alone c.in_ok-array.array c.args.image.now s c.in_ok-array.ensures.stands st

pub returns-clause-after : goal.returns-clause-after
returns-clause-after c = starts c

pub returns-clause-reached : goal.returns-clause-reached
returns-clause-reached c = reached c
