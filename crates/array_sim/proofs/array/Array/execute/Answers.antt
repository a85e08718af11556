-- The array after a step of a cell.
use Rattle.std.proofs.Common.{◌≡◌, true, false, sym, subst, ◌∙◌, arith}
use Rattle.std.proofs.lemmas.Bool.{both_ways}
use Rattle.sys_base.specs.declared.actor.Actor.TheVariants as A
use Rattle.array_model.specs.Steps.{is_enabled}
use Rattle.array_sim.specs.Simulations.{Contents, StandsFor, cap_in, inputs_in}
use Rattle.array_sim.specs.bodies.Inside.{HasStepped}
use Rattle.array_sim.proofs.Executing.{Ran, ran_array, ran_moved, ran_stepped, ran_waits, with_machine}
use Rattle.array_sim.proofs.array.Array.execute.Goals as goal
use Rattle.array_sim.proofs.array.Array.execute.Goals.{in-Moved, in_default}

-- the array before
abbrev before : goal.Joined-matches → Contents
before c =
    record {
      image = c.self.inside.image.now;
      cells = c.self.inside.cells.items;
      fabric = c.self.inside.wires.fabric;
      peaks = c.self.inside.wires.peaks;
    }

ran : (c : goal.Joined-matches) → Ran (before c) c.self.invariant c.args.cell c.from-index.result c.as_slice.result.now
    c.index-as_slice-index.result c.index_mut.result.now c.step.new.self c.step.new.port c.step.result
ran c =
    record {
      at = c.from-index.ensures;
      inside = omega (arith, c.if-index-len.false);
      images_are = c.as_slice.ensures;
      image_is = c.index-as_slice-index.is;
      old_is = c.index_mut.ensures.value;
      new_is = c.step.ensures.rest;
      reached = c.step.ensures.reached;
      row = c.step.ensures.row;
      refused = c.step.ensures.refused;
    }

pub invariant_of-self : goal.invariant_of-self
invariant_of-self c = ran_array (before c) c.self.invariant _ _ _ _ _ _ _ _ (ran c)

pub returns-clause-answer : goal.returns-clause-answer
returns-clause-answer c s st =
    let mine : StandsFor (before c) s = subst (λ (n : Contents). StandsFor n s) (sym c.self.view_is) st in
    elim c.match-matches.branch [
      | in-Moved w ↦
          w.matches-is
          ∙ sym (subst (λ (n : Contents). is_enabled n.image (inputs_in n) (cap_in n) s
          (A.Cell c.args.cell) ≡ true) c.self.view_is
          (ran_moved (before c) c.self.invariant _ _ _ _ _ _ _ _ (ran c) s mine w.in-Moved.is))
      | in_default w ↦
          w.matches-is
          ∙ sym (subst (λ (n : Contents). is_enabled n.image (inputs_in n) (cap_in n) s
          (A.Cell c.args.cell) ≡ false) c.self.view_is
          (ran_waits (before c) c.self.invariant _ _ _ _ _ _ _ _ (ran c) s mine w.in_default.not-Moved))
    ]

pub returns-clause-stepped : goal.returns-clause-stepped
returns-clause-stepped c e =
    elim c.match-matches.branch [
      | in-Moved w ↦
          subst (λ (n : Contents). HasStepped n (A.Cell c.args.cell)
          (with_machine (before c) c.self.invariant c.from-index.result c.step.new.self c.step.new.port))
          c.self.view_is
          (ran_stepped (before c) c.self.invariant _ _ _ _ _ _ _ _ (ran c) w.in-Moved.is)
      | in_default w ↦ absurd (both_ways _ w.matches-is e)
    ]
