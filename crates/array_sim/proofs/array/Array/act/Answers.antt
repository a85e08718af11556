-- What a step of the queues does to the array.
use Rattle.std.proofs.Common.{subst, sym}
use Rattle.sys_base.specs.declared.actor.Actor.{Actor}
use Rattle.sys_base.specs.declared.actor.Actor.TheVariants as A
use Rattle.array_sim.specs.Simulations.{Contents}
use Rattle.array_sim.specs.bodies.Inside.{HasStepped}
use Rattle.array_sim.proofs.Executing.{bound_next, moved_on, rewired, with_rewired}
use Rattle.array_sim.proofs.array.Array.act.Goals as goal

-- the array before a word moves on, and before a link binds
abbrev before : goal.After-forward → Contents
before c =
    record {
      image = c.self.inside.image.now;
      cells = c.self.inside.cells.items;
      fabric = c.self.inside.wires.fabric;
      peaks = c.self.inside.wires.peaks;
    }

abbrev before_bind : goal.After-bind → Contents
before_bind c =
    record {
      image = c.self-in-Bind.inside.image.now;
      cells = c.self-in-Bind.inside.cells.items;
      fabric = c.self-in-Bind.inside.wires.fabric;
      peaks = c.self-in-Bind.inside.wires.peaks;
    }

pub invariant_of-self : goal.invariant_of-self
invariant_of-self c =
    with_rewired (before c) c.self.invariant c.forward.new.self
    (rewired (before c) c.self.invariant c.forward.new.self c.forward.result
    (λ e. (c.forward.ensures.moved e).is_raised)
    c.forward.ensures.refused)

pub invariant_of-self-in-Bind : goal.invariant_of-self-in-Bind
invariant_of-self-in-Bind c =
    with_rewired (before_bind c) c.self-in-Bind.invariant c.bind.new.self
    (rewired (before_bind c) c.self-in-Bind.invariant c.bind.new.self c.bind.result
    (λ e. (c.bind.ensures.bound e).is_raised)
    c.bind.ensures.refused)

pub returns-in-Forward-clause-stepped : goal.returns-in-Forward-clause-stepped
returns-in-Forward-clause-stepped c e =
    subst (λ (actor : Actor). HasStepped c.args.self.now actor
    (record {
      image = c.self.inside.image.now;
      cells = c.self.inside.cells.items;
      fabric = c.forward.new.self.fabric;
      peaks = c.forward.new.self.peaks;
    }))
    (sym c.in-Forward.is)
    (subst (λ (n : Contents). HasStepped n (A.Forward c.in-Forward.message c.in-Forward.hop)
    (record {
      image = c.self.inside.image.now;
      cells = c.self.inside.cells.items;
      fabric = c.forward.new.self.fabric;
      peaks = c.forward.new.self.peaks;
    }))
    c.self.view_is
    (moved_on (before c) c.self.invariant c.forward.new.self c.in-Forward.message c.in-Forward.hop
    (c.forward.ensures.moved e)))

pub returns-in-Bind-clause-stepped : goal.returns-in-Bind-clause-stepped
returns-in-Bind-clause-stepped c e =
    subst (λ (actor : Actor). HasStepped c.args.self.now actor
    (record {
      image = c.self-in-Bind.inside.image.now;
      cells = c.self-in-Bind.inside.cells.items;
      fabric =
          c.bind.new.self.fabric;
      peaks = c.bind.new.self.peaks;
    }))
    (sym c.in-Bind.is)
    (subst (λ (n : Contents). HasStepped n (A.Bind c.in-Bind.link)
    (record {
      image = c.self-in-Bind.inside.image.now;
      cells = c.self-in-Bind.inside.cells.items;
      fabric =
          c.bind.new.self.fabric;
      peaks = c.bind.new.self.peaks;
    }))
    c.self-in-Bind.view_is
    (bound_next (before_bind c) c.self-in-Bind.invariant c.bind.new.self c.in-Bind.link (c.bind.ensures.bound e)))
