use Rattle.std.proofs.Common.{◌∙◌, arith}
use Rattle.array_drive.proofs.Turning.{drives_by, drives_out, follows_both, never_stopped}
use Rattle.array_drive.proofs.driving.drive.Goals as goal

pub returns-in-Some-clause-driven : goal.returns-in-Some-clause-driven
returns-in-Some-clause-driven g c run last after =
    drives_by g.C.Chooser.picks c.args.sim.now c.loop.sim c.turn.new.sim c.args.chooser.now c.loop.chooser c.turn.new.chooser
    c.args.trail.now c.loop.trail c.turn.new.trail run last c.in-Some.driven c.loop.invariant.same
    (c.loop.invariant.follows run last after) (c.turn.ensures.ends c.in-Some.driven c.in-Some.is)
    (c.turn.ensures.sim c.in-Some.driven c.in-Some.is) (c.turn.ensures.trail c.in-Some.driven c.in-Some.is)

pub returns-in-Some-clause-never : goal.returns-in-Some-clause-never
returns-in-Some-clause-never g c never =
    let r = c.loop.invariant.reached in
    never_stopped g.C.Chooser.picks c.loop.sim r.last c.loop.chooser c.in-Some.driven c.turn.new.chooser never
    (c.turn.ensures.ends c.in-Some.driven c.in-Some.is r.run r.last r.after)

pub loop-preserved : goal.loop-preserved
loop-preserved g c =
    let made = c.in_default.is in
    record {
      same =
          record {
            image = c.turn.ensures.image ∙ c.loop.invariant.same.image;
            cap = c.turn.ensures.cap ∙ c.loop.invariant.same.cap;
            inputs = c.turn.ensures.inputs ∙ c.loop.invariant.same.inputs;
          };
      counted = omega (arith, c.turn.ensures.steps made, c.loop.invariant.counted);
      bound = c.loop.invariant.bound;
      room = omega (arith, c.turn.ensures.roomy made, c.loop.invariant.room);
      reached = c.turn.ensures.reached;
      follows = λ run last after.
          follows_both g.C.Chooser.picks c.args.sim.now c.loop.sim c.turn.new.sim c.args.chooser.now c.loop.chooser
          c.turn.new.chooser c.args.trail.now c.loop.trail c.turn.new.trail run last c.loop.invariant.same
          (c.loop.invariant.follows run last after) (c.turn.ensures.follows made);
      later = omega (arith, c.loop.invariant.later, c.turn.ensures.later);
    }

pub returns-clause-driven : goal.returns-clause-driven
returns-clause-driven g c run last after =
    drives_out g.C.Chooser.picks c.args.sim.now c.loop.sim c.args.chooser.now c.loop.chooser c.args.trail.now c.loop.trail run last
    c.loop.invariant.same c.requires.sure c.loop.invariant.reached
    (omega (arith, c.loop-test.false, c.loop.invariant.bound, c.loop.invariant.counted))
    (c.loop.invariant.follows run last after)
