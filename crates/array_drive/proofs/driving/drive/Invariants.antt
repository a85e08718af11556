use Rattle.std.proofs.Common.{◌≡◌, ◌+◌, ◌≤◌, List}
use Rattle.sys_base.specs.declared.actor.Actor.{Actor}
use Rattle.array_model.specs.States.{ArrayState}
use Rattle.array_sim.specs.Simulations.{IsAfter, IsReached}
use Rattle.array_drive.specs.Driven.{Follows}
use Rattle.array_drive.proofs.Turning.{IsSameArray}
use Rattle.array_drive.proofs.driving.drive.Given as goal

abbrev pub invariant-loop : goal.invariant-loop
invariant-loop g l =
    record {
      same : IsSameArray g.C.Chooser.picks l.fn.sim l.sim;
      counted : l.sim.steps ≡ l.counter;
      bound : l.end ≡ l.fn.sim.array.image.bound;
      room : l.end ≤ l.counter + l.trail.room;
      reached : IsReached l.sim;
      follows : (run : List Actor) (last : ArrayState) → IsAfter l.fn.sim run last
          → Follows g.C.Chooser.picks l.fn.sim l.fn.chooser l.fn.trail run last l.sim l.chooser l.trail;
      later : g.C.Chooser.stops l.fn.chooser ≤ g.C.Chooser.stops l.chooser;
    }
