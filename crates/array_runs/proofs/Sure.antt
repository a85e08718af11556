-- Every run of a regular array is bounded, never stuck, and ends clean.
use Rattle.std.proofs.Common.{ℕ, ◌≤◌, max, List}
use Rattle.array_runs.specs.Frame.{Action, Frame}
use Rattle.array_runs.specs.Regular.{IsRegular}
use Rattle.array_runs.specs.Runs.{IsRun, IsSure, end_of}
use Rattle.array_runs.specs.States.{opening}
use Rattle.sys_base.specs.declared.actor.Actor.{Actor}
use Rattle.array_runs.proofs.Holding.{shaped_of}
use Rattle.array_runs.proofs.Bound.{run_within}
use Rattle.array_runs.proofs.Ends.{clean}
use Rattle.array_runs.proofs.Heads.{Reached}
use Rattle.array_runs.proofs.Progress.{progress}
use Rattle.array_runs.proofs.Steps.{opening_holds, run_keeps}

abbrev reached : (p : Frame) (actions : ℕ → List Action) (d cap : ℕ) → IsRegular p actions d → max 1 d ≤ cap
    → (run : List Actor) → IsRun p actions cap opening run → Reached
reached p actions d cap regular enough run is =
    record {
      p = p;
      actions = actions;
      d = d;
      cap = cap;
      regular = regular;
      enough = enough;
      s = end_of p actions opening run;
      holds = run_keeps p actions cap (shaped_of p actions d regular) opening run is (opening_holds p actions cap
          (shaped_of p actions d regular));
    }

pub sure : (p : Frame) (actions : ℕ → List Action) (d : ℕ) → IsRegular p actions d → IsSure p actions d
sure p actions d r =
    record {
      bounded = λ cap run enough is. run_within p actions cap (shaped_of p actions d r) run is;
      never_stuck = λ cap run enough is. progress (reached p actions d cap r enough run is);
      ends_clean = λ cap run enough is done. clean (reached p actions d cap r enough run is) done;
    }
