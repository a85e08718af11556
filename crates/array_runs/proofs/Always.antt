-- What holds in every state of every run of a regular array of machines.
use Rattle.std.proofs.Common.{ℕ, suc, List, arith}
use Rattle.sys_base.specs.declared.actor.Actor.{Actor}
use Rattle.array_runs.specs.Alone.{IsRegularArray}
use Rattle.array_runs.specs.Frame.{Action, Frame}
use Rattle.array_runs.specs.Holding.{HoldsAlways}
use Rattle.array_runs.specs.Machines.{Machine, IsArrayRun, array_end, array_opening}
use Rattle.array_runs.proofs.Arrays.{followed}
use Rattle.array_runs.proofs.Bound.{falls_along, written_at_most}
use Rattle.array_runs.proofs.Match.{at}
use Rattle.array_runs.proofs.Prefixes.{prefix_refl}
use Rattle.array_runs.proofs.Slices.{slice_long}
use Rattle.array_runs.proofs.Streams.{actions, shaped_actions}

pub holds_always : {X W : Type 0} (p : Frame) (mc : Machine X W) (start : ℕ → X) (lists : ℕ → List Action)
    (cost : ℕ → ℕ) (d : ℕ)
    → IsRegularArray p mc start lists cost d → (cap : ℕ) (run : List Actor)
    → IsArrayRun p mc cap (array_opening start) run → HoldsAlways p cap (array_end p mc (array_opening start) run)
holds_always p mc start lists cost d h cap run r =
    let a = array_end p mc (array_opening start) run in
    let f = followed p mc start lists cost d h a.history cap run r (λ m l. prefix_refl (a.history m)) in
    let flows = f.match.holds.flows in
    record {
      long = f.match.long;
      falls = flows.falls;
      within = written_at_most p (actions p mc start lists cost d h a.history) cap
          (shaped_actions p mc start lists cost d h a.history) (at a f.places) f.match.holds;
      entered = flows.entered;
      roomy = λ m i l g.
          let most = falls_along p cap a.mark a.bound flows m 0 i l (omega arith) (omega arith) in
          omega (
            arith,
            flows.roomy m i l g,
            most,
            f.match.long m,
            slice_long (a.history m) (a.mark m (suc i)) (a.mark m i),
          );
      counted = flows.counted;
      fitting = flows.fitting;
    }
