use Rattle.std.proofs.Common.{ap, sym, subst, ◌∙◌, ◌≤◌, max, arith}
use Rattle.array_model.specs.Runs.{IsSure}
use Rattle.array_sim.specs.Simulations.{cap_in}
use Rattle.drive_tests.proofs.running.run.Goals as goal

pub drive-driven-requires-clause-sure : goal.drive-driven-requires-clause-sure
drive-driven-requires-clause-sure g c =
    record {
      least = c.in_ok-image.image.buffer;
      enough = omega (arith, c.in_ok-sim.ensures.cap, c.max.ensures);
      sure = subst (λ i. IsSure i c.in_ok-image.image.buffer) (sym c.in_ok-sim.ensures.image) c.in_ok-image.ensures.sure;
    }
