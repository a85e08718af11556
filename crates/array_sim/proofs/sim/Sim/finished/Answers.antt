use Rattle.std.proofs.Common.{◌↔◌, subst}
use Rattle.std.specs.Prelude.{IsTrue}
use Rattle.array_model.specs.Runs.{IsFinished}
use Rattle.array_model.specs.States.{ArrayState}
use Rattle.array_sim.specs.Simulations.{Simulation, StandsFor}
use Rattle.array_sim.proofs.sim.Sim.finished.Goals as goal

pub returns-clause-finished : goal.returns-clause-finished
returns-clause-finished c =
    subst (λ (n : Simulation). (s : ArrayState) → StandsFor n.array s
    → IsTrue c.is_finished.result ↔ IsFinished n.array.image s)
    c.self.view_is c.is_finished.ensures
