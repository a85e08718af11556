use Rattle.std.proofs.Common.{None}
use Rattle.rendezvous.specs.bodies.Running.{Goes, IsReady, tasks_weight}
use Rattle.rendezvous.proofs.runner.Runner.next.Given as goal

abbrev pub invariant-loop-self : goal.invariant-loop-self
invariant-loop-self l = record { goes : Goes l.fn.self l.self None; ready : IsReady l.self }

abbrev pub decreases-loop-self : goal.decreases-loop-self
decreases-loop-self l = tasks_weight l.self.tasks.items
