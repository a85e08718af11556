use Rattle.std.proofs.Common.{[], None, Some, subst}
use Rattle.std.specs.Prelude.{⊤}
use Rattle.rendezvous.specs.bodies.Running.{Goes}
use Rattle.rendezvous.proofs.Coming.{goes_on}
use Rattle.rendezvous.proofs.runner.Runner.next.Goals as goal

pub returns-in-Some-clause-goes : goal.returns-in-Some-clause-goes
returns-in-Some-clause-goes c =
    goes_on (λ v s. s) [] ⊤ c.args.self.now c.loop-self.self c.step.new.self (Some c.in-Some.event) c.loop-self.invariant.goes
    (subst (Goes c.loop-self.self c.step.new.self) c.in-Some.is c.in_ok-event.ensures.goes)

pub loop-self-preserved : goal.loop-self-preserved
loop-self-preserved c =
    record {
      goes = goes_on (λ v s. s) [] ⊤ c.args.self.now c.loop-self.self c.step.new.self None c.loop-self.invariant.goes
          (subst (Goes c.loop-self.self c.step.new.self) c.in_default.is c.in_ok-event.ensures.goes);
      ready = c.in_ok-event.ensures.ready.ready;
    }
