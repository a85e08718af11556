use Rattle.cell_machine.specs.Machine.{IsReached}
use Rattle.codegen_tests.proofs.runs.run.Given as goal

abbrev pub invariant-loop-step : goal.invariant-loop-step
invariant-loop-step l = IsReached l.image l.state
