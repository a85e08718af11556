use Rattle.cell_types.specs.bodies.Scopes.{names_in}
use Rattle.cell_types.specs.bodies.Tables.{named_in}
use Rattle.cell_types.proofs.VariableSteps.{VariablesSoFar}
use Rattle.cell_types.proofs.variables.Variables.new.Given as goal

abbrev pub invariant-loop-variable : goal.invariant-loop-variable
invariant-loop-variable l =
    VariablesSoFar (named_in l.messages) l.declared l.variable-index (names_in l.names) l.slots.items l.words
