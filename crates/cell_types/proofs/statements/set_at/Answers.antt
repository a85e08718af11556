use Rattle.std.proofs.Common.{◌++◌}
use Rattle.cell_types.specs.bodies.Scopes.{scope_in}
use Rattle.cell_types.specs.Statics.{expression_faults, is_array, name_faults}
use Rattle.cell_types.specs.Typed.{action_of}
use Rattle.cell_types.specs.Written.{written_expression}
use Rattle.cell_types.proofs.FirstFaults.{first_left, first_right, stops_with}
use Rattle.cell_types.proofs.statements.set_at.Goals as goal

pub returns-in_err-base : goal.returns-in_err-base
returns-in_err-base c =
    stops_with action_of _ _ c.from_residual.result _ c.from_residual.ensures.1
    (first_left
    (name_faults is_array (scope_in c.args.scope.now) c.args.line c.args.name.now
    ++ expression_faults (scope_in c.args.scope.now) c.args.line (written_expression c.args.index))
    (expression_faults (scope_in c.args.scope.now) c.args.line (written_expression c.args.value)) _
    (first_left (name_faults is_array (scope_in c.args.scope.now) c.args.line c.args.name.now)
    (expression_faults (scope_in c.args.scope.now) c.args.line (written_expression c.args.index)) _ c.in_err-base.ensures))

pub returns-in_err-index : goal.returns-in_err-index
returns-in_err-index c =
    stops_with action_of _ _ c.from_residual-in_err-index.result _ c.from_residual-in_err-index.ensures.1
    (first_left
    (name_faults is_array (scope_in c.args.scope.now) c.args.line c.args.name.now
    ++ expression_faults (scope_in c.args.scope.now) c.args.line (written_expression c.args.index))
    (expression_faults (scope_in c.args.scope.now) c.args.line (written_expression c.args.value)) _
    (first_right (name_faults is_array (scope_in c.args.scope.now) c.args.line c.args.name.now)
    (expression_faults (scope_in c.args.scope.now) c.args.line (written_expression c.args.index)) _
    c.in_ok-base.ensures.0 c.in_err-index.ensures))
