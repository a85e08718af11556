use Rattle.std.proofs.Common.{◌∙◌, ap, sym}
use Rattle.cell_types.specs.Resolved.{resolved_expression}
use Rattle.cell_types.specs.bodies.Scopes.{scope_in}
use Rattle.cell_types.specs.Statics.{expression_faults}
use Rattle.cell_types.specs.Typed.{expression_of}
use Rattle.cell_types.specs.Written.{written_expression}
use Rattle.cell_types.specs.Written as T
use Rattle.cell_types.proofs.FirstFaults.{stops_with, resolves_same, first_left}
use Rattle.cell_types.proofs.WrittenSteps.{element_written, applied_written}
use Rattle.cell_types.proofs.expressions.+resolve_expression.Goals as goal

pub returns-in_err-base-in-At : goal.returns-in_err-base-in-At
returns-in_err-base-in-At t c =
    let is = ap written_expression c.in-At.is ∙ element_written _ _ in
    resolves_same expression_of _ _ _ _ c.from_residual.result
    (ap (expression_faults (scope_in c.args.scope.now) c.args.line) is)
    (ap (resolved_expression (scope_in c.args.scope.now)) is)
    (stops_with expression_of _ _ c.from_residual.result _ c.from_residual.ensures.1
    (first_left _ _ _ c.in_err-base-in-At.ensures))

pub returns-in_err-left-in-Binary : goal.returns-in_err-left-in-Binary
returns-in_err-left-in-Binary t c =
    let is = ap written_expression c.in-Binary.is ∙ applied_written _ _ _
    ∙ ap (λ left. T.Applied c.in-Binary.op (written_expression left) (written_expression c.in-Binary.right)) (sym c.into_inner-in-Binary.ensures) in
    resolves_same expression_of _ _ _ _ c.from_residual-in_err-left-in-Binary.result
    (ap (expression_faults (scope_in c.args.scope.now) c.args.line) is)
    (ap (resolved_expression (scope_in c.args.scope.now)) is)
    (stops_with expression_of _ _ c.from_residual-in_err-left-in-Binary.result _ c.from_residual-in_err-left-in-Binary.ensures.1
    (first_left _ _ _ c.in_err-left-in-Binary.ensures))
