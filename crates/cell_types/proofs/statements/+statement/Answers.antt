use Rattle.std.proofs.Common.{◌++◌, length, sym, subst, ap, ◌∙◌, arith}
use Rattle.std.proofs.lemmas.List.{nil_from_length}
use Rattle.std.specs.Vec.Iter.{into_iter_items}
use Rattle.cell_types.specs.Resolved.{resolved_action}
use Rattle.cell_types.specs.bodies.Scopes.{scope_in, written_action}
use Rattle.cell_types.specs.Statics.{expression_faults, action_faults, block_faults}
use Rattle.cell_types.specs.Typed.{action_of, block_of}
use Rattle.cell_types.specs.Written.{written_block, written_expression}
use Rattle.cell_types.proofs.FirstFaults.{stops_with, resolves_same, first_left, first_right}
use Rattle.cell_types.proofs.StatementSteps.{BlockSoFar, block_all, block_more, block_stop, for_made, if_made}
use Rattle.cell_types.proofs.WrittenSteps.{read_written, for_written, if_written}
use Rattle.cell_types.proofs.statements.+statement.Goals as goal

pub resolve_act-returns-in_err-test-in-If-clause-action :
    goal.resolve_act-returns-in_err-test-in-If-clause-action
resolve_act-returns-in_err-test-in-If-clause-action t c =
    let is = ap written_action c.in-If.is ∙ if_written _ _ _ in
    resolves_same action_of _ _ _ _ c.from_residual-in_err-test-in-If.result
    (ap (action_faults (scope_in c.args.scope.now) c.args.line) is)
    (ap (resolved_action (scope_in c.args.scope.now)) is)
    (stops_with action_of _ _ c.from_residual-in_err-test-in-If.result _ c.from_residual-in_err-test-in-If.ensures.1
    (first_left
    (expression_faults (scope_in c.args.scope.now) c.args.line (written_expression c.in-If.test)
    ++ block_faults (scope_in c.args.scope.now) (written_block c.in-If.yes))
    (block_faults (scope_in c.args.scope.now) (written_block c.in-If.no)) _
    (first_left (expression_faults (scope_in c.args.scope.now) c.args.line (written_expression c.in-If.test))
    (block_faults (scope_in c.args.scope.now) (written_block c.in-If.yes)) _ c.in_err-test-in-If.ensures)))

pub resolve_act-returns-in_err-yes-in-If-clause-action :
    goal.resolve_act-returns-in_err-yes-in-If-clause-action
resolve_act-returns-in_err-yes-in-If-clause-action t c =
    let is = ap written_action c.in-If.is ∙ if_written _ _ _ in
    resolves_same action_of _ _ _ _ c.from_residual-in_err-yes-in-If.result
    (ap (action_faults (scope_in c.args.scope.now) c.args.line) is)
    (ap (resolved_action (scope_in c.args.scope.now)) is)
    (stops_with action_of _ _ c.from_residual-in_err-yes-in-If.result _ c.from_residual-in_err-yes-in-If.ensures.1
    (first_left
    (expression_faults (scope_in c.args.scope.now) c.args.line (written_expression c.in-If.test)
    ++ block_faults (scope_in c.args.scope.now) (written_block c.in-If.yes))
    (block_faults (scope_in c.args.scope.now) (written_block c.in-If.no)) _
    (first_right (expression_faults (scope_in c.args.scope.now) c.args.line (written_expression c.in-If.test))
    (block_faults (scope_in c.args.scope.now) (written_block c.in-If.yes)) _
    c.in_ok-test-in-If.ensures.0 c.in_err-yes-in-If.ensures.block)))

pub resolve_act-returns-in-Read-clause-action : goal.resolve_act-returns-in-Read-clause-action
resolve_act-returns-in-Read-clause-action t c =
    let is = ap written_action c.in-Read.is ∙ read_written _ _ in
    resolves_same action_of _ _ _ _ c.read.result
    (ap (action_faults (scope_in c.args.scope.now) c.args.line) is)
    (ap (resolved_action (scope_in c.args.scope.now)) is)
    c.read.ensures

pub resolve_act-returns-in_ok-body-in-For-clause-action :
    goal.resolve_act-returns-in_ok-body-in-For-clause-action
resolve_act-returns-in_ok-body-in-For-clause-action t c =
    let is = ap written_action c.in-For.is ∙ for_written _ _ _ in
    let made = for_made (scope_in c.args.scope.now) (scope_in c.enter.new.self) c.args.line c.in-For.counter c.in-For.turns _
    c.in-For.body c.in_ok-body-in-For.body c.in_ok-counter-in-For.ensures.depth.0
    c.in_ok-counter-in-For.ensures.depth.1 c.in_ok-counter-in-For.ensures.inside
    c.in_ok-body-in-For.ensures.block.0 c.in_ok-body-in-For.ensures.block.1 in (
      ap (action_faults (scope_in c.args.scope.now) c.args.line) is ∙ made.0,
      made.1 ∙ sym (ap (resolved_action (scope_in c.args.scope.now)) is),
    )

pub resolve_act-returns-in_ok-no-in-If-clause-action :
    goal.resolve_act-returns-in_ok-no-in-If-clause-action
resolve_act-returns-in_ok-no-in-If-clause-action t c =
    let is = ap written_action c.in-If.is ∙ if_written _ _ _ in
    let made = if_made (scope_in c.args.scope.now) (scope_in c.resolve_block-in-If.new.scope) c.args.line c.in-If.test c.in_ok-test-in-If.test
    c.in-If.yes c.in-If.no c.in_ok-yes-in-If.yes c.in_ok-no-in-If.no
    c.in_ok-yes-in-If.ensures.scope
    c.in_ok-test-in-If.ensures c.in_ok-yes-in-If.ensures.block c.in_ok-no-in-If.ensures.block in (
      ap (action_faults (scope_in c.args.scope.now) c.args.line) is ∙ made.0,
      made.1 ∙ sym (ap (resolved_action (scope_in c.args.scope.now)) is),
    )

pub resolve_block-returns-in_err-act-clause-block :
    goal.resolve_block-returns-in_err-act-clause-block
resolve_block-returns-in_err-act-clause-block t c =
    stops_with (λ typed. block_of typed.items) _ _ c.from_residual-in_err-act.result _ c.from_residual-in_err-act.ensures.1
    (block_stop (scope_in c.args.scope.now) c.args.body _ _ _ c.loop-statement.invariant.0
    c.in-Some.statement _ c.in-Some.ensures.steps.0 _ c.in_err-act.ensures.action)

pub resolve_block-loop-statement-preserved : goal.resolve_block-loop-statement-preserved
resolve_block-loop-statement-preserved t c = (
  subst (BlockSoFar (scope_in c.args.scope.now) c.args.body (into_iter_items c.next.new.self) (scope_in c.resolve_act.new.scope))
      (sym c.in_ok-push.ensures.items)
      (block_more (scope_in c.args.scope.now) c.args.body _ _ _ c.loop-statement.invariant.0
      c.in-Some.statement _ c.in-Some.ensures.steps.0 _ _ c.in_ok-act.ensures.scope
      c.in_ok-act.ensures.action.0 c.in_ok-act.ensures.action.1),
  omega (arith, c.loop-statement.invariant.1, c.in-Some.ensures.steps.1, ap length c.in-Some.ensures.steps.0),
)

pub resolve_block-returns-clause-block : goal.resolve_block-returns-clause-block
resolve_block-returns-clause-block t c =
    block_all _ _ _ _ _ c.loop-statement.invariant.0
    (nil_from_length _ (sym c.loop-statement.invariant.1 ∙ c.in-None.ensures.steps.0))
