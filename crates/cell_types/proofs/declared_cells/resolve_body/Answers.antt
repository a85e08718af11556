use Rattle.std.proofs.Common.{rules, Some, length, refl, sym, subst, ap, ◌∙◌, arith}
use Rattle.std.proofs.lemmas.List.{nil_from_length}
use Rattle.std.specs.Vec.Iter.{into_iter_items}
use Rattle.cell_types.specs.Cost.{IsLimited, block_cost}
use Rattle.cell_types.specs.Depth.{block_loops, block_stack}
use Rattle.cell_types.specs.bodies.Scopes.{scope_in}
use Rattle.cell_types.specs.Typed.{block_of}
use Rattle.cell_types.specs.declared.statement.TypedStmt.{TypedStmt}
use Rattle.cell_types.proofs.FirstFaults.{stops_with}
use Rattle.cell_types.proofs.Needs.{cost_more, loops_more, loops_within, stack_more, stack_within}
use Rattle.cell_types.proofs.StatementSteps.{BlockSoFar, block_all, block_more, block_none, block_room, block_stop}
use Rattle.cell_types.proofs.declared_cells.resolve_body.Goals as goal

pub loop-statement-init : goal.loop-statement-init
loop-statement-init c =
    let given = c.into_iter-statement-iterator.ensures.into_iter_gives in
    let none = sym c.in_ok-statements.ensures.items in (
      subst (BlockSoFar (scope_in c.args.scope.now) c.args.body (into_iter_items c.into_iter-statement-iterator.result) (scope_in c.args.scope.now)) none
          (block_none (scope_in c.args.scope.now) c.args.body _ (given.0 ∙ c.into_vec-statement-items.ensures) c.requires.loops),
      search rules,
      ap (λ xs. block_stack (block_of xs)) none,
      ap (λ xs. block_loops (block_of xs)) none,
      subst (λ xs. IsLimited (block_cost (block_of xs)) (Some 0)) none (refl, omega arith),
    )

pub resolve_act-requires : goal.resolve_act-requires
resolve_act-requires c =
    block_room (scope_in c.args.scope.now) c.args.body _ _ _ c.loop-statement.invariant.0 c.in-Some.statement _ c.in-Some.ensures.steps.0

pub returns-in_err-act-clause-block : goal.returns-in_err-act-clause-block
returns-in_err-act-clause-block c =
    stops_with (λ made. block_of made.statements.items) _ _ c.from_residual-in_err-act.result _ c.from_residual-in_err-act.ensures.1
    (block_stop (scope_in c.args.scope.now) c.args.body _ _ _ c.loop-statement.invariant.0
    c.in-Some.statement _ c.in-Some.ensures.steps.0 _ c.in_err-act.ensures.action)

pub action_stack-requires : goal.action_stack-requires
action_stack-requires c =
    let more = block_more (scope_in c.args.scope.now) c.args.body _ _ _ c.loop-statement.invariant.0
    c.in-Some.statement _ c.in-Some.ensures.steps.0 _ _ c.in_ok-act.ensures.scope
    c.in_ok-act.ensures.action.0 c.in_ok-act.ensures.action.1 in
    omega (arith, stack_within _ _ _ _ _ _ more, c.requires.stack)

pub action_loops-requires : goal.action_loops-requires
action_loops-requires c =
    let more = block_more (scope_in c.args.scope.now) c.args.body _ _ _ c.loop-statement.invariant.0
    c.in-Some.statement _ c.in-Some.ensures.steps.0 _ _ c.in_ok-act.ensures.scope
    c.in_ok-act.ensures.action.0 c.in_ok-act.ensures.action.1 in
    omega (arith, loops_within _ _ _ _ _ _ more, c.requires.loops)

pub loop-statement-preserved : goal.loop-statement-preserved
loop-statement-preserved c =
    let before = c.loop-statement.statements.items in
    let statement : TypedStmt = record { line = c.in-Some.statement.line; act = c.in_ok-act.act } in
    let pushed = c.in_ok-push.ensures.items in (
      subst (BlockSoFar (scope_in c.args.scope.now) c.args.body (into_iter_items c.next.new.self) (scope_in c.resolve_act.new.scope))
          (sym pushed)
          (block_more (scope_in c.args.scope.now) c.args.body _ _ _ c.loop-statement.invariant.0
          c.in-Some.statement _ c.in-Some.ensures.steps.0 _ _ c.in_ok-act.ensures.scope
          c.in_ok-act.ensures.action.0 c.in_ok-act.ensures.action.1),
      omega (arith, c.loop-statement.invariant.1, c.in-Some.ensures.steps.1, ap length c.in-Some.ensures.steps.0),
      omega (arith, c.loop-statement.invariant.2, c.action_stack.ensures, c.max-stack.ensures, ap (λ xs. block_stack (block_of xs)) pushed, stack_more before statement),
      omega (arith, c.loop-statement.invariant.3, c.action_loops.ensures, c.max-counters.ensures, ap (λ xs. block_loops (block_of xs)) pushed, loops_more before statement),
      subst (λ cost. IsLimited cost c.both-cost.result) (sym (ap (λ xs. block_cost (block_of xs)) pushed ∙ cost_more before statement))
          (c.both-cost.ensures _ _ c.loop-statement.invariant.4 c.act_cost.ensures),
    )

pub returns-clause-block : goal.returns-clause-block
returns-clause-block c =
    block_all _ _ _ _ _ c.loop-statement.invariant.0
    (nil_from_length _ (sym c.loop-statement.invariant.1 ∙ c.in-None.ensures.steps.0))

pub returns-clause-stack : goal.returns-clause-stack
returns-clause-stack c = c.loop-statement.invariant.2

pub returns-clause-counters : goal.returns-clause-counters
returns-clause-counters c = c.loop-statement.invariant.3

pub returns-clause-cost : goal.returns-clause-cost
returns-clause-cost c = c.loop-statement.invariant.4
