use Rattle.std.proofs.Common.{ap, rules, arith}
use Rattle.cell_types.specs.Depth.{action_stack, block_stack}
use Rattle.cell_types.specs.Typed.{block_of}
use Rattle.cell_types.specs.declared.statement.TypedAct.{the_lemmas}
use Rattle.cell_types.proofs.TypedSteps.{for_is, if_parts, rest_is}
use Rattle.cell_types.proofs.depth.+stack.Goals as goal

pub action_stack-block_stack-requires : goal.action_stack-block_stack-requires
action_stack-block_stack-requires t c =
    let e = ap action_stack (for_is c.args.act.now _ _ _ _ c.in-For.is c.deref.ensures.value) in
    (search (rules, the_lemmas), omega (arith, e, c.requires))

pub action_stack-block_stack-requires-in-If : goal.action_stack-block_stack-requires-in-If
action_stack-block_stack-requires-in-If t c =
    let e = ap action_stack (if_parts c.args.act.now _ _ _ c.in-If.is) in
    let first = ap (λ ss. block_stack (block_of ss)) c.deref-in-If.ensures.value in
    (search (rules, the_lemmas), omega (arith, e, first, c.requires))

pub action_stack-block_stack-requires-in-If-2 : goal.action_stack-block_stack-requires-in-If-2
action_stack-block_stack-requires-in-If-2 t c =
    let e = ap action_stack (if_parts c.args.act.now _ _ _ c.in-If.is) in
    let second = ap (λ ss. block_stack (block_of ss)) c.deref-in-If-2.ensures.value in
    (search (rules, the_lemmas), omega (arith, e, second, c.requires))

pub action_stack-returns-in-If : goal.action_stack-returns-in-If
action_stack-returns-in-If t c =
    let e = ap action_stack (if_parts c.args.act.now _ _ _ c.in-If.is) in
    let first = ap (λ ss. block_stack (block_of ss)) c.deref-in-If.ensures.value in
    let second = ap (λ ss. block_stack (block_of ss)) c.deref-in-If-2.ensures.value in
    omega (arith, e, first, second)

pub action_stack-returns-in-For : goal.action_stack-returns-in-For
action_stack-returns-in-For t c =
    let e = ap action_stack (for_is c.args.act.now _ _ _ _ c.in-For.is c.deref.ensures.value) in
    omega (arith, e)

pub block_stack-action_stack-requires : goal.block_stack-action_stack-requires
block_stack-action_stack-requires t c =
    let e = ap block_stack (rest_is c.args.body.now c.loop-statement.statement-index c.statement-item.result c.loop-statement-test.true c.statement-item.is) in
    (search (rules, the_lemmas), omega (arith, e, c.requires, c.loop-statement.invariant))

pub block_stack-loop-statement-preserved : goal.block_stack-loop-statement-preserved
block_stack-loop-statement-preserved t c =
    let e = ap block_stack (rest_is c.args.body.now c.loop-statement.statement-index c.statement-item.result c.loop-statement-test.true c.statement-item.is) in
    omega (arith, e, c.loop-statement.invariant)
