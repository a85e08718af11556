use Rattle.std.proofs.Common.{ap, rules, arith}
use Rattle.cell_types.specs.Depth.{action_loops, block_loops}
use Rattle.cell_types.specs.Typed.{block_of}
use Rattle.cell_types.specs.declared.statement.TypedAct.{the_lemmas}
use Rattle.cell_types.proofs.TypedSteps.{for_is, if_parts, rest_is}
use Rattle.cell_types.proofs.depth.+loops.Goals as goal

pub action_loops-block_loops-requires : goal.action_loops-block_loops-requires
action_loops-block_loops-requires t c =
    let e = ap action_loops (for_is c.args.act.now _ _ _ _ c.in-For.is c.deref.ensures.value) in
    (search (rules, the_lemmas), omega (arith, e, c.requires))

pub action_loops-block_loops-requires-in-If : goal.action_loops-block_loops-requires-in-If
action_loops-block_loops-requires-in-If t c =
    let e = ap action_loops (if_parts c.args.act.now _ _ _ c.in-If.is) in
    let first = ap (λ ss. block_loops (block_of ss)) c.deref-in-If.ensures.value in
    (search (rules, the_lemmas), omega (arith, e, first, c.requires))

pub action_loops-block_loops-requires-in-If-2 : goal.action_loops-block_loops-requires-in-If-2
action_loops-block_loops-requires-in-If-2 t c =
    let e = ap action_loops (if_parts c.args.act.now _ _ _ c.in-If.is) in
    let second = ap (λ ss. block_loops (block_of ss)) c.deref-in-If-2.ensures.value in
    (search (rules, the_lemmas), omega (arith, e, second, c.requires))

pub action_loops-returns-in-If : goal.action_loops-returns-in-If
action_loops-returns-in-If t c =
    let e = ap action_loops (if_parts c.args.act.now _ _ _ c.in-If.is) in
    let first = ap (λ ss. block_loops (block_of ss)) c.deref-in-If.ensures.value in
    let second = ap (λ ss. block_loops (block_of ss)) c.deref-in-If-2.ensures.value in
    omega (arith, e, first, second)

pub action_loops-returns-in-For : goal.action_loops-returns-in-For
action_loops-returns-in-For t c =
    let e = ap action_loops (for_is c.args.act.now _ _ _ _ c.in-For.is c.deref.ensures.value) in
    omega (arith, e)

pub block_loops-action_loops-requires : goal.block_loops-action_loops-requires
block_loops-action_loops-requires t c =
    let e = ap block_loops (rest_is c.args.body.now c.loop-statement.statement-index c.statement-item.result c.loop-statement-test.true c.statement-item.is) in
    (search (rules, the_lemmas), omega (arith, e, c.requires, c.loop-statement.invariant))

pub block_loops-loop-statement-preserved : goal.block_loops-loop-statement-preserved
block_loops-loop-statement-preserved t c =
    let e = ap block_loops (rest_is c.args.body.now c.loop-statement.statement-index c.statement-item.result c.loop-statement-test.true c.statement-item.is) in
    omega (arith, e, c.loop-statement.invariant)

pub action_loops-overflow_add-result : goal.action_loops-overflow_add-result
action_loops-overflow_add-result t c =
    let e = ap action_loops (for_is c.args.act.now _ _ _ _ c.in-For.is c.deref.ensures.value) in
    omega (arith, e, c.requires, c.block_loops.ensures)
