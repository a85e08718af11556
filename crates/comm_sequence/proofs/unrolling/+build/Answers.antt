use Rattle.std.proofs.Common.{◌≡◌, [], ap, sym, subst, refl, ◌∙◌, rules, arith}
use Rattle.std.proofs.lemmas.Result.{err_from_is_err_and}
use Rattle.cell_types.specs.Communications.{block_communications, action_communications, copies}
use Rattle.cell_types.specs.Depth.{action_loops}
use Rattle.cell_types.specs.Typed.{action_of, block_of}
use Rattle.cell_types.specs.declared.statement.TypedAct.{the_lemmas}
use Rattle.comm_sequence.specs.Differing.{differing, differing_in}
use Rattle.comm_sequence.specs.bodies.Unrolling.{IsFirstLine}
use Rattle.comm_sequence.specs.bodies.Walking.{HasGrown}
use Rattle.comm_sequence.proofs.Unrolled.{arm_end, back_stop, body_stop, branch_lines, branch_list, built_as, built_same, fresh, front_stop, loop_lines, loop_list, own_line, shallow_arms, shallow_body, some_turns, way_more}
use Rattle.comm_sequence.proofs.unrolling.+build.Goals as goal

pub build_act-build-requires : goal.build_act-build-requires
build_act-build-requires t c =
    let s = shallow_body c.args.act.now _ _ _ c.as_slice.result.now c.in-For.is c.as_slice.ensures.value c.requires in
    (search (rules, the_lemmas), s.1)

pub build_act-returns-in_err-build-in-For : goal.build_act-returns-in_err-build-in-For
build_act-returns-in_err-build-in-For t c =
    let p = err_from_is_err_and c.from_residual.result c.from_residual.ensures.1 in
    let e = loop_lines c.args.line c.args.act.now _ _ _ c.as_slice.result.now c.in-For.is c.as_slice.ensures.value
    ∙ some_turns c.in-For.turns (differing (block_of c.as_slice.result.now)) c.if-turns-eq0.false in
    rw (p.1, p.2) (subst (λ xs. IsFirstLine xs c.in_err-build-in-For.field-0.0) (sym e) c.in_err-build-in-For.ensures)

pub build_act-build-requires-in-If : goal.build_act-build-requires-in-If
build_act-build-requires-in-If t c =
    let s = shallow_arms c.args.act.now _ _ _ c.as_slice-in-If.result.now c.in-If.no.items c.in-If.is c.as_slice-in-If.ensures.value refl c.requires in
    (search (rules, the_lemmas), s.0)

pub build_act-returns-in_err-build-in-If : goal.build_act-returns-in_err-build-in-If
build_act-returns-in_err-build-in-If t c =
    let p = err_from_is_err_and c.from_residual-in_err-build-in-If.result c.from_residual-in_err-build-in-If.ensures.1 in
    let first = c.as_slice-in-If.result.now in
    let second = c.in-If.no.items in
    let e = branch_lines c.args.line c.args.act.now _ _ _ first second c.in-If.is c.as_slice-in-If.ensures.value refl in
    let stop = c.in_err-build-in-If.field-0.0 in
    rw (p.1, p.2) (subst (λ xs. IsFirstLine xs stop) (sym e)
    (front_stop _ (own_line c.args.line first second) stop
    (front_stop (differing (block_of first)) (differing (block_of second)) stop c.in_err-build-in-If.ensures)))

pub build_act-build-requires-in-If-2 : goal.build_act-build-requires-in-If-2
build_act-build-requires-in-If-2 t c =
    let s = shallow_arms c.args.act.now _ _ _ c.as_slice-in-If.result.now c.as_slice-in-If-2.result.now c.in-If.is c.as_slice-in-If.ensures.value c.as_slice-in-If-2.ensures.value c.requires in
    (search (rules, the_lemmas), s.1)

pub build_act-returns-in_err-build-in-If-2 : goal.build_act-returns-in_err-build-in-If-2
build_act-returns-in_err-build-in-If-2 t c =
    let p = err_from_is_err_and c.from_residual-in_err-build-in-If-2.result c.from_residual-in_err-build-in-If-2.ensures.1 in
    let first = c.as_slice-in-If.result.now in
    let second = c.as_slice-in-If-2.result.now in
    let e = branch_lines c.args.line c.args.act.now _ _ _ first second c.in-If.is c.as_slice-in-If.ensures.value c.as_slice-in-If-2.ensures.value in
    let stop = c.in_err-build-in-If-2.field-0.0 in
    rw (p.1, p.2) (subst (λ xs. IsFirstLine xs stop) (sym e)
    (front_stop _ (own_line c.args.line first second) stop
    (back_stop (differing (block_of first)) (differing (block_of second)) stop c.in_ok-build-in-If.ensures.0 c.in_err-build-in-If-2.ensures)))

pub build_act-append_arm-requires-clause-first : goal.build_act-append_arm-requires-clause-first
build_act-append_arm-requires-clause-first t c =
    let s = shallow_arms c.args.act.now _ _ _ c.as_slice-in-If.result.now c.as_slice-in-If-2.result.now c.in-If.is c.as_slice-in-If.ensures.value c.as_slice-in-If-2.ensures.value c.requires in
    let f = fresh c.new-first.result.items c.build-in-If.new.parts.items _ _ c.new-first.ensures.items c.in_ok-build-in-If.ensures.1 in
    (omega (arith, f.2, s.0.1), f.1)

pub build_act-append_arm-requires-clause-second : goal.build_act-append_arm-requires-clause-second
build_act-append_arm-requires-clause-second t c =
    let s = shallow_arms c.args.act.now _ _ _ c.as_slice-in-If.result.now c.as_slice-in-If-2.result.now c.in-If.is c.as_slice-in-If.ensures.value c.as_slice-in-If-2.ensures.value c.requires in
    let f = fresh c.new-second.result.items c.build-in-If-2.new.parts.items _ _ c.new-second.ensures.items c.in_ok-build-in-If-2.ensures.1 in
    (omega (arith, f.2, s.1.1), f.1)

pub build_act-returns-in_ok-build-in-For : goal.build_act-returns-in_ok-build-in-For
build_act-returns-in_ok-build-in-For t c =
    let items = c.as_slice.result.now in
    let turns = c.in-For.turns in
    let f = fresh c.new-inner.result.items c.build.new.parts.items _ _ c.new-inner.ensures.items c.in_ok-build-in-For.ensures.1 in
    let s = shallow_body c.args.act.now _ _ _ items c.in-For.is c.as_slice.ensures.value c.requires in
    let lines : differing_in c.args.line (action_of c.args.act.now) ≡ [] =
    loop_lines c.args.line c.args.act.now _ _ _ items c.in-For.is c.as_slice.ensures.value
    ∙ some_turns turns (differing (block_of items)) c.if-turns-eq0.false ∙ c.in_ok-build-in-For.ensures.0 in
    let list = ap (copies turns) f.0 ∙ sym (loop_list c.args.act.now _ _ _ items c.in-For.is c.as_slice.ensures.value) in
    built_as c.args.parts.now.items c.append_loop.new.parts.items _ _ _ _ _ c.append_loop.result lines list (omega (arith, f.2, s.2)) c.append_loop.ensures

pub build_act-returns-in_ok-build-in-If-2 : goal.build_act-returns-in_ok-build-in-If-2
build_act-returns-in_ok-build-in-If-2 t c =
    let first = c.as_slice-in-If.result.now in
    let second = c.as_slice-in-If-2.result.now in
    let s = shallow_arms c.args.act.now _ _ _ first second c.in-If.is c.as_slice-in-If.ensures.value c.as_slice-in-If-2.ensures.value c.requires in
    let f = fresh c.new-first.result.items c.build-in-If.new.parts.items _ _ c.new-first.ensures.items c.in_ok-build-in-If.ensures.1 in
    let g = fresh c.new-second.result.items c.build-in-If-2.new.parts.items _ _ c.new-second.ensures.items c.in_ok-build-in-If-2.ensures.1 in
    let e = branch_lines c.args.line c.args.act.now _ _ _ first second c.in-If.is c.as_slice-in-If.ensures.value c.as_slice-in-If-2.ensures.value in
    let l = branch_list c.args.act.now _ _ _ first c.in-If.is c.as_slice-in-If.ensures.value in
    built_same c.args.parts.now.items c.append_arm.new.parts.items _ _ _ _ _ c.append_arm.result e l
    (arm_end c.args.parts.now.items c.append_arm.new.parts.items (differing (block_of first)) (differing (block_of second)) (block_communications (block_of first)) (block_communications (block_of second)) _ _ c.args.line _ _ c.append_arm.result
    c.in_ok-build-in-If.ensures.0 c.in_ok-build-in-If-2.ensures.0 f.0 g.0 (omega (arith, f.2, s.2)) c.append_arm.ensures)

pub build-returns-in_err-build_act : goal.build-returns-in_err-build_act
build-returns-in_err-build_act t c =
    let p = err_from_is_err_and c.from_residual.result c.from_residual.ensures.1 in
    let stop = c.in_err-build_act.field-0.0 in
    rw (p.1, p.2) (body_stop c.args.body.now c.loop-statement.statement-index c.statement-item.result stop c.loop-statement-test.true
    c.loop-statement.invariant.lines
    (subst (λ s. IsFirstLine (differing_in s.line (action_of s.act)) stop) c.statement-item.is c.in_err-build_act.ensures))

pub build-loop-statement-preserved : goal.build-loop-statement-preserved
build-loop-statement-preserved t c =
    let old = c.loop-statement.parts.items in
    let new = c.build_act.new.parts.items in
    let h = subst (λ s. (differing_in s.line (action_of s.act) ≡ []) × HasGrown old new (action_communications (action_of s.act)) (action_loops (action_of s.act)))
    c.statement-item.is c.in_ok-build_act.ensures in
    way_more c.args.body.now c.loop-statement.statement-index c.statement-item.result c.args.parts.now.items old new c.loop-statement-test.true
    c.loop-statement.invariant h.0 h.1
