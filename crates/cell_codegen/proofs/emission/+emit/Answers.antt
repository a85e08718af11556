use Rattle.std.proofs.Common.{◌≡◌, ◌+◌, [], ◌++◌, length, drop, refl, sym, ◌∙◌, ap, subst, arith, rules}
use Rattle.cell_code.specs.declared.instruction.Instr.TheVariants.{Loop, Next, IfZero, Jump}
use Rattle.cell_types.specs.Typed.{expression_of, action_of, block_of}
use Rattle.cell_types.specs.declared.statement.TypedAct.{the_lemmas}
use Rattle.cell_codegen.specs.Bounds.{SmallAction, SmallBlock, HasRoom}
use Rattle.cell_codegen.specs.Emission.{action_code, block_code}
use Rattle.cell_codegen.proofs.Patch.{room_for, for_fits, patched_for, room_first, second_fits, room_second, end_fits, patched_if, room_next}
use Rattle.cell_codegen.proofs.Plain.{for_is, if_is, rest_is}
use Rattle.cell_codegen.proofs.emission.+emit.Goals as goal

-- ---- loops

pub emit_action-emit_block-requires : goal.emit_action-emit_block-requires
emit_action-emit_block-requires t c =
    let k = c.in-For.counter in
    let n = c.in-For.turns in
    let old = c.args.code.now.items in
    let body = block_of c.as_slice.result.now in
    let e = for_is c.args.act.now k n c.in-For.body c.as_slice.result.now c.in-For.is c.as_slice.ensures.value in
    let small = subst SmallAction e c.requires.small in
    let room = subst (HasRoom old c.args.line) e c.requires.room in (
      search (rules, the_lemmas),
      (small.1, room_for old c.args.line k n body c.put-in-For.new.code.items (Loop k n 0) c.in_ok-put-in-For.ensures room),
    )

pub emit_action-overflow_cast-exit : goal.emit_action-overflow_cast-exit
emit_action-overflow_cast-exit t c =
    let k = c.in-For.counter in
    let n = c.in-For.turns in
    let old = c.args.code.now.items in
    let body = block_of c.as_slice.result.now in
    let e = for_is c.args.act.now k n c.in-For.body c.as_slice.result.now c.in-For.is c.as_slice.ensures.value in
    let room = subst (HasRoom old c.args.line) e c.requires.room in
    omega (
      arith,
      c.len-exit.ensures,
      c.put-in-For-2.new.code.ok.0,
      for_fits old c.args.line k n body c.put-in-For.new.code.items c.emit_block.new.code.items c.put-in-For-2.new.code.items (Loop k n 0)
          (Next k n (c.len-start.result + 1)) c.in_ok-put-in-For.ensures c.in_ok-emit_block-in-For.ensures c.in_ok-put-in-For-2.ensures room,
    )

pub emit_action-returns-in_ok-put-in-For-2 : goal.emit_action-returns-in_ok-put-in-For-2
emit_action-returns-in_ok-put-in-For-2 t c =
    let k = c.in-For.counter in
    let n = c.in-For.turns in
    let old = c.args.code.now.items in
    let body = block_of c.as_slice.result.now in
    let e = for_is c.args.act.now k n c.in-For.body c.as_slice.result.now c.in-For.is c.as_slice.ensures.value in
    patched_for old c.args.line k n body c.put-in-For.new.code.items c.emit_block.new.code.items c.put-in-For-2.new.code.items (Loop k n 0)
    c.len-start.result c.len-exit.result c.in_ok-put-in-For.ensures c.in_ok-emit_block-in-For.ensures c.in_ok-put-in-For-2.ensures
    (c.len-start.ensures ∙ c.args.code.now.ok.0) (c.len-exit.ensures ∙ c.put-in-For-2.new.code.ok.0)
    ∙ ap (λ a. old ++ action_code (length old) c.args.line a) (sym e)

-- ---- branches

pub emit_action-emit_block-requires-in-If : goal.emit_action-emit_block-requires-in-If
emit_action-emit_block-requires-in-If t c =
    let old = c.args.code.now.items in
    let first = c.as_slice-in-If.result.now in
    let second = c.in-If.no.items in
    let e = if_is c.args.act.now c.in-If.test c.in-If.yes c.in-If.no first second c.in-If.is c.as_slice-in-If.ensures.value refl in
    let small = subst SmallAction e c.requires.small in
    let room = subst (HasRoom old c.args.line) e c.requires.room in (
      search (rules, the_lemmas),
      (
        small.1,
        room_first old c.args.line (expression_of c.in-If.test) (block_of first) (block_of second) c.emit_expression-in-If.new.code.items
            c.put-in-If.new.code.items [] [] (IfZero 0) (Jump 0) c.in_ok-emit_expression-in-If.ensures c.in_ok-put-in-If.ensures room,
      ),
    )

pub emit_action-overflow_cast-second : goal.emit_action-overflow_cast-second
emit_action-overflow_cast-second t c =
    let old = c.args.code.now.items in
    let first = c.as_slice-in-If.result.now in
    let second = c.in-If.no.items in
    let e = if_is c.args.act.now c.in-If.test c.in-If.yes c.in-If.no first second c.in-If.is c.as_slice-in-If.ensures.value refl in
    let room = subst (HasRoom old c.args.line) e c.requires.room in
    omega (
      arith,
      c.len-second.ensures,
      c.put-in-If-2.new.code.ok.0,
      second_fits old c.args.line (expression_of c.in-If.test) (block_of first) (block_of second) c.emit_expression-in-If.new.code.items
          c.put-in-If.new.code.items c.emit_block-in-If.new.code.items c.put-in-If-2.new.code.items (IfZero 0) (Jump 0)
          c.in_ok-emit_expression-in-If.ensures c.in_ok-put-in-If.ensures c.in_ok-emit_block-in-If.ensures c.in_ok-put-in-If-2.ensures room,
    )

pub emit_action-emit_block-requires-in-If-2 : goal.emit_action-emit_block-requires-in-If-2
emit_action-emit_block-requires-in-If-2 t c =
    let old = c.args.code.now.items in
    let first = c.as_slice-in-If.result.now in
    let second = c.as_slice-in-If-2.result.now in
    let e = if_is c.args.act.now c.in-If.test c.in-If.yes c.in-If.no first second c.in-If.is c.as_slice-in-If.ensures.value
    c.as_slice-in-If-2.ensures.value in
    let small = subst SmallAction e c.requires.small in
    let room = subst (HasRoom old c.args.line) e c.requires.room in (
      search (rules, the_lemmas),
      (
        small.2,
        room_second old c.args.line (expression_of c.in-If.test) (block_of first) (block_of second) c.emit_expression-in-If.new.code.items
            c.put-in-If.new.code.items c.emit_block-in-If.new.code.items c.put-in-If-2.new.code.items (IfZero 0) (Jump 0)
            c.in_ok-emit_expression-in-If.ensures c.in_ok-put-in-If.ensures c.in_ok-emit_block-in-If.ensures c.in_ok-put-in-If-2.ensures
            c.len-branch.result c.len-second.result (c.len-branch.ensures ∙ c.emit_expression-in-If.new.code.ok.0)
            (c.len-second.ensures ∙ c.put-in-If-2.new.code.ok.0) room,
      ),
    )

pub emit_action-overflow_cast-end : goal.emit_action-overflow_cast-end
emit_action-overflow_cast-end t c =
    let old = c.args.code.now.items in
    let first = c.as_slice-in-If.result.now in
    let second = c.as_slice-in-If-2.result.now in
    let e = if_is c.args.act.now c.in-If.test c.in-If.yes c.in-If.no first second c.in-If.is c.as_slice-in-If.ensures.value
    c.as_slice-in-If-2.ensures.value in
    let room = subst (HasRoom old c.args.line) e c.requires.room in
    omega (
      arith,
      c.len-end.ensures,
      c.emit_block-in-If-2.new.code.ok.0,
      end_fits old c.args.line (expression_of c.in-If.test) (block_of first) (block_of second) c.emit_expression-in-If.new.code.items
          c.put-in-If.new.code.items c.emit_block-in-If.new.code.items c.put-in-If-2.new.code.items (IfZero 0) (Jump 0)
          c.in_ok-emit_expression-in-If.ensures c.in_ok-put-in-If.ensures c.in_ok-emit_block-in-If.ensures c.in_ok-put-in-If-2.ensures
          c.len-branch.result c.len-second.result (c.len-branch.ensures ∙ c.emit_expression-in-If.new.code.ok.0)
          (c.len-second.ensures ∙ c.put-in-If-2.new.code.ok.0) c.emit_block-in-If-2.new.code.items c.in_ok-emit_block-in-If-2.ensures room,
    )

pub emit_action-returns-in_ok-emit_block-in-If-2 : goal.emit_action-returns-in_ok-emit_block-in-If-2
emit_action-returns-in_ok-emit_block-in-If-2 t c =
    let old = c.args.code.now.items in
    let first = c.as_slice-in-If.result.now in
    let second = c.as_slice-in-If-2.result.now in
    let e = if_is c.args.act.now c.in-If.test c.in-If.yes c.in-If.no first second c.in-If.is c.as_slice-in-If.ensures.value
    c.as_slice-in-If-2.ensures.value in
    patched_if old c.args.line (expression_of c.in-If.test) (block_of first) (block_of second) c.emit_expression-in-If.new.code.items
    c.put-in-If.new.code.items c.emit_block-in-If.new.code.items c.put-in-If-2.new.code.items (IfZero 0) (Jump 0)
    c.in_ok-emit_expression-in-If.ensures c.in_ok-put-in-If.ensures c.in_ok-emit_block-in-If.ensures c.in_ok-put-in-If-2.ensures
    c.len-branch.result c.len-second.result (c.len-branch.ensures ∙ c.emit_expression-in-If.new.code.ok.0)
    (c.len-second.ensures ∙ c.put-in-If-2.new.code.ok.0) c.emit_block-in-If-2.new.code.items c.in_ok-emit_block-in-If-2.ensures
    c.len-jump.result c.len-end.result (c.len-jump.ensures ∙ c.emit_block-in-If.new.code.ok.0)
    (c.len-end.ensures ∙ c.emit_block-in-If-2.new.code.ok.0)
    ∙ ap (λ a. old ++ action_code (length old) c.args.line a) (sym e)

-- ---- statements

pub emit_block-emit_action-requires : goal.emit_block-emit_action-requires
emit_block-emit_action-requires t c =
    let s = c.statement-item.result in
    let i = c.loop-statement.statement-index in
    let body = c.args.body.now in
    let code = c.loop-statement.code.items in
    let start = c.args.code.now.items in
    let e = rest_is body i s (search rules) c.statement-item.is in
    let small = subst SmallBlock e c.loop-statement.invariant.small in
    let now = subst (λ b. code ++ block_code (length code) b ≡ start ++ block_code (length start) (block_of body)) e
    c.loop-statement.invariant.code in (
      search (rules, the_lemmas),
      (small.0, room_next code start s.line (action_of s.act) (block_of (drop (i + 1) body)) (block_of body) now c.requires.room),
    )
