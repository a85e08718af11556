use Rattle.std.proofs.Common.{◌≡◌, ℕ, ◌∙◌, None, ap, refl, subst, sym}
use Rattle.cell_types.specs.Alike.{AlikeAction, AlikeBlock}
use Rattle.cell_types.specs.Code.{Action}
use Rattle.cell_types.specs.Communications.{action_communications, block_communications}
use Rattle.cell_types.specs.Solo.{do_action, do_block}
use Rattle.cell_types.specs.Typed.{action_of, block_of, expression_of}
use Rattle.rendezvous.specs.bodies.Running.{Comes}
use Rattle.rendezvous.specs.declared.runner.Runner.{Runner}
use Rattle.rendezvous.specs.declared.task.Task.TheVariants.{Rest}
use Rattle.rendezvous.proofs.Doing.{emit_comes, for_comes, for_ready, if_ready, take_comes}
use Rattle.rendezvous.proofs.Plain.{for_is, if_is}
use Rattle.rendezvous.proofs.Stopping.{arm_of, branches}
use Rattle.rendezvous.proofs.runner.Runner.act.Goals as goal
use Rattle.rendezvous.proofs.runner.Runner.act.Goals.{else-test, then-test}

-- what comes of an action that is another one
abbrev does : Runner → Runner → ℕ → Action → Type 0
does old new line a =
    Comes (λ v. do_action old.store.cell old.input.now v line a) (action_communications a) (AlikeAction a) old new None

pub returns-in-Take-clause-comes : goal.returns-in-Take-clause-comes
returns-in-Take-clause-comes c =
    let old = c.args.self.now in
    let new : Runner = record { store = c.take.new.self; input = old.input; tasks = old.tasks } in
    subst (does old new c.args.line) (sym (ap action_of c.in-Take.is))
    (take_comes old new c.args.line c.in-Take.word c.take.ensures.size.cell refl refl c.take.ensures.held)

pub returns-in_ok-emit-in-Emit-clause-comes : goal.returns-in_ok-emit-in-Emit-clause-comes
returns-in_ok-emit-in-Emit-clause-comes c =
    let old = c.args.self.now in
    let new : Runner = record { store = c.emit.new.self; input = old.input; tasks = old.tasks } in
    subst (does old new c.args.line) (sym (ap action_of c.in-Emit.is))
    (emit_comes old new c.args.line (expression_of c.in-Emit.value) c.value-value-in-Emit.result
    c.in_ok-emit-in-Emit.ensures.size.cell refl refl c.value-value-in-Emit.ensures c.in_ok-emit-in-Emit.ensures.held)

pub returns-in_ok-push-in-For-clause-comes : goal.returns-in_ok-push-in-For-clause-comes
returns-in_ok-push-in-For-clause-comes c =
    let old = c.args.self.now in
    let new : Runner = record { store = old.store; input = old.input; tasks = c.push.new.self } in
    let e = for_is c.args.act.now _ _ _ c.as_slice.result.now c.in-For.is c.as_slice.ensures.value in
    subst (does old new c.args.line) (sym e)
    (for_comes old new c.args.line c.in-For.counter c.in-For.turns c.as_slice.result refl refl c.in_ok-push-in-For.ensures.items)

pub returns-in_ok-push-in-For-clause-ready : goal.returns-in_ok-push-in-For-clause-ready
returns-in_ok-push-in-For-clause-ready c =
    let old = c.args.self.now in
    let new : Runner = record { store = old.store; input = old.input; tasks = c.push.new.self } in
    let e = for_is c.args.act.now _ _ _ c.as_slice.result.now c.in-For.is c.as_slice.ensures.value in
    for_ready old new (action_of c.args.act.now) c.in-For.counter c.in-For.turns c.as_slice.result e c.requires.ready refl
    c.in_ok-push-in-For.ensures.items

-- the arm that is pushed
arm : (c : goal.In_ok-push-in-If) → block_of c.as_slice-in-If.result.now
    ≡ arm_of c.test.result (block_of c.in-If.yes.items) (block_of c.in-If.no.items)
arm c =
    let first = block_of c.in-If.yes.items in
    let second = block_of c.in-If.no.items in
    ap block_of c.as_slice-in-If.ensures.value
    ∙ elim c.if-test.branch [
      | then-test w ↦ ap (λ a. block_of a.now.items) w.arm-is ∙ ap (λ b. arm_of b first second) (sym w.if-test.true)
      | else-test w ↦ ap (λ a. block_of a.now.items) w.arm-is ∙ ap (λ b. arm_of b first second) (sym w.if-test.false)
    ]

pub returns-in_ok-push-in-If-clause-comes : goal.returns-in_ok-push-in-If-clause-comes
returns-in_ok-push-in-If-clause-comes c =
    let old = c.args.self.now in
    let new : Runner = record { store = c.test.new.self; input = old.input; tasks = c.push-in-If.new.self } in
    let first = block_of c.in-If.yes.items in
    let second = block_of c.in-If.no.items in
    let e = if_is c.args.act.now _ _ _ c.in-If.yes.items c.in-If.no.items c.in-If.is refl refl in
    let is = arm c in
    subst (does old new c.args.line) (sym e)
    (branches old new c.args.line (expression_of c.in-If.test) first second c.value-word.result (Rest c.as_slice-in-If.result)
    c.test.result c.test.ensures.size.cell refl c.in_ok-push-in-If.ensures.items c.value-word.ensures c.test.ensures.first
    c.test.ensures.held (λ cell input v s. ap (λ b. do_block cell input v b s) is) (ap block_communications is)
    (subst AlikeBlock (sym is)))

pub returns-in_ok-push-in-If-clause-ready : goal.returns-in_ok-push-in-If-clause-ready
returns-in_ok-push-in-If-clause-ready c =
    let old = c.args.self.now in
    let new : Runner = record { store = c.test.new.self; input = old.input; tasks = c.push-in-If.new.self } in
    let e = if_is c.args.act.now _ _ _ c.in-If.yes.items c.in-If.no.items c.in-If.is refl refl in
    if_ready old new (action_of c.args.act.now) (expression_of c.in-If.test) (block_of c.in-If.yes.items)
    (block_of c.in-If.no.items) c.value-word.result c.test.result c.as_slice-in-If.result e (arm c) c.requires.ready
    c.test.ensures.size.words c.test.ensures.size.counters c.test.ensures.held c.in_ok-push-in-If.ensures.items
