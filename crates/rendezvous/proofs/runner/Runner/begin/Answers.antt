use Rattle.std.proofs.Common.{◌≡◌, ◌+◌, ◌*◌, ◌∙◌, IfOk, ap, refl, subst, sym, arith}
use Rattle.std.proofs.lemmas.Result.{IfOk-weaker}
use Rattle.cell_types.specs.Alike.{AlikeAction, AlikeBlock}
use Rattle.cell_types.specs.Code.{Then}
use Rattle.cell_types.specs.Communications.{action_communications, block_communications}
use Rattle.cell_types.specs.Cost.{action_cost, block_cost}
use Rattle.cell_types.specs.Solo.{do_action, do_block}
use Rattle.cell_types.specs.Typed.{action_of, block_of}
use Rattle.rendezvous.specs.bodies.Running.{Comes, IsReadyAt, rest_weight, tasks_weight}
use Rattle.rendezvous.specs.declared.runner.Runner.{Runner}
use Rattle.rendezvous.specs.declared.task.Task.TheVariants as T
use Rattle.rendezvous.proofs.Coming.{pushed_before}
use Rattle.rendezvous.proofs.Doing.{first_ready}
use Rattle.rendezvous.proofs.Pushing.{weight_pushed}
use Rattle.rendezvous.proofs.runner.Runner.begin.Goals as goal

pub act-requires : goal.act-requires
act-requires c =
    let old = c.args.self.now in
    let mid : Runner = record { store = old.store; input = old.input; tasks = c.push.new.self } in
    record {
      ready = first_ready old mid (block_of c.args.statements.now) (block_of c.in-Some.rest.now) c.in-Some.first.now.line
          (action_of c.in-Some.first.now.act) c.in-Some.rest (ap block_of c.in-Some.ensures.cases.0) c.requires.ready refl
          c.in_ok-push.ensures.items;
    }

pub returns-clause-comes : goal.returns-clause-comes
returns-clause-comes c =
    let old = c.args.self.now in
    let mid : Runner = record { store = old.store; input = old.input; tasks = c.push.new.self } in
    let a = action_of c.in-Some.first.now.act in
    let rest = block_of c.in-Some.rest.now in
    let line = c.in-Some.first.now.line in
    let e = ap block_of c.in-Some.ensures.cases.0 in
    IfOk-weaker c.act.result
    (λ event. Comes (λ v. do_action old.store.cell old.input.now v line a) (action_communications a) (AlikeAction a) mid
    c.act.new.self event)
    (λ event. Comes (λ v. do_block old.store.cell old.input.now v (block_of c.args.statements.now))
    (block_communications (block_of c.args.statements.now)) (AlikeBlock (block_of c.args.statements.now)) old c.act.new.self event)
    (λ event p.
    subst (λ b. Comes (λ v. do_block old.store.cell old.input.now v b) (block_communications b) (AlikeBlock b) old c.act.new.self event)
    (sym e)
    (pushed_before (λ v. do_block old.store.cell old.input.now v (Then line a rest))
    (λ v. do_action old.store.cell old.input.now v line a) (action_communications a) (AlikeAction a) old mid c.act.new.self
    (T.Rest c.in-Some.rest) event (record { store = refl; input = refl; tasks = c.in_ok-push.ensures.items }) p (λ v s. refl)))
    c.act.ensures.comes

pub returns-clause-ready : goal.returns-clause-ready
returns-clause-ready c =
    let old = c.args.self.now in
    let a = action_of c.in-Some.first.now.act in
    let e = ap block_cost (ap block_of c.in-Some.ensures.cases.0) in
    let all = ap tasks_weight c.in_ok-push.ensures.items ∙ weight_pushed old.tasks.items (T.Rest c.in-Some.rest) in
    let same : 2 * action_cost a + tasks_weight c.push.new.self.items
    ≡ rest_weight (block_of c.args.statements.now) + tasks_weight old.tasks.items = omega (arith, e, all) in
    subst (λ n. IfOk c.act.result (λ event. IsReadyAt c.act.new.self event n)) same c.act.ensures.ready
