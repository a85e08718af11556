use Rattle.std.proofs.Common.{◌≡◌, ◌+◌, ◌++◌, ◌∷◌, [], ◌∙◌, IfOk, ap, refl, subst, sym}
use Rattle.std.proofs.lemmas.Result.{IfOk-weaker}
use Rattle.cell_types.specs.Alike.{AlikeBlock, InTurns}
use Rattle.cell_types.specs.Communications.{block_communications}
use Rattle.cell_types.specs.Solo.{do_block}
use Rattle.cell_types.specs.Typed.{block_of}
use Rattle.sys_base.specs.Communications.{copies}
use Rattle.rendezvous.specs.bodies.Running.{Comes, Goes, IsReadyAt, do_turns, rest_weight, tasks_weight, turns_weight}
use Rattle.rendezvous.specs.declared.runner.Runner.{Runner}
use Rattle.rendezvous.specs.declared.task.Task.TheVariants as T
use Rattle.rendezvous.proofs.Coming.{popped}
use Rattle.rendezvous.proofs.Doing.{pop_ready}
use Rattle.rendezvous.proofs.Pushing.{weight_pushed}
use Rattle.rendezvous.proofs.runner.Runner.step.Goals as goal

pub begin-requires : goal.begin-requires
begin-requires c =
    let old = c.args.self.now in
    let mid : Runner = record { store = old.store; input = old.input; tasks = c.pop.new.self } in
    let tasks = c.in-Some-Rest.ensures.items ∙ ap (λ t. c.pop.new.self.items ++ t ∷ []) c.in-Some-Rest.field-0-is in
    record {
      ready = pop_ready old mid (T.Rest c.in-Some-Rest.statements) (record { store = refl; input = refl; tasks = tasks })
          c.requires.ready;
    }

pub turn-requires : goal.turn-requires
turn-requires c =
    let old = c.args.self.now in
    let mid : Runner = record { store = old.store; input = old.input; tasks = c.pop.new.self } in
    let tasks = c.in-Some-Turns.ensures.items ∙ ap (λ t. c.pop.new.self.items ++ t ∷ []) c.in-Some-Turns.field-0-is in
    record {
      ready = pop_ready old mid
          (T.Turns c.in-Some-Turns.counter c.in-Some-Turns.turn c.in-Some-Turns.left c.in-Some-Turns.body)
          (record { store = refl; input = refl; tasks = tasks }) c.requires.ready;
    }

pub returns-in-Some-Rest-clause-goes : goal.returns-in-Some-Rest-clause-goes
returns-in-Some-Rest-clause-goes c =
    let old = c.args.self.now in
    let mid : Runner = record { store = old.store; input = old.input; tasks = c.pop.new.self } in
    let body = block_of c.in-Some-Rest.statements.now in
    let tasks = c.in-Some-Rest.ensures.items ∙ ap (λ t. c.pop.new.self.items ++ t ∷ []) c.in-Some-Rest.field-0-is in
    IfOk-weaker c.begin.result
    (λ event. Comes (λ v. do_block old.store.cell old.input.now v body) (block_communications body) (AlikeBlock body) mid
    c.begin.new.self event)
    (λ event. Goes old c.begin.new.self event)
    (λ event p. popped old mid c.begin.new.self (T.Rest c.in-Some-Rest.statements) event
    (record { store = refl; input = refl; tasks = tasks }) p)
    c.begin.ensures.comes

pub returns-in-Some-Rest-clause-ready : goal.returns-in-Some-Rest-clause-ready
returns-in-Some-Rest-clause-ready c =
    let tasks = c.in-Some-Rest.ensures.items ∙ ap (λ t. c.pop.new.self.items ++ t ∷ []) c.in-Some-Rest.field-0-is in
    let same : rest_weight (block_of c.in-Some-Rest.statements.now) + tasks_weight c.pop.new.self.items
    ≡ tasks_weight c.args.self.now.tasks.items =
    sym (ap tasks_weight tasks ∙ weight_pushed c.pop.new.self.items (T.Rest c.in-Some-Rest.statements)) in
    subst (λ n. IfOk c.begin.result (λ event. IsReadyAt c.begin.new.self event n)) same c.begin.ensures.ready

pub returns-in-Some-Turns-clause-goes : goal.returns-in-Some-Turns-clause-goes
returns-in-Some-Turns-clause-goes c =
    let old = c.args.self.now in
    let mid : Runner = record { store = old.store; input = old.input; tasks = c.pop.new.self } in
    let w = c.in-Some-Turns in
    let body = block_of w.body.now in
    let tasks = c.in-Some-Turns.ensures.items ∙ ap (λ t. c.pop.new.self.items ++ t ∷ []) c.in-Some-Turns.field-0-is in
    IfOk-weaker c.turn.result
    (λ event. Comes (λ v. do_turns old.store.cell old.input.now v w.counter w.turn w.left body)
    (copies w.left (block_communications body)) (InTurns w.left (AlikeBlock body)) mid c.turn.new.self event)
    (λ event. Goes old c.turn.new.self event)
    (λ event p. popped old mid c.turn.new.self (T.Turns w.counter w.turn w.left w.body) event
    (record { store = refl; input = refl; tasks = tasks }) p)
    c.turn.ensures.comes

pub returns-in-Some-Turns-clause-ready : goal.returns-in-Some-Turns-clause-ready
returns-in-Some-Turns-clause-ready c =
    let w = c.in-Some-Turns in
    let tasks = c.in-Some-Turns.ensures.items ∙ ap (λ t. c.pop.new.self.items ++ t ∷ []) c.in-Some-Turns.field-0-is in
    let same : turns_weight w.left (block_of w.body.now) + tasks_weight c.pop.new.self.items
    ≡ tasks_weight c.args.self.now.tasks.items =
    sym (ap tasks_weight tasks ∙ weight_pushed c.pop.new.self.items (T.Turns w.counter w.turn w.left w.body)) in
    subst (λ n. IfOk c.turn.result (λ event. IsReadyAt c.turn.new.self event n)) same c.turn.ensures.ready
