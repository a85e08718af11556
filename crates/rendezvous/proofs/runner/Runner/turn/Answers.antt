use Rattle.std.proofs.Common.{◌≡◌, ℕ, suc, ◌-◌, None, ap, refl, subst, sym, arith}
use Rattle.sys_base.specs.Communications.{copies}
use Rattle.sys_base.specs.Held.{Held}
use Rattle.cell_types.specs.Alike.{AlikeBlock, InTurns}
use Rattle.cell_types.specs.Code.{Block}
use Rattle.cell_types.specs.Communications.{block_communications}
use Rattle.cell_types.specs.Typed.{block_of}
use Rattle.rendezvous.specs.bodies.Running.{Comes, do_turns}
use Rattle.rendezvous.specs.declared.runner.Runner.{Runner}
use Rattle.rendezvous.proofs.Doing.{end_comes, turn_comes, turn_ready}
use Rattle.rendezvous.proofs.runner.Runner.turn.Goals as goal

-- what comes of so many turns
abbrev does : Runner → Runner → ℕ → ℕ → Block → ℕ → Type 0
does old new counter turn body left =
    Comes (λ v. do_turns old.store.cell old.input.now v counter turn left body) (copies left (block_communications body))
    (InTurns left (AlikeBlock body)) old new None

pub returns-in_ok-push-2-clause-comes : goal.returns-in_ok-push-2-clause-comes
returns-in_ok-push-2-clause-comes c =
    let old = c.args.self.now in
    let mid : Runner = record { store = old.store; input = old.input; tasks = c.push.new.self } in
    let new : Runner = record { store = c.count.new.self; input = old.input; tasks = c.push-then-left-gt0.new.self } in
    let n = c.args.left - 1 in
    let is : c.args.left ≡ suc n = omega arith in
    subst (does old new c.args.counter c.args.turn (block_of c.args.body.now)) (sym is)
    (turn_comes old mid new c.args.counter c.args.turn n c.args.body refl refl c.in_ok-push.ensures.items c.count.ensures.size.cell refl
    c.in_ok-push-2.ensures.items c.count.ensures.held)

pub returns-in_ok-push-2-clause-ready : goal.returns-in_ok-push-2-clause-ready
returns-in_ok-push-2-clause-ready c =
    let old = c.args.self.now in
    let mid : Runner = record { store = old.store; input = old.input; tasks = c.push.new.self } in
    let new : Runner = record { store = c.count.new.self; input = old.input; tasks = c.push-then-left-gt0.new.self } in
    let n = c.args.left - 1 in
    let is : c.args.left ≡ suc n = omega arith in
    turn_ready old mid new c.args.counter c.args.turn n c.args.left c.args.body is c.requires.ready c.in_ok-push.ensures.items
    c.in_ok-push-2.ensures.items c.count.ensures.size.words c.count.ensures.size.counters
    (ap (λ (h : Held). h.taken) c.count.ensures.held)

pub returns-else-left-gt0-clause-comes : goal.returns-else-left-gt0-clause-comes
returns-else-left-gt0-clause-comes c =
    let old = c.args.self.now in
    let new : Runner = record { store = c.count.new.self; input = old.input; tasks = old.tasks } in
    let is : c.args.left ≡ 0 = omega arith in
    subst (does old new c.args.counter c.args.turn (block_of c.args.body.now)) (sym is)
    (end_comes old new c.args.counter c.args.turn (block_of c.args.body.now) c.count.ensures.size.cell refl refl c.count.ensures.held)
