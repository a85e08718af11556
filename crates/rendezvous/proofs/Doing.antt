-- What a runner does by each statement, and that it is ready then.
use Rattle.std.proofs.Common.{◌≡◌, ℕ, zero, suc, ◌+◌, ◌*◌, ◌<◌, ◌≤◌, max, zero-add, add-zero, Bool, true, false, List, [], ◌∷◌, ◌++◌, Option, None, refl, sym, ap, subst, ◌∙◌, vec_len, arith}
use Rattle.std.specs.Borrow.{Bor}
use Rattle.sys_base.specs.Communications.{Communication, Takes, Emits, copies}
use Rattle.sys_base.specs.Held.{Held, Streams, tested, with_counter, with_emitted, with_taken}
use Rattle.sys_base.specs.declared.limits.TheConstants.{TURNS}
use Rattle.sys_base.specs.declared.word.Word.{Word}
use Rattle.sys_base.specs.declared.word.Word.TheVariants.{Num, Fault as Faulty}
use Rattle.cell_types.specs.Alike.{AlikeAction, AlikeBlock, InTurns}
use Rattle.cell_types.specs.Code.{Action, Take, Emit, For, If, Block, Then, Expression}
use Rattle.cell_types.specs.Communications.{action_communications, block_communications}
use Rattle.cell_types.specs.Cost.{action_cost, block_cost}
use Rattle.cell_types.specs.Solo.{Solo, counting, do_action, do_block, turns_from, value_of}
use Rattle.cell_types.specs.Typed.{block_of}
use Rattle.cell_types.specs.declared.statement.TypedStmt.{TypedStmt}
use Rattle.rendezvous.specs.bodies.Fitting.{FitsAction, FitsBlock}
use Rattle.rendezvous.specs.bodies.Running.{Comes, FitTasks, FitsTask, IsReady, IsReadyAt, IsReadyFor, do_turns, rest_weight, solo_with, task_weight, tasks_weight, turns_weight}
use Rattle.rendezvous.specs.bodies.Stores.{held_of}
use Rattle.rendezvous.specs.declared.runner.Runner.{Runner}
use Rattle.rendezvous.specs.declared.task.Task.{Task}
use Rattle.rendezvous.specs.declared.task.Task.TheVariants as T
use Rattle.rendezvous.proofs.Coming.{IsPopped, pushed_before}
use Rattle.rendezvous.proofs.Pushing.{fit_first, fit_pushed, fit_rest, weight_pushed}
use Rattle.rendezvous.proofs.Stopping.{arm_of, pushes, quietly, silently}

-- ---- what comes

-- an input word is taken
pub take_comes : (old new : Runner) (line word : ℕ) → new.store.cell ≡ old.store.cell → new.input.now ≡ old.input.now
    → new.tasks.items ≡ old.tasks.items → held_of new.store ≡ with_taken (held_of old.store) old.input.now word
    → Comes (λ v. do_action old.store.cell old.input.now v line (Take word)) (Takes ∷ []) (AlikeAction (Take word)) old new None
take_comes old new line word cell input tasks held =
    quietly (λ v. do_action old.store.cell old.input.now v line (Take word)) (Takes ∷ []) (AlikeAction (Take word)) old new
    cell input tasks refl (λ v made sent. ap (λ h. solo_with h (made ++ Takes ∷ []) sent) (sym held))

-- a word is emitted
pub emit_comes : (old new : Runner) (line : ℕ) (e : Expression) (value : Word) → new.store.cell ≡ old.store.cell
    → new.input.now ≡ old.input.now → new.tasks.items ≡ old.tasks.items
    → value ≡ value_of old.store.cell line (held_of old.store) e
    → held_of new.store ≡ with_emitted (held_of old.store) value
    → Comes (λ v. do_action old.store.cell old.input.now v line (Emit e)) (Emits ∷ []) (AlikeAction (Emit e)) old new None
emit_comes old new line e value cell input tasks is held =
    quietly (λ v. do_action old.store.cell old.input.now v line (Emit e)) (Emits ∷ []) (AlikeAction (Emit e)) old new
    cell input tasks refl
    (λ v made sent. ap (λ x. solo_with (with_emitted (held_of old.store) x) (made ++ Emits ∷ []) sent) (sym is)
    ∙ ap (λ h. solo_with h (made ++ Emits ∷ []) sent) (sym held))

-- a loop is to be done
pub for_comes : (old new : Runner) (line counter turns : ℕ) (body : Bor (List TypedStmt)) → new.store ≡ old.store
    → new.input.now ≡ old.input.now → new.tasks.items ≡ old.tasks.items ++ T.Turns counter 0 turns body ∷ []
    → Comes (λ v. do_action old.store.cell old.input.now v line (For counter turns (block_of body.now)))
    (action_communications (For counter turns (block_of body.now))) (AlikeAction (For counter turns (block_of body.now)))
    old new None
for_comes old new line counter turns body store input tasks =
    let first = λ (v : Streams). do_action old.store.cell old.input.now v line (For counter turns (block_of body.now)) in
    pushes first (action_communications (For counter turns (block_of body.now)))
    (AlikeAction (For counter turns (block_of body.now))) old new (T.Turns counter 0 turns body)
    (ap (λ s. s.cell) store) input tasks (λ h. refl) (λ h. h)
    (λ v made sent.
    ap (λ n. counting counter n (turns_from (λ turn now. do_block old.store.cell old.input.now v (block_of body.now) (counting counter turn now))
    0 turns (solo_with (held_of old.store) made sent))) (sym (zero-add turns))
    ∙ ap (λ s. do_turns old.store.cell old.input.now v counter 0 turns (block_of body.now) (solo_with (held_of s) made sent)) (sym store))

-- a loop has ended
pub end_comes : (old new : Runner) (counter turn : ℕ) (body : Block) → new.store.cell ≡ old.store.cell
    → new.input.now ≡ old.input.now → new.tasks.items ≡ old.tasks.items
    → held_of new.store ≡ with_counter (held_of old.store) counter turn
    → Comes (λ v. do_turns old.store.cell old.input.now v counter turn 0 body) (copies 0 (block_communications body))
    (InTurns 0 (AlikeBlock body)) old new None
end_comes old new counter turn body cell input tasks held =
    silently (λ v. do_turns old.store.cell old.input.now v counter turn 0 body) (InTurns 0 (AlikeBlock body)) old new
    cell input tasks
    (λ v made sent.
    ap (λ n. solo_with (with_counter (held_of old.store) counter n) made sent) (add-zero turn)
    ∙ ap (λ h. solo_with h made sent) (sym held))

-- fewer arms need to be alike
weaker : (first : Streams → Solo → Solo) (firsts : List Communication) (more less : Type 0) (old new : Runner) (e : Option _)
    → (less → more) → Comes first firsts more old new e → Comes first firsts less old new e
weaker first firsts more less old new e h p =
    record {
      cell = p.cell;
      input = p.input;
      more = p.more;
      quiet = p.quiet;
      does = p.does;
      left = λ arms all. p.left (h arms) all;
      alike = λ arms all. p.alike (h arms) all;
    }

in_turns : (n : ℕ) (fact : Type 0) → fact → InTurns n fact
in_turns zero fact h = tt
in_turns (suc n) fact h = h

-- a turn begins
pub turn_comes : (old mid new : Runner) (counter turn n : ℕ) (body : Bor (List TypedStmt))
    → mid.store ≡ old.store → mid.input.now ≡ old.input.now
    → mid.tasks.items ≡ old.tasks.items ++ T.Turns counter (turn + 1) n body ∷ []
    → new.store.cell ≡ old.store.cell → new.input.now ≡ old.input.now
    → new.tasks.items ≡ mid.tasks.items ++ T.Rest body ∷ []
    → held_of new.store ≡ with_counter (held_of old.store) counter turn
    → Comes (λ v. do_turns old.store.cell old.input.now v counter turn (suc n) (block_of body.now))
    (copies (suc n) (block_communications (block_of body.now))) (InTurns (suc n) (AlikeBlock (block_of body.now))) old new None
turn_comes old mid new counter turn n body store input tasks cell input_new tasks_new held =
    let xs = block_communications (block_of body.now) in
    let arms = AlikeBlock (block_of body.now) in
    let f = λ (v : Streams). do_turns old.store.cell old.input.now v counter turn (suc n) (block_of body.now) in
    let g = λ (v : Streams) (s : Solo). do_block old.store.cell old.input.now v (block_of body.now) (counting counter turn s) in
    let t = T.Turns counter (turn + 1) n body in
    let inner : Comes g xs arms mid new None =
    pushes g xs arms mid new (T.Rest body) (cell ∙ sym (ap (λ s. s.cell) store)) (input_new ∙ sym input) tasks_new
    (λ h. refl) (λ h. h)
    (λ v made sent.
    ap (λ s. g v (solo_with (held_of s) made sent)) store
    ∙ ap (λ h. do_block old.store.cell old.input.now v (block_of body.now) (solo_with h made sent)) (sym held)
    ∙ ap (λ k. do_block k old.input.now v (block_of body.now) (solo_with (held_of new.store) made sent)) (sym (ap (λ s. s.cell) store))
    ∙ ap (λ i. do_block mid.store.cell i v (block_of body.now) (solo_with (held_of new.store) made sent)) (sym input)) in
    let count : turn + suc n ≡ turn + 1 + n = omega arith in
    weaker f (xs ++ copies n xs) (arms × InTurns n arms) arms old new None (λ h. (h, in_turns n arms h))
    (pushed_before f g xs arms old mid new t None (record { store = sym store; input = sym input; tasks = tasks }) inner
    (λ v s. ap (λ k. counting counter k (turns_from (λ turn now. do_block old.store.cell old.input.now v (block_of body.now)
    (counting counter turn now)) (turn + 1) n (g v s))) count))

-- ---- the runner is ready

-- a task more
pub pushed_ready : (old new : Runner) (t : Task) (fits : Type 0) (weight : ℕ) → IsReadyFor old fits weight
    → vec_len new.store.words ≡ vec_len old.store.words → vec_len new.store.counters ≡ vec_len old.store.counters
    → new.store.taken ≡ old.store.taken → new.tasks.items ≡ old.tasks.items ++ t ∷ []
    → FitsTask (vec_len old.store.words) (vec_len old.store.counters) t → task_weight t < weight
    → IsReadyAt new None (weight + tasks_weight old.tasks.items)
pushed_ready old new t fits weight is words counters taken tasks fit light =
    let all = ap tasks_weight tasks ∙ weight_pushed old.tasks.items t in
    record {
      ready = record {
        fit = subst (λ n. FitTasks n (vec_len new.store.counters) new.tasks.items) (sym words)
            (subst (λ n. FitTasks (vec_len old.store.words) n new.tasks.items) (sym counters)
            (subst (FitTasks (vec_len old.store.words) (vec_len old.store.counters)) (sym tasks)
            (fit_pushed (vec_len old.store.words) (vec_len old.store.counters) old.tasks.items t is.fit fit)));
        few = omega (arith, is.few, all, light, taken);
      };
      place = tt;
      less = omega (arith, all, light);
    }

-- the tasks before a loop
pub for_ready : (old new : Runner) (a : Action) (counter turns : ℕ) (body : Bor (List TypedStmt))
    → a ≡ For counter turns (block_of body.now)
    → IsReadyFor old (FitsAction (vec_len old.store.words) (vec_len old.store.counters) a) (2 * action_cost a)
    → new.store ≡ old.store → new.tasks.items ≡ old.tasks.items ++ T.Turns counter 0 turns body ∷ []
    → IsReadyAt new None (2 * action_cost a + tasks_weight old.tasks.items)
for_ready old new a counter turns body e is store tasks =
    let fits = subst (FitsAction (vec_len old.store.words) (vec_len old.store.counters)) e is.first in
    let cost : 2 * action_cost a ≡ 2 * (1 + turns * (block_cost (block_of body.now) + 1)) = ap (λ b. 2 * action_cost b) e in
    pushed_ready old new (T.Turns counter 0 turns body) (FitsAction (vec_len old.store.words) (vec_len old.store.counters) a)
    (2 * action_cost a) is (ap (λ s. vec_len s.words) store) (ap (λ s. vec_len s.counters) store) (ap (λ s. s.taken) store) tasks
    (fits.0, omega (arith, fits.1), fits.2) (omega (arith, cost))

test_taken : (h : Held) (test : Word) → (tested h test).taken ≡ h.taken
test_taken h (Faulty fault) = refl
test_taken h (Num n) = refl

arm_cost : (b : Bool) (x y : Block) → block_cost (arm_of b x y) ≤ max (block_cost x + 1) (block_cost y)
arm_cost true x y = omega arith
arm_cost false x y = omega arith

arm_fits : (words counters : ℕ) (b : Bool) (x y : Block) → FitsBlock words counters x → FitsBlock words counters y
    → FitsBlock words counters (arm_of b x y)
arm_fits words counters true x y h k = h
arm_fits words counters false x y h k = k

-- an arm
pub if_ready : (old new : Runner) (a : Action) (test : Expression) (first second : Block) (word : Word) (b : Bool)
    (body : Bor (List TypedStmt)) → a ≡ If test first second → block_of body.now ≡ arm_of b first second
    → IsReadyFor old (FitsAction (vec_len old.store.words) (vec_len old.store.counters) a) (2 * action_cost a)
    → vec_len new.store.words ≡ vec_len old.store.words → vec_len new.store.counters ≡ vec_len old.store.counters
    → held_of new.store ≡ tested (held_of old.store) word
    → new.tasks.items ≡ old.tasks.items ++ T.Rest body ∷ []
    → IsReadyAt new None (2 * action_cost a + tasks_weight old.tasks.items)
if_ready old new a test first second word b body e arm is words counters held tasks =
    let w = vec_len old.store.words in
    let c = vec_len old.store.counters in
    let fits = subst (FitsAction w c) e is.first in
    let cost = ap (λ x. 2 * action_cost x) e in
    let some = ap block_cost arm in
    let most = arm_cost b first second in
    pushed_ready old new (T.Rest body) (FitsAction w c a) (2 * action_cost a) is words counters
    (ap (λ (h : Held). h.taken) held ∙ test_taken (held_of old.store) word) tasks
    (subst (FitsBlock w c) (sym arm) (arm_fits w c b first second fits.1 fits.2))
    (omega (arith, cost, some, most))

-- the first task, without the others
pub pop_ready : (old new : Runner) (t : Task) → IsPopped old new t → IsReady old
    → IsReadyFor new (FitsTask (vec_len new.store.words) (vec_len new.store.counters) t) (task_weight t)
pop_ready old new t is ready =
    let all = ap tasks_weight is.tasks ∙ weight_pushed new.tasks.items t in
    let fit = subst (λ s. FitTasks (vec_len s.words) (vec_len s.counters) (new.tasks.items ++ t ∷ [])) (sym is.store)
    (subst (FitTasks (vec_len old.store.words) (vec_len old.store.counters)) is.tasks ready.fit) in
    record {
      first = fit_first (vec_len new.store.words) (vec_len new.store.counters) new.tasks.items t fit;
      fit = fit_rest (vec_len new.store.words) (vec_len new.store.counters) new.tasks.items t fit;
      few = omega (arith, ready.few, all, ap (λ s. s.taken) is.store);
    }

-- the first of some statements, with the others pushed
pub first_ready : (old mid : Runner) (block rest : Block) (line : ℕ) (a : Action) (body : Bor (List TypedStmt))
    → block ≡ Then line a (block_of body.now)
    → IsReadyFor old (FitsBlock (vec_len old.store.words) (vec_len old.store.counters) block) (rest_weight block)
    → mid.store ≡ old.store → mid.tasks.items ≡ old.tasks.items ++ T.Rest body ∷ []
    → IsReadyFor mid (FitsAction (vec_len mid.store.words) (vec_len mid.store.counters) a) (2 * action_cost a)
first_ready old mid block rest line a body e is store tasks =
    let w = vec_len old.store.words in
    let c = vec_len old.store.counters in
    let fits = subst (FitsBlock w c) e is.first in
    let cost = ap block_cost e in
    let all = ap tasks_weight tasks ∙ weight_pushed old.tasks.items (T.Rest body) in
    record {
      first = subst (λ s. FitsAction (vec_len s.words) (vec_len s.counters) a) (sym store) fits.0;
      fit = subst (λ s. FitTasks (vec_len s.words) (vec_len s.counters) mid.tasks.items) (sym store)
          (subst (FitTasks w c) (sym tasks) (fit_pushed w c old.tasks.items (T.Rest body) is.fit fits.1));
      few = omega (arith, is.few, cost, all, ap (λ s. s.taken) store);
    }

-- the first turn of those that are left
pub turn_ready : (old mid new : Runner) (counter turn n left : ℕ) (body : Bor (List TypedStmt)) → left ≡ suc n
    → IsReadyFor old ((counter < vec_len old.store.counters) × (turn + left ≤ TURNS)
    × FitsBlock (vec_len old.store.words) (vec_len old.store.counters) (block_of body.now)) (turns_weight left (block_of body.now))
    → mid.tasks.items ≡ old.tasks.items ++ T.Turns counter (turn + 1) n body ∷ []
    → new.tasks.items ≡ mid.tasks.items ++ T.Rest body ∷ []
    → vec_len new.store.words ≡ vec_len old.store.words → vec_len new.store.counters ≡ vec_len old.store.counters
    → new.store.taken ≡ old.store.taken
    → IsReadyAt new None (turns_weight left (block_of body.now) + tasks_weight old.tasks.items)
turn_ready old mid new counter turn n left body e is tasks tasks_new words counters taken =
    let w = vec_len old.store.words in
    let c = vec_len old.store.counters in
    let t = T.Turns counter (turn + 1) n body in
    let first = ap tasks_weight tasks ∙ weight_pushed old.tasks.items t in
    let second = ap tasks_weight tasks_new ∙ weight_pushed mid.tasks.items (T.Rest body) in
    let cost : turns_weight left (block_of body.now) ≡ turns_weight (suc n) (block_of body.now) =
    ap (λ k. turns_weight k (block_of body.now)) e in
    let split : turns_weight (suc n) (block_of body.now)
    ≡ turns_weight n (block_of body.now) + rest_weight (block_of body.now) + 1 = omega arith in
    let fits : FitsTask w c t = (is.first.0, omega (arith, is.first.1, e), is.first.2) in
    record {
      ready = record {
        fit = subst (λ k. FitTasks k (vec_len new.store.counters) new.tasks.items) (sym words)
            (subst (λ k. FitTasks w k new.tasks.items) (sym counters)
            (subst (FitTasks w c) (sym tasks_new)
            (fit_pushed w c mid.tasks.items (T.Rest body)
            (subst (FitTasks w c) (sym tasks) (fit_pushed w c old.tasks.items t is.fit fits)) is.first.2)));
        few = omega (arith, is.few, first, second, cost, split, taken);
      };
      place = tt;
      less = omega (arith, first, second, cost, split);
    }
