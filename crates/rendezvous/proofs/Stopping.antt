-- What a runner does by one statement or turn.
use Rattle.std.proofs.Common.{◌≡◌, ℕ, Bool, true, false, if◌then◌else◌, ℤ, List, [], ◌∷◌, ◌++◌, Option, None, append-nil, refl, sym, ap, subst, ◌∙◌}
use Rattle.sys_base.specs.Communications.{Communication}
use Rattle.sys_base.specs.Held.{Streams, takes_first, tested}
use Rattle.sys_base.specs.declared.word.Word.{Word}
use Rattle.cell_types.specs.Alike.{AlikeAction, AlikeBlock}
use Rattle.cell_types.specs.Code.{If, Block, Expression}
use Rattle.cell_types.specs.Communications.{block_communications}
use Rattle.cell_types.specs.Solo.{Solo, do_action, do_block, value_of}
use Rattle.comm_sequence.specs.Sequences.{comms}
use Rattle.rendezvous.specs.bodies.Running.{AlikeTask, AlikeTasks, Comes, do_event, do_task, do_tasks, event_left, solo_with, task_left, tasks_left}
use Rattle.rendezvous.specs.bodies.Stores.{held_of}
use Rattle.rendezvous.specs.declared.runner.Runner.{Runner}
use Rattle.rendezvous.specs.declared.task.Event.{Event}
use Rattle.rendezvous.specs.declared.task.Task.{Task}
use Rattle.rendezvous.proofs.Pushing.{alike_pushed, do_pushed, left_pushed}

-- ---- statements that push no task

-- what is held and communicated changes, and nothing else
pub quietly : (first : Streams → Solo → Solo) (firsts : List Communication) (alike : Type 0) (old new : Runner)
    → new.store.cell ≡ old.store.cell → new.input.now ≡ old.input.now → new.tasks.items ≡ old.tasks.items → comms firsts ≡ []
    → ((v : Streams) (made : List Communication) (sent : List (ℕ × Word))
    → first v (solo_with (held_of old.store) made sent) ≡ solo_with (held_of new.store) (made ++ firsts) sent)
    → Comes first firsts alike old new None
quietly first firsts alike old new cell input tasks quiet does =
    record {
      cell = cell;
      input = input;
      more = firsts;
      quiet = quiet;
      does = λ v made sent.
          ap (do_tasks old.store.cell old.input.now v old.tasks.items) (does v made sent)
          ∙ ap (λ c. do_tasks c old.input.now v old.tasks.items (solo_with (held_of new.store) (made ++ firsts) sent)) (sym cell)
          ∙ ap (λ i. do_tasks new.store.cell i v old.tasks.items (solo_with (held_of new.store) (made ++ firsts) sent)) (sym input)
          ∙ ap (λ ts. do_tasks new.store.cell new.input.now v ts (solo_with (held_of new.store) (made ++ firsts) sent)) (sym tasks);
      left = λ h all.
          ap (λ xs. xs ++ tasks_left old.tasks.items) (sym (append-nil firsts))
          ∙ ap (λ ts. (firsts ++ []) ++ tasks_left ts) (sym tasks);
      alike = λ h all. subst AlikeTasks (sym tasks) all;
    }

-- it communicates nothing
pub silently : (first : Streams → Solo → Solo) (alike : Type 0) (old new : Runner)
    → new.store.cell ≡ old.store.cell → new.input.now ≡ old.input.now → new.tasks.items ≡ old.tasks.items
    → ((v : Streams) (made : List Communication) (sent : List (ℕ × Word))
    → first v (solo_with (held_of old.store) made sent) ≡ solo_with (held_of new.store) made sent)
    → Comes first [] alike old new None
silently first alike old new cell input tasks does =
    quietly first [] alike old new cell input tasks refl
    (λ v made sent. does v made sent ∙ ap (λ xs. solo_with (held_of new.store) xs sent) (sym (append-nil made)))

-- ---- where it stops

pub stops : (first : Streams → Solo → Solo) (alike : Type 0) (r : Runner) (e : Option Event)
    → ((v : Streams) (made : List Communication) (sent : List (ℕ × Word))
    → first v (solo_with (held_of r.store) made sent) ≡ do_event v e (solo_with (held_of r.store) made sent))
    → Comes first (event_left e) alike r r e
stops first alike r e does =
    record {
      cell = refl;
      input = refl;
      more = [];
      quiet = refl;
      does = λ v made sent.
          ap (do_tasks r.store.cell r.input.now v r.tasks.items) (does v made sent)
          ∙ ap (λ xs. do_tasks r.store.cell r.input.now v r.tasks.items (do_event v e (solo_with (held_of r.store) xs sent)))
          (sym (append-nil made));
      left = λ h all. refl;
      alike = λ h all. all;
    }

-- ---- statements that push a task

-- what is held changes, and then a task is to be done
pub pushes : (first : Streams → Solo → Solo) (firsts : List Communication) (alike : Type 0) (old new : Runner) (t : Task)
    → new.store.cell ≡ old.store.cell → new.input.now ≡ old.input.now → new.tasks.items ≡ old.tasks.items ++ t ∷ []
    → (alike → firsts ≡ task_left t) → (alike → AlikeTask t)
    → ((v : Streams) (made : List Communication) (sent : List (ℕ × Word))
    → first v (solo_with (held_of old.store) made sent)
    ≡ do_task old.store.cell old.input.now v t (solo_with (held_of new.store) made sent))
    → Comes first firsts alike old new None
pushes first firsts alike old new t cell input tasks left arms does =
    record {
      cell = cell;
      input = input;
      more = [];
      quiet = refl;
      does = λ v made sent.
          ap (do_tasks old.store.cell old.input.now v old.tasks.items) (does v made sent)
          ∙ sym (do_pushed old.store.cell old.input.now v old.tasks.items t (solo_with (held_of new.store) made sent))
          ∙ ap (λ ts. do_tasks old.store.cell old.input.now v ts (solo_with (held_of new.store) made sent)) (sym tasks)
          ∙ ap (λ c. do_tasks c old.input.now v new.tasks.items (solo_with (held_of new.store) made sent)) (sym cell)
          ∙ ap (λ i. do_tasks new.store.cell i v new.tasks.items (solo_with (held_of new.store) made sent)) (sym input)
          ∙ ap (λ xs. do_tasks new.store.cell new.input.now v new.tasks.items (solo_with (held_of new.store) xs sent))
          (sym (append-nil made));
      left = λ h all.
          ap (λ xs. xs ++ tasks_left old.tasks.items) (left h) ∙ sym (left_pushed old.tasks.items t) ∙ ap tasks_left (sym tasks);
      alike = λ h all. subst AlikeTasks (sym tasks) (alike_pushed old.tasks.items t all (arms h));
    }

-- ---- a choice

-- the arm that is taken
abbrev pub arm_of : Bool → Block → Block → Block
arm_of b first second = if b then first else second

chosen : (b : Bool) (x y : Block) (cell : ℕ) (input : List ℤ) (v : Streams) (s : Solo)
    → (if b then do_block cell input v x s else do_block cell input v y s) ≡ do_block cell input v (arm_of b x y) s
chosen true x y cell input v s = refl
chosen false x y cell input v s = refl

arm_left : (b : Bool) (x y : Block) → block_communications x ≡ block_communications y
    → block_communications x ≡ block_communications (arm_of b x y)
arm_left true x y h = refl
arm_left false x y h = h

arm_alike : (b : Bool) (x y : Block) → AlikeBlock x → AlikeBlock y → AlikeBlock (arm_of b x y)
arm_alike true x y h g = h
arm_alike false x y h g = g

-- a runner that has tested a word goes on with an arm
pub branches : (old new : Runner) (line : ℕ) (test : Expression) (first second : Block) (word : Word) (t : Task) (b : Bool)
    → new.store.cell ≡ old.store.cell → new.input.now ≡ old.input.now → new.tasks.items ≡ old.tasks.items ++ t ∷ []
    → word ≡ value_of old.store.cell line (held_of old.store) test
    → b ≡ takes_first old.store.kept word
    → held_of new.store ≡ tested (held_of old.store) word
    → ((cell : ℕ) (input : List ℤ) (v : Streams) (s : Solo) → do_task cell input v t s ≡ do_block cell input v (arm_of b first second) s)
    → task_left t ≡ block_communications (arm_of b first second)
    → (AlikeBlock (arm_of b first second) → AlikeTask t)
    → Comes (λ v. do_action old.store.cell old.input.now v line (If test first second)) (block_communications first)
    (AlikeAction (If test first second)) old new None
branches old new line test first second word t b cell input tasks is bit held does left arms =
    pushes (λ v. do_action old.store.cell old.input.now v line (If test first second)) (block_communications first)
    (AlikeAction (If test first second)) old new t cell input tasks
    (λ h. arm_left b first second h.0 ∙ sym left) (λ h. arms (arm_alike b first second h.1 h.2))
    (λ v made sent.
    let w = value_of old.store.cell line (held_of old.store) test in
    chosen (takes_first old.store.kept w) first second old.store.cell old.input.now v
    (solo_with (tested (held_of old.store) w) made sent)
    ∙ ap (λ x. do_block old.store.cell old.input.now v (arm_of (takes_first old.store.kept x) first second)
    (solo_with (tested (held_of old.store) x) made sent)) (sym is)
    ∙ ap (λ c. do_block old.store.cell old.input.now v (arm_of c first second)
    (solo_with (tested (held_of old.store) word) made sent)) (sym bit)
    ∙ ap (λ h. do_block old.store.cell old.input.now v (arm_of b first second) (solo_with h made sent)) (sym held)
    ∙ sym (does old.store.cell old.input.now v (solo_with (held_of new.store) made sent)))
