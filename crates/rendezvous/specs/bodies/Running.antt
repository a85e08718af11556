-- A cell that stops at each write and read: what it has still to do, and what comes of it.
use Rattle.std.specs.Prelude.{ℕ, ◌≡◌, ◌+◌, ◌*◌, ◌^◌, ◌<◌, ◌≤◌, ⊤, ℤ, List, [], ◌∷◌, ◌++◌, Option, Some, None}
use Rattle.std.specs.Vec.{vec_len}
use Rattle.sys_base.specs.Communications.{Communication, Writes, Reads, copies}
use Rattle.sys_base.specs.Held.{Held, Streams}
use Rattle.sys_base.specs.declared.limits.TheConstants.{TURNS}
use Rattle.sys_base.specs.declared.word.Word.{Word}
use Rattle.cell_types.specs.Alike.{AlikeBlock, InTurns}
use Rattle.cell_types.specs.Code.{Block}
use Rattle.cell_types.specs.Communications.{block_communications}
use Rattle.cell_types.specs.Cost.{block_cost}
use Rattle.cell_types.specs.Solo.{Solo, counting, do_block, reading, turns_from}
use Rattle.cell_types.specs.Typed.{block_of}
use Rattle.comm_sequence.specs.Sequences.{comms}
use Rattle.rendezvous.specs.bodies.Fitting.{FitsBlock}
use Rattle.rendezvous.specs.bodies.Stores.{held_of}
use Rattle.rendezvous.specs.declared.runner.Runner.{Runner}
use Rattle.rendezvous.specs.declared.task.Event.{Event}
use Rattle.rendezvous.specs.declared.task.Event.TheVariants as E
use Rattle.rendezvous.specs.declared.task.Task.{Task}
use Rattle.rendezvous.specs.declared.task.Task.TheVariants as T

-- ---- tasks

-- what is done by so many turns of a loop that are left, from this one on
abbrev pub do_turns : (cell : ℕ) (input : List ℤ) (streams : Streams) (depth turn left : ℕ) → Block → Solo → Solo
do_turns cell input streams depth turn left body s =
    counting depth (turn + left)
    (turns_from (λ turn now. do_block cell input streams body (counting depth turn now)) turn left s)

-- what is done by a task
abbrev pub do_task : (cell : ℕ) (input : List ℤ) (streams : Streams) → Task → Solo → Solo
do_task cell input streams (T.Rest statements) s = do_block cell input streams (block_of statements.now) s
do_task cell input streams (T.Turns depth turn left body) s =
    do_turns cell input streams depth turn left (block_of body.now) s

-- what is done by tasks, the last one first
abbrev pub do_tasks : (cell : ℕ) (input : List ℤ) (streams : Streams) → List Task → Solo → Solo
do_tasks cell input streams [] s = s
do_tasks cell input streams (t ∷ ts) s = do_task cell input streams t (do_tasks cell input streams ts s)

-- the communications of a task
abbrev pub task_left : Task → List Communication
task_left (T.Rest statements) = block_communications (block_of statements.now)
task_left (T.Turns depth turn left body) = copies left (block_communications (block_of body.now))

-- the communications of tasks, those of the last one first
abbrev pub tasks_left : List Task → List Communication
tasks_left [] = []
tasks_left (t ∷ ts) = tasks_left ts ++ task_left t

-- The arms in a task communicate alike.
abbrev pub AlikeTask : Task → Type 0
AlikeTask (T.Rest statements) = AlikeBlock (block_of statements.now)
AlikeTask (T.Turns depth turn left body) = InTurns left (AlikeBlock (block_of body.now))

-- The arms in tasks communicate alike.
abbrev pub AlikeTasks : List Task → Type 0
AlikeTasks [] = ⊤
AlikeTasks (t ∷ ts) = AlikeTask t × AlikeTasks ts

-- A task uses only so many words and counters.
abbrev pub FitsTask : (words counters : ℕ) → Task → Type 0
FitsTask words counters (T.Rest statements) = FitsBlock words counters (block_of statements.now)
FitsTask words counters (T.Turns depth turn left body) =
    (depth < counters) × (turn + left ≤ TURNS) × FitsBlock words counters (block_of body.now)

-- Tasks use only so many words and counters.
abbrev pub FitTasks : (words counters : ℕ) → List Task → Type 0
FitTasks words counters [] = ⊤
FitTasks words counters (t ∷ ts) = FitsTask words counters t × FitTasks words counters ts

-- what statements that are left may still take: more than their steps and the turns of their loops
abbrev pub rest_weight : Block → ℕ
rest_weight body = 2 * block_cost body + 1

-- what so many turns of a loop may still take
abbrev pub turns_weight : (left : ℕ) → Block → ℕ
turns_weight left body = left * (2 * block_cost body + 2) + 1

-- what a task may still take
abbrev pub task_weight : Task → ℕ
task_weight (T.Rest statements) = rest_weight (block_of statements.now)
task_weight (T.Turns depth turn left body) = turns_weight left (block_of body.now)

-- the weight of tasks
abbrev pub tasks_weight : List Task → ℕ
tasks_weight [] = 0
tasks_weight (t ∷ ts) = task_weight t + tasks_weight ts

-- ---- runners

-- a cell alone that holds this, with what it has communicated and written
abbrev pub solo_with : Held → List Communication → List (ℕ × Word) → Solo
solo_with held made sent = record { held = held; made = made; sent = sent }

-- what is done where a cell stops
abbrev pub do_event : Streams → Option Event → Solo → Solo
do_event streams None s = s
do_event streams (Some (E.Writes message word)) s =
    record s { made = s.made ++ Writes message ∷ []; sent = s.sent ++ (message, word) ∷ [] }
do_event streams (Some (E.Reads message variable)) s = reading streams message variable s

-- the communication where a cell stops
abbrev pub event_left : Option Event → List Communication
event_left None = []
event_left (Some (E.Writes message word)) = Writes message ∷ []
event_left (Some (E.Reads message variable)) = Reads message ∷ []

-- The tasks of a runner use only the words and counters that it has, and how much it may still take can be counted.
pub record IsReady (r : Runner) : Type 0 where
  pub fit : FitTasks (vec_len r.store.words) (vec_len r.store.counters) r.tasks.items
  pub few : r.store.taken + tasks_weight r.tasks.items < 2 ^ 64

-- The same, where it does something first that asks this and has this weight.
pub record IsReadyFor (r : Runner) (fits : Type 0) (weight : ℕ) : Type 0 where
  pub first : fits
  pub fit : FitTasks (vec_len r.store.words) (vec_len r.store.counters) r.tasks.items
  pub few : r.store.taken + (weight + tasks_weight r.tasks.items) < 2 ^ 64

-- The runner has the variable that it wants to read, if it wants one.
abbrev pub HasPlace : Runner → Option Event → Type 0
HasPlace r None = ⊤
HasPlace r (Some (E.Writes message word)) = ⊤
HasPlace r (Some (E.Reads message variable)) = variable < vec_len r.store.words

-- The runner is ready where it stops, and has less to do than a weight.
pub record IsReadyAt (r : Runner) (event : Option Event) (weight : ℕ) : Type 0 where
  pub ready : IsReady r
  pub place : HasPlace r event
  pub less : tasks_weight r.tasks.items < weight

-- A runner that has just these statements to do.
pub record IsBefore (r : Runner) (body : Block) : Type 0 where
  pub does : (cell : ℕ) (input : List ℤ) (v : Streams) (s : Solo)
      → do_tasks cell input v r.tasks.items s ≡ do_block cell input v body s
  pub left : tasks_left r.tasks.items ≡ block_communications body
  pub alike : AlikeBlock body → AlikeTasks r.tasks.items
  pub fit : (words counters : ℕ) → FitsBlock words counters body → FitTasks words counters r.tasks.items
  pub weight : tasks_weight r.tasks.items ≡ rest_weight body

-- Where a runner does this first, which has these communications and whose arms are alike where a fact holds, it comes
-- to another runner, up to where it stops: for all streams what is left to do comes to the same.
pub record Comes (first : Streams → Solo → Solo) (firsts : List Communication) (arms : Type 0) (old new : Runner)
    (event : Option Event) : Type 0 where
  pub cell : new.store.cell ≡ old.store.cell
  pub input : new.input.now ≡ old.input.now
  pub more : List Communication
  pub quiet : comms more ≡ []
  pub does : (v : Streams) (made : List Communication) (sent : List (ℕ × Word))
      → do_tasks old.store.cell old.input.now v old.tasks.items (first v (solo_with (held_of old.store) made sent))
      ≡ do_tasks new.store.cell new.input.now v new.tasks.items
      (do_event v event (solo_with (held_of new.store) (made ++ more) sent))
  pub left : arms → AlikeTasks old.tasks.items
      → firsts ++ tasks_left old.tasks.items ≡ (more ++ event_left event) ++ tasks_left new.tasks.items
  pub alike : arms → AlikeTasks old.tasks.items → AlikeTasks new.tasks.items

-- One runner comes to another one, up to where it stops.
abbrev pub Goes : (old new : Runner) → Option Event → Type 0
Goes old new event = Comes (λ streams s. s) [] ⊤ old new event
