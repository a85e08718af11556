-- One more task, which is done first.
use Rattle.std.proofs.Common.{◌≡◌, ℕ, ◌+◌, ℤ, List, [], ◌∷◌, ◌++◌, append-nil, append_assoc, refl, sym, ap, ◌∙◌, arith}
use Rattle.sys_base.specs.Held.{Streams}
use Rattle.cell_types.specs.Solo.{Solo}
use Rattle.rendezvous.specs.bodies.Running.{AlikeTask, AlikeTasks, FitTasks, FitsTask, do_task, do_tasks, task_left, task_weight, tasks_left, tasks_weight}
use Rattle.rendezvous.specs.declared.task.Task.{Task}

-- what is done
pub do_pushed : (cell : ℕ) (input : List ℤ) (v : Streams) (ts : List Task) (t : Task) (s : Solo)
    → do_tasks cell input v (ts ++ t ∷ []) s ≡ do_tasks cell input v ts (do_task cell input v t s)
do_pushed cell input v [] t s = refl
do_pushed cell input v (u ∷ ts) t s = ap (do_task cell input v u) (do_pushed cell input v ts t s)

-- the communications that are left
pub left_pushed : (ts : List Task) (t : Task) → tasks_left (ts ++ t ∷ []) ≡ task_left t ++ tasks_left ts
left_pushed [] t = sym (append-nil (task_left t))
left_pushed (u ∷ ts) t =
    ap (λ xs. xs ++ task_left u) (left_pushed ts t) ∙ append_assoc (task_left t) (tasks_left ts) (task_left u)

-- the arms
pub alike_pushed : (ts : List Task) (t : Task) → AlikeTasks ts → AlikeTask t → AlikeTasks (ts ++ t ∷ [])
alike_pushed [] t all one = (one, tt)
alike_pushed (u ∷ ts) t all one = (all.0, alike_pushed ts t all.1 one)

pub alike_first : (ts : List Task) (t : Task) → AlikeTasks (ts ++ t ∷ []) → AlikeTask t
alike_first [] t all = all.0
alike_first (u ∷ ts) t all = alike_first ts t all.1

pub alike_rest : (ts : List Task) (t : Task) → AlikeTasks (ts ++ t ∷ []) → AlikeTasks ts
alike_rest [] t all = tt
alike_rest (u ∷ ts) t all = (all.0, alike_rest ts t all.1)

-- the words and counters
module _ (words counters : ℕ) where
  pub fit_pushed : (ts : List Task) (t : Task) → FitTasks words counters ts → FitsTask words counters t
      → FitTasks words counters (ts ++ t ∷ [])
  fit_pushed [] t all one = (one, tt)
  fit_pushed (u ∷ ts) t all one = (all.0, fit_pushed ts t all.1 one)

  pub fit_first : (ts : List Task) (t : Task) → FitTasks words counters (ts ++ t ∷ []) → FitsTask words counters t
  fit_first [] t all = all.0
  fit_first (u ∷ ts) t all = fit_first ts t all.1

  pub fit_rest : (ts : List Task) (t : Task) → FitTasks words counters (ts ++ t ∷ []) → FitTasks words counters ts
  fit_rest [] t all = tt
  fit_rest (u ∷ ts) t all = (all.0, fit_rest ts t all.1)

-- the weight
pub weight_pushed : (ts : List Task) (t : Task) → tasks_weight (ts ++ t ∷ []) ≡ task_weight t + tasks_weight ts
weight_pushed [] t = refl
weight_pushed (u ∷ ts) t = omega (arith, weight_pushed ts t)
