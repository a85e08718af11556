-- How runners come from one to another.
use Rattle.std.proofs.Common.{◌≡◌, List, [], ◌∷◌, ◌++◌, Option, None, append-nil, append_assoc, refl, sym, ap, subst, ◌∙◌}
use Rattle.std.proofs.lemmas.List.Elements.{filter_map-append}
use Rattle.sys_base.specs.Communications.{Communication}
use Rattle.sys_base.specs.Held.{Streams}
use Rattle.cell_types.specs.Solo.{Solo}
use Rattle.comm_sequence.specs.Sequences.{comm_of, comms}
use Rattle.rendezvous.specs.bodies.Running.{AlikeTask, AlikeTasks, Comes, Goes, do_event, do_task, do_tasks, event_left, solo_with, task_left, tasks_left}
use Rattle.rendezvous.specs.bodies.Stores.{held_of}
use Rattle.rendezvous.specs.declared.runner.Runner.{Runner}
use Rattle.rendezvous.specs.declared.task.Event.{Event}
use Rattle.rendezvous.specs.declared.task.Task.{Task}
use Rattle.rendezvous.proofs.Pushing.{alike_first, alike_pushed, alike_rest, do_pushed, left_pushed}

-- a runner stays where it is
pub stays : (r : Runner) → Goes r r None
stays r =
    record {
      cell = refl;
      input = refl;
      more = [];
      quiet = refl;
      does = λ v made sent. ap (λ xs. do_tasks r.store.cell r.input.now v r.tasks.items (solo_with (held_of r.store) xs sent))
          (sym (append-nil made));
      left = λ h all. refl;
      alike = λ h all. all;
    }

-- a runner comes to another one, and that one goes on
pub goes_on : (first : Streams → Solo → Solo) (firsts : List Communication) (alike : Type 0) (a b c : Runner) (e : Option Event)
    → Comes first firsts alike a b None → Goes b c e → Comes first firsts alike a c e
goes_on first firsts alike a b c e p q =
    record {
      cell = q.cell ∙ p.cell;
      input = q.input ∙ p.input;
      more = p.more ++ q.more;
      quiet = filter_map-append comm_of p.more q.more ∙ ap (λ xs. xs ++ comms q.more) p.quiet ∙ q.quiet;
      does = λ v made sent.
          p.does v made sent ∙ q.does v (made ++ p.more) sent
          ∙ ap (λ xs. do_tasks c.store.cell c.input.now v c.tasks.items (do_event v e (solo_with (held_of c.store) xs sent)))
          (append_assoc made p.more q.more);
      left = λ h all.
          p.left h all
          ∙ ap (λ xs. xs ++ tasks_left b.tasks.items) (append-nil p.more)
          ∙ ap (λ xs. p.more ++ xs) (q.left tt (p.alike h all))
          ∙ sym (append_assoc p.more (q.more ++ event_left e) (tasks_left c.tasks.items))
          ∙ ap (λ xs. xs ++ tasks_left c.tasks.items) (sym (append_assoc p.more q.more (event_left e)));
      alike = λ h all. q.alike tt (p.alike h all);
    }

-- ---- the first task

-- A runner without its first task.
pub record IsPopped (a b : Runner) (t : Task) : Type 0 where
  pub store : b.store ≡ a.store
  pub input : b.input.now ≡ a.input.now
  pub tasks : a.tasks.items ≡ b.tasks.items ++ t ∷ []

-- where it does that task first, it goes as it did before
pub popped : (a b c : Runner) (t : Task) (e : Option Event) → IsPopped a b t
    → Comes (λ v. do_task b.store.cell b.input.now v t) (task_left t) (AlikeTask t) b c e → Goes a c e
popped a b c t e is p =
    record {
      cell = p.cell ∙ ap (λ s. s.cell) is.store;
      input = p.input ∙ is.input;
      more = p.more;
      quiet = p.quiet;
      does = λ v made sent.
          ap (λ s. do_tasks s.cell a.input.now v a.tasks.items (solo_with (held_of s) made sent)) (sym is.store)
          ∙ ap (λ i. do_tasks b.store.cell i v a.tasks.items (solo_with (held_of b.store) made sent)) (sym is.input)
          ∙ ap (λ ts. do_tasks b.store.cell b.input.now v ts (solo_with (held_of b.store) made sent)) is.tasks
          ∙ do_pushed b.store.cell b.input.now v b.tasks.items t (solo_with (held_of b.store) made sent)
          ∙ p.does v made sent;
      left = λ h all.
          ap tasks_left is.tasks ∙ left_pushed b.tasks.items t
          ∙ p.left (alike_first b.tasks.items t (subst AlikeTasks is.tasks all))
          (alike_rest b.tasks.items t (subst AlikeTasks is.tasks all));
      alike = λ h all.
          p.alike (alike_first b.tasks.items t (subst AlikeTasks is.tasks all))
          (alike_rest b.tasks.items t (subst AlikeTasks is.tasks all));
    }

-- where a task was pushed in front of what is left, and something else is done before it
pub pushed_before : (f g : Streams → Solo → Solo) (fs : List Communication) (alike : Type 0) (a b c : Runner) (t : Task)
    (e : Option Event) → IsPopped b a t
    → Comes g fs alike b c e
    → ((v : Streams) (s : Solo) → f v s ≡ do_task a.store.cell a.input.now v t (g v s))
    → Comes f (fs ++ task_left t) (alike × AlikeTask t) a c e
pushed_before f g fs alike a b c t e is p same =
    record {
      cell = p.cell ∙ ap (λ s. s.cell) (sym is.store);
      input = p.input ∙ sym is.input;
      more = p.more;
      quiet = p.quiet;
      does = λ v made sent.
          ap (do_tasks a.store.cell a.input.now v a.tasks.items) (same v (solo_with (held_of a.store) made sent))
          ∙ sym (do_pushed a.store.cell a.input.now v a.tasks.items t (g v (solo_with (held_of a.store) made sent)))
          ∙ ap (λ ts. do_tasks a.store.cell a.input.now v ts (g v (solo_with (held_of a.store) made sent))) (sym is.tasks)
          ∙ ap (λ s. do_tasks s.cell a.input.now v b.tasks.items (g v (solo_with (held_of s) made sent))) is.store
          ∙ ap (λ i. do_tasks b.store.cell i v b.tasks.items (g v (solo_with (held_of b.store) made sent))) is.input
          ∙ p.does v made sent;
      left = λ h all.
          append_assoc fs (task_left t) (tasks_left a.tasks.items)
          ∙ ap (λ xs. fs ++ xs) (sym (left_pushed a.tasks.items t) ∙ ap tasks_left (sym is.tasks))
          ∙ p.left h.0 (subst AlikeTasks (sym is.tasks) (alike_pushed a.tasks.items t all h.1));
      alike = λ h all. p.alike h.0 (subst AlikeTasks (sym is.tasks) (alike_pushed a.tasks.items t all h.1));
    }
