-- One event of a cell on the stream of its message.
use Rattle.std.proofs.Common.{◌≡◌, ℕ, ◌+◌, ◌<◌, [], ◌∷◌, ◌++◌, None, Some, sym, ap, subst, ◌∙◌, vec_len, arith}
use Rattle.std.specs.Prelude.{pos, slice_index_or}
use Rattle.sys_base.specs.Held.{Held, with_word}
use Rattle.sys_base.specs.declared.word.Word.{Word}
use Rattle.sys_base.specs.declared.word.Word.TheVariants.{Num}
use Rattle.comm_sequence.specs.Sequences.{comms}
use Rattle.comm_sequence.specs.declared.comm.Comm.{Comm}
use Rattle.comm_sequence.specs.declared.comm.Comm.TheVariants as C
use Rattle.rendezvous.specs.bodies.Running.{AlikeTasks, FitTasks, Goes, IsReady, tasks_left, tasks_weight}
use Rattle.rendezvous.specs.bodies.Stores.{KeepsSize, held_of}
use Rattle.rendezvous.specs.bodies.UnderWay.{DoesNext, Exchanged, HasWord}
use Rattle.rendezvous.specs.declared.array.Stream.{Stream}
use Rattle.rendezvous.specs.declared.runner.Runner.{Runner}
use Rattle.rendezvous.specs.declared.task.Event.TheVariants as E
use Rattle.rendezvous.proofs.Ending.{left_is}

-- a word is written
pub wrote_it : (old new : Runner) (was is : Stream) (m : ℕ) (w : Word) → Goes old new (Some (E.Writes m w)) → IsReady new
    → is.words.items ≡ was.words.items ++ w ∷ [] → is.read ≡ was.read
    → (event : Comm) → DoesNext old event → Exchanged event old new was is
wrote_it old new was is m w goes ready words read event next =
    let left : event ∷ next.more ≡ C.Write m ∷ comms (tasks_left new.tasks.items) =
    sym next.next ∙ left_is old new (Some (E.Writes m w)) goes next.alike in
    let same : C.Write m ≡ event = cc in
    subst (λ e. Exchanged e old new was is) same
    (record { word = w; goes = goes; ready = ready; words = words; read = read })

-- a runner that comes to a read reads next
reads_next : (old stop : Runner) (m x : ℕ) → IsReady old → AlikeTasks old.tasks.items → Goes old stop (Some (E.Reads m x))
    → DoesNext old (C.Read m)
reads_next old stop m x ready alike goes =
    record {
      ready = ready;
      alike = alike;
      more = comms (tasks_left stop.tasks.items);
      next = left_is old stop (Some (E.Reads m x)) goes alike;
    }

-- so there is a word
pub there_is : (old stop : Runner) (was : Stream) (m x : ℕ) → IsReady old → AlikeTasks old.tasks.items
    → Goes old stop (Some (E.Reads m x)) → ((event : Comm) → DoesNext old event → HasWord was event)
    → was.read < vec_len was.words
there_is old stop was m x ready alike goes word = word (C.Read m) (reads_next old stop m x ready alike goes)

-- a word is read
pub read_it : (old stop new : Runner) (was is : Stream) (m x : ℕ) (word : Word) → Goes old stop (Some (E.Reads m x))
    → IsReady stop → KeepsSize stop.store new.store → new.input.now ≡ stop.input.now → new.tasks.items ≡ stop.tasks.items
    → held_of new.store ≡ with_word (held_of stop.store) x word
    → word ≡ slice_index_or was.words.items was.read (Num (pos 0))
    → is.words.items ≡ was.words.items → is.read ≡ was.read + 1
    → (event : Comm) → DoesNext old event → Exchanged event old new was is
read_it old stop new was is m x word goes ready size input tasks held value words read event next =
    let left : event ∷ next.more ≡ C.Read m ∷ comms (tasks_left stop.tasks.items) =
    sym next.next ∙ left_is old stop (Some (E.Reads m x)) goes next.alike in
    let same : C.Read m ≡ event = cc in
    subst (λ e. Exchanged e old new was is) same
    (record {
      stop = stop;
      variable = x;
      goes = goes;
      cell = size.cell;
      input = input;
      tasks = tasks;
      held = held ∙ ap (with_word (held_of stop.store) x) value;
      ready = record {
        fit = subst (λ n. FitTasks n (vec_len new.store.counters) new.tasks.items) (sym size.words)
            (subst (λ n. FitTasks (vec_len stop.store.words) n new.tasks.items) (sym size.counters)
            (subst (FitTasks (vec_len stop.store.words) (vec_len stop.store.counters)) (sym tasks) ready.fit));
        few = omega (arith, ready.few, ap (λ (h : Held). h.taken) held, ap tasks_weight tasks);
      };
      words = words;
      read = read;
    })

-- a runner that comes to its end has no event next
pub none_next : (old new : Runner) → Goes old new None → new.tasks.items ≡ [] → (event : Comm) → DoesNext old event → ⊥
none_next old new goes ends event next =
    let left = sym next.next ∙ left_is old new None goes next.alike ∙ ap (λ ts. comms (tasks_left ts)) ends in
    absurd (cc left)
