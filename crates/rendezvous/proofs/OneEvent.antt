-- One event of an order, done by its cell.
use Rattle.std.proofs.Common.{◌≡◌, ℕ, ◌+◌, ◌<◌, cond, add-zero, List, [], ◌∷◌, ◌++◌, Some, length, slice_get, sym, ap, subst, ◌∙◌, inl, inr}
use Rattle.std.specs.Prelude.{ℤ}
use Rattle.std.proofs.lemmas.Bool.{cases_eq, eq-eqb, ne_eqb}
use Rattle.sys_base.specs.Communications.{Writes, Reads, times}
use Rattle.sys_base.specs.Held.{Streams, with_word, word_at}
use Rattle.sys_base.specs.declared.word.Word.{Word}
use Rattle.cell_types.specs.Code.{ProgramCode}
use Rattle.cell_types.specs.declared.program.Message.{Message}
use Rattle.rendezvous.specs.bodies.Running.{AlikeTasks, Goes, IsReady, do_tasks, solo_with}
use Rattle.rendezvous.specs.bodies.Stores.{held_of}
use Rattle.rendezvous.specs.bodies.UnderWay.{Extends, IsOn}
use Rattle.rendezvous.specs.declared.runner.Runner.{Runner}
use Rattle.rendezvous.specs.declared.task.Event.TheVariants as E
use Rattle.rendezvous.proofs.Counted.{reads_more, reads_quiet, words_other, words_same}

module _ (program : ProgramCode) (inputs : List (List ℤ)) where
  -- a cell that does nothing while another one does an event
  pub others_on : (h g : Streams) (read count : ℕ → ℕ) (c : ℕ) (r : Runner)
      → ((v : Streams) → Extends g v → Extends h v)
      → ((m : ℕ) (x : Message) → slice_get program.messages m ≡ Some x → x.from ≡ c → h m ≡ g m)
      → ((m : ℕ) (x : Message) → slice_get program.messages m ≡ Some x → x.to ≡ c → read m ≡ count m)
      → IsOn program inputs h read c r → IsOn program inputs g count c r
  others_on h g read count c r back words reads on =
      record {
        ready = on.ready;
        alike = on.alike;
        made = on.made;
        sent = on.sent;
        reads = λ m x at to. on.reads m x at to ∙ reads m x at to;
        writes = λ m x at from. on.writes m x at from ∙ words m x at from;
        comes = λ v e. on.comes v (back v e);
      }

  -- a cell that writes a word
  pub writer_on : (h g : Streams) (read count : ℕ → ℕ) (c m : ℕ) (word : Word) (old new : Runner)
      → Goes old new (Some (E.Writes m word)) → IsReady new
      → ((v : Streams) → Extends g v → Extends h v)
      → g m ≡ h m ++ word ∷ [] → ((n : ℕ) → (n ≡ m → ⊥) → g n ≡ h n) → ((n : ℕ) → count n ≡ read n)
      → IsOn program inputs h read c old → IsOn program inputs g count c new
  writer_on h g read count c m word old new goes ready back here others same on =
      record {
        ready = ready;
        alike = goes.alike tt on.alike;
        made = (on.made ++ goes.more) ++ Writes m ∷ [];
        sent = on.sent ++ (m, word) ∷ [];
        reads = λ n x at to.
            reads_more n on.made goes.more (Writes m) goes.quiet ∙ add-zero (times (Reads n) on.made)
            ∙ on.reads n x at to ∙ sym (same n);
        writes = λ n x at from. elim (cases_eq n m) [
          | inl e ↦
              words_same n m word on.sent e ∙ ap (λ xs. xs ++ word ∷ []) (on.writes n x at from ∙ ap h e) ∙ sym here
              ∙ ap g (sym e)
          | inr e ↦ words_other n m word on.sent e ∙ on.writes n x at from ∙ sym (others n e)
        ];
        comes = λ v e. sym (goes.does v on.made on.sent) ∙ on.comes v (back v e);
      }

  -- a cell that reads a word
  pub reader_on : (h g : Streams) (read count : ℕ → ℕ) (c m : ℕ) (x : Message) (variable : ℕ) (word : Word) (old stop new : Runner)
      → slice_get program.messages m ≡ Some x → x.to ≡ c
      → Goes old stop (Some (E.Reads m variable)) → IsReady new
      → new.store.cell ≡ stop.store.cell → new.input.now ≡ stop.input.now → new.tasks.items ≡ stop.tasks.items
      → held_of new.store ≡ with_word (held_of stop.store) variable word
      → word ≡ word_at h m (read m) → read m < length (h m)
      → ((n : ℕ) → g n ≡ h n) → count m ≡ read m + 1 → ((n : ℕ) → (n ≡ m → ⊥) → count n ≡ read n)
      → ((v : Streams) → Extends g v → Extends h v)
      → IsOn program inputs h read c old → IsOn program inputs g count c new
  reader_on h g read count c m x variable word old stop new at to goes ready cell input tasks held is there same here others back on =
      record {
        ready = ready;
        alike = subst AlikeTasks (sym tasks) (goes.alike tt on.alike);
        made = (on.made ++ goes.more) ++ Reads m ∷ [];
        sent = on.sent;
        reads = λ n y at to. elim (cases_eq n m) [
          | inl e ↦
              reads_more n on.made goes.more (Reads m) goes.quiet
              ∙ ap (λ b. times (Reads n) on.made + cond b 1 0) (eq-eqb n m e)
              ∙ ap (λ k. k + 1) (on.reads n y at to ∙ ap read e) ∙ sym here ∙ ap count (sym e)
          | inr e ↦
              reads_more n on.made goes.more (Reads m) goes.quiet
              ∙ ap (λ b. times (Reads n) on.made + cond b 1 0) (ne_eqb n m e)
              ∙ add-zero (times (Reads n) on.made) ∙ on.reads n y at to ∙ sym (others n e)
        ];
        writes = λ n y at from. on.writes n y at from ∙ sym (same n);
        comes = λ v e.
            let ext = back v e in
            let place : times (Reads m) (on.made ++ goes.more) ≡ read m =
            reads_quiet m on.made goes.more goes.quiet ∙ on.reads m x at to in
            let got : word_at v m (times (Reads m) (on.made ++ goes.more)) ≡ word =
            ap (word_at v m) place ∙ ext m (read m) there ∙ sym is in
            let made = (on.made ++ goes.more) ++ Reads m ∷ [] in
            ap (λ k. do_tasks k new.input.now v new.tasks.items (solo_with (held_of new.store) made on.sent)) cell
            ∙ ap (λ i. do_tasks stop.store.cell i v new.tasks.items (solo_with (held_of new.store) made on.sent)) input
            ∙ ap (λ ts. do_tasks stop.store.cell stop.input.now v ts (solo_with (held_of new.store) made on.sent)) tasks
            ∙ ap (λ h. do_tasks stop.store.cell stop.input.now v stop.tasks.items (solo_with h made on.sent)) held
            ∙ ap (λ w. do_tasks stop.store.cell stop.input.now v stop.tasks.items
            (solo_with (with_word (held_of stop.store) variable w) made on.sent)) (sym got)
            ∙ sym (goes.does v on.made on.sent) ∙ on.comes v ext;
      }
