-- After the last event: all cells end, and what they have emitted is the meaning.
use Rattle.std.proofs.Common.{◌≡◌, ℕ, zero, suc, ◌+◌, ◌≤◌, List, [], ◌∷◌, ◌++◌, Option, None, Some, length, map, get_or, slice_get, refl, sym, ap, subst, ◌∙◌, arith}
use Rattle.std.specs.List.{range_with_len}
use Rattle.std.specs.Prelude.{ℤ}
use Rattle.std.proofs.lemmas.List.Elements.{filter_map-append}
use Rattle.std.proofs.lemmas.Option.{get_or_from_slice_get, slice_get_within}
use Rattle.sys_base.specs.Held.{Streams}
use Rattle.sys_base.specs.declared.limits.TheConstants.{STEPS}
use Rattle.sys_base.specs.declared.word.Word.{Word}
use Rattle.cell_types.specs.Code.{ProgramCode}
use Rattle.cell_types.specs.Cost.{cells_cost}
use Rattle.cell_types.specs.Groups.{below}
use Rattle.cell_types.specs.Solo.{emitted, written_to}
use Rattle.cell_types.specs.Sound.{IsSound, IsSoundMessage}
use Rattle.cell_types.specs.declared.program.Message.{Message}
use Rattle.comm_sequence.specs.BufferedOrder.{IsBufferedOrder}
use Rattle.comm_sequence.specs.Meaning.{IsMeaning, alone}
use Rattle.comm_sequence.specs.Sequences.{comm_of, comms, sequences_of}
use Rattle.comm_sequence.specs.declared.comm.Comm.{Comm}
use Rattle.rendezvous.specs.bodies.Running.{AlikeTasks, Goes, do_event, do_tasks, event_left, solo_with, tasks_left}
use Rattle.rendezvous.specs.bodies.Stores.{held_of}
use Rattle.rendezvous.specs.bodies.UnderWay.{AllEnd, AreOn, Ends, Extends, IsOn, read_of, words_of}
use Rattle.rendezvous.specs.declared.array.Stream.{Stream}
use Rattle.rendezvous.specs.declared.runner.Runner.{Runner}
use Rattle.rendezvous.specs.declared.task.Event.{Event}
use Rattle.rendezvous.specs.declared.task.Event.TheVariants as E
use Rattle.rendezvous.proofs.Lengths.{ProgramsHaveSequences, order_long}
use Rattle.rendezvous.proofs.Places.{there}

-- ---- one cell

-- what is left begins with what the cell stops at
pub left_is : (old new : Runner) (e : Option Event) → Goes old new e → AlikeTasks old.tasks.items
    → comms (tasks_left old.tasks.items) ≡ comms (event_left e) ++ comms (tasks_left new.tasks.items)
left_is old new e goes alike =
    ap comms (goes.left tt alike)
    ∙ filter_map-append comm_of (goes.more ++ event_left e) (tasks_left new.tasks.items)
    ∙ ap (λ xs. xs ++ comms (tasks_left new.tasks.items)) (filter_map-append comm_of goes.more (event_left e))
    ∙ ap (λ xs. (xs ++ comms (event_left e)) ++ comms (tasks_left new.tasks.items)) goes.quiet

-- where nothing is left to write or read, a cell stops at its end alone
no_event : (old new : Runner) (e : Option Event) → Goes old new e → AlikeTasks old.tasks.items
    → comms (tasks_left old.tasks.items) ≡ [] → e ≡ None
no_event old new None goes alike none = refl
no_event old new (Some (E.Writes m w)) goes alike none = absurd (cc (sym none ∙ left_is old new (Some (E.Writes m w)) goes alike))
no_event old new (Some (E.Reads m x)) goes alike none = absurd (cc (sym none ∙ left_is old new (Some (E.Reads m x)) goes alike))

module _ (program : ProgramCode) (inputs : List (List ℤ)) (sofar : Streams) (read : ℕ → ℕ) (c : ℕ) (r : Runner) (words : List Word)
    (on : IsOn program inputs sofar read c r) (none : comms (tasks_left r.tasks.items) ≡ []) (end : Ends r words) where
  -- over streams that begin with the words so far the cell alone comes to where the cell has come
  last_is : (v : Streams) → Extends sofar v
      → alone program inputs v c ≡ solo_with (held_of end.last.store) (on.made ++ end.goes.more) on.sent
  last_is v ext =
      let at = no_event r end.last end.event end.goes on.alike none in
      sym (on.comes v ext) ∙ end.goes.does v on.made on.sent
      ∙ ap (λ e. do_tasks end.last.store.cell end.last.input.now v end.last.tasks.items
      (do_event v e (solo_with (held_of end.last.store) (on.made ++ end.goes.more) on.sent))) at
      ∙ ap (λ ts. do_tasks end.last.store.cell end.last.input.now v ts
      (solo_with (held_of end.last.store) (on.made ++ end.goes.more) on.sent)) (end.ends at)

  pub emits : (v : Streams) → Extends sofar v → emitted (alone program inputs v c) ≡ words
  emits v ext = ap emitted (last_is v ext) ∙ sym end.emitted

  pub wrote : (v : Streams) → Extends sofar v → (m : ℕ) (x : Message) → slice_get program.messages m ≡ Some x → x.from ≡ c
      → written_to m (alone program inputs v c) ≡ sofar m
  wrote v ext m x at from = ap (written_to m) (last_is v ext) ∙ on.writes m x at from

-- ---- all cells

-- each cell ends with its words
pub ends_at : (rs : List Runner) (ws : List (List Word)) → AllEnd rs ws → (c : ℕ) (r : Runner) → slice_get rs c ≡ Some r
    → Ends r (get_or ws c [])
ends_at [] [] all c r at = absurd (cc at)
ends_at [] (w ∷ ws) all c r at = absurd all
ends_at (q ∷ rs) [] all c r at = absurd all
ends_at (q ∷ rs) (w ∷ ws) all zero r at = let same : q ≡ r = cc at in subst (λ i. Ends i w) same all.0
ends_at (q ∷ rs) (w ∷ ws) all (suc c) r at = ends_at rs ws all.1 c r at

as_many : (rs : List Runner) (ws : List (List Word)) → AllEnd rs ws → length ws ≡ length rs
as_many [] [] all = refl
as_many [] (w ∷ ws) all = absurd all
as_many (q ∷ rs) [] all = absurd all
as_many (q ∷ rs) (w ∷ ws) all = ap suc (as_many rs ws all.1)

-- one cell more
pub all_push : (rs : List Runner) (ws : List (List Word)) (r : Runner) (w : List Word) → AllEnd rs ws → Ends r w
    → AllEnd (rs ++ r ∷ []) (ws ++ w ∷ [])
all_push [] [] r w all one = (one, tt)
all_push [] (v ∷ ws) r w all one = absurd all
all_push (q ∷ rs) [] r w all one = absurd all
all_push (q ∷ rs) (v ∷ ws) r w all one = (all.0, all_push rs ws r w all.1 one)

-- a list is the table of its elements
table_is : {A : Type 0} (a : ℕ) (xs : List A) (f : ℕ → A)
    → ((i : ℕ) (x : A) → slice_get xs i ≡ Some x → f (a + i) ≡ x) → map f (range_with_len a (length xs)) ≡ xs
table_is a [] f h = refl
table_is {A} a (x ∷ xs) f h =
    let here : a + 0 ≡ a = omega arith in
    let step : (i : ℕ) (y : A) → slice_get xs i ≡ Some y → f (a + 1 + i) ≡ y =
    λ i y g. let n : a + suc i ≡ a + 1 + i = omega arith in ap f (sym n) ∙ h (suc i) y g in
    ap (λ y. y ∷ map f (range_with_len (a + 1) (length xs))) (ap f (sym here) ∙ h 0 x refl)
    ∙ ap (λ ys. x ∷ ys) (table_is (a + 1) xs f step)

-- The words that the cells have emitted are the meaning.
pub means : (program : ProgramCode) (inputs : List (List ℤ)) (order : List Comm) (cells : List Runner) (streams : List Stream)
    (words : List (List Word))
    → IsSound program → cells_cost program ≤ STEPS → ProgramsHaveSequences
    → (buffer : ℕ) → IsBufferedOrder (sequences_of program).lists (sequences_of program).ends buffer order
    → AreOn program inputs order [] cells streams → AllEnd cells words → IsMeaning program inputs words
means program inputs order cells streams words sound within sequences buffer ordered on all =
    let v = words_of streams in
    let self : Extends v v = λ m k below. refl in
    record {
      streams = v;
      agree = record {
        lengths = λ m below.
            let x = there program.messages m below in
            on.written m ∙ order_long program sound within sequences buffer order ordered m x.0 x.1 below;
        written = λ m x at.
            let below = slice_get_within program.messages m x at in
            let known : IsSoundMessage program.grid x =
            subst (IsSoundMessage program.grid) (get_or_from_slice_get program.messages m x x at) (sound.messages m x below) in
            let r = there cells x.from (omega (arith, known.sender, sound.all, on.many)) in
            wrote program inputs v (read_of streams) x.from r.0 (get_or words x.from []) (on.on x.from r.0 r.1)
            (on.left x.from r.0 r.1) (ends_at cells words all x.from r.0 r.1) v self m x at refl;
      };
      words =
          let many : length words ≡ length program.cells = as_many cells words all ∙ on.many in
          sym (table_is 0 words (λ c. emitted (alone program inputs v c))
          (λ i w at.
          let n : 0 + i ≡ i = omega arith in
          let inside = slice_get_within words i w at in
          let r = there cells i (omega (arith, inside, as_many cells words all)) in
          ap (λ c. emitted (alone program inputs v c)) n
          ∙ emits program inputs v (read_of streams) i r.0 (get_or words i []) (on.on i r.0 r.1) (on.left i r.0 r.1)
          (ends_at cells words all i r.0 r.1) v self
          ∙ get_or_from_slice_get words i w [] at))
          ∙ ap (λ n. map (λ c. emitted (alone program inputs v c)) (below n)) many;
    }
