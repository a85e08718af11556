-- All cells, one event further along an order.
use Rattle.std.proofs.Common.{◌≡◌, ℕ, ◌+◌, ◌<◌, cond, add-zero, append-nil, List, [], ◌∷◌, ◌++◌, Option, Some, length, get_or, set, filter, slice_get, refl, sym, ap, subst, ◌∙◌, inl, inr, arith}
use Rattle.std.specs.Prelude.{ℤ, pos}
use Rattle.std.specs.Option.{option_map_or}
use Rattle.std.proofs.lemmas.Bool.{cases_eq, eq-eqb, ne_eqb}
use Rattle.std.proofs.lemmas.List.{get_or_append_left, length-append, length-set}
use Rattle.std.proofs.lemmas.List.Elements.{filter_map-append}
use Rattle.std.proofs.lemmas.Option.{same_Some, slice_get_within}
use Rattle.sys_base.specs.Held.{Streams, word_at}
use Rattle.sys_base.specs.declared.word.Word.{Word}
use Rattle.sys_base.specs.declared.word.Word.TheVariants.{Num}
use Rattle.cell_types.specs.Code.{ProgramCode}
use Rattle.cell_types.specs.declared.program.Message.{Message}
use Rattle.comm_sequence.specs.BufferedOrder.{is_of, occurrences}
use Rattle.comm_sequence.specs.Sequences.{comm_of, comms, message_of, sequences_of}
use Rattle.comm_sequence.specs.declared.comm.Comm.{Comm}
use Rattle.comm_sequence.specs.declared.comm.Comm.TheVariants as C
use Rattle.rendezvous.specs.bodies.Running.{AlikeTasks, Goes, event_left, tasks_left}
use Rattle.rendezvous.specs.bodies.UnderWay.{AreOn, Exchanged, Extends, HasWord, IsOn, IsOwner, ReadsIt, WritesIt, read_of, words_of}
use Rattle.rendezvous.specs.declared.array.Stream.{Stream}
use Rattle.rendezvous.specs.declared.runner.Runner.{Runner}
use Rattle.rendezvous.specs.declared.task.Event.{Event}
use Rattle.rendezvous.specs.declared.task.Event.TheVariants as E
use Rattle.rendezvous.proofs.Events.{first_other, first_own, occurs_more, of_other, of_owner}
use Rattle.rendezvous.proofs.OneEvent.{others_on, reader_on, writer_on}
use Rattle.rendezvous.proofs.Places.{at_other, at_same}

-- ---- what is left to write and read

-- a runner that comes to a write or a read has passed it
passed : (old new : Runner) (e : Option Event) (x : Comm) (more : List Comm) → Goes old new e → AlikeTasks old.tasks.items
    → comms (event_left e) ≡ x ∷ [] → comms (tasks_left old.tasks.items) ≡ x ∷ more → comms (tasks_left new.tasks.items) ≡ more
passed old new e x more goes alike is before =
    let all : comms (tasks_left old.tasks.items) ≡ x ∷ comms (tasks_left new.tasks.items) =
    ap comms (goes.left tt alike)
    ∙ filter_map-append comm_of (goes.more ++ event_left e) (tasks_left new.tasks.items)
    ∙ ap (λ xs. xs ++ comms (tasks_left new.tasks.items)) (filter_map-append comm_of goes.more (event_left e))
    ∙ ap (λ xs. (xs ++ comms (event_left e)) ++ comms (tasks_left new.tasks.items)) goes.quiet
    ∙ ap (λ xs. xs ++ comms (tasks_left new.tasks.items)) is in
    cc

-- ---- the words of messages, where those of one are replaced

module _ (streams : List Stream) (m : ℕ) (s : Stream) where
  pub words_here : m < length streams → words_of (set streams m s) m ≡ s.words.items
  words_here h = ap (λ o. option_map_or (λ (s : Stream). s.words.items) o []) (at_same streams m s h)

  pub words_there : (n : ℕ) → (n ≡ m → ⊥) → words_of (set streams m s) n ≡ words_of streams n
  words_there n h = ap (λ o. option_map_or (λ (s : Stream). s.words.items) o []) (at_other streams m n s h)

  pub read_here : m < length streams → read_of (set streams m s) m ≡ s.read
  read_here h = ap (λ o. option_map_or (λ (s : Stream). s.read) o 0) (at_same streams m s h)

  pub read_there : (n : ℕ) → (n ≡ m → ⊥) → read_of (set streams m s) n ≡ read_of streams n
  read_there n h = ap (λ o. option_map_or (λ (s : Stream). s.read) o 0) (at_other streams m n s h)

-- streams that begin with the words after begin with those before
back : (h g : Streams) (m : ℕ) (more : List Word) → g m ≡ h m ++ more → ((n : ℕ) → (n ≡ m → ⊥) → g n ≡ h n)
    → (v : Streams) → Extends g v → Extends h v
back h g m more here there v e n k below =
    elim (cases_eq n m) [
      | inl is ↦
          let grown : g n ≡ h n ++ more = ap g is ∙ here ∙ ap (λ i. h i ++ more) (sym is) in
          let within : k < length (g n) = omega (arith, ap length grown, length-append (h n) more) in
          e n k within
          ∙ ap (λ xs. get_or xs k (Num (pos 0))) grown ∙ get_or_append_left (h n) more (Num (pos 0)) k below
      | inr other ↦
          let within : k < length (g n) = omega (arith, ap length (there n other)) in
          e n k within ∙ ap (λ xs. get_or xs k (Num (pos 0))) (there n other)
    ]

-- ---- one event

module _ (program : ProgramCode) (inputs : List (List ℤ)) (done rest : List Comm) (cells : List Runner) (streams : List Stream)
    (c : ℕ) (old new : Runner) (was is : Stream) where
  -- the cells, where one of them is replaced
  module _ (m : ℕ) (h : slice_get cells c ≡ Some old) (x : Comm) (owner : IsOwner program.messages x c)
      (on : AreOn program inputs done (x ∷ rest) cells streams) where
    all_on : ((d : ℕ) (r : Runner) → slice_get cells d ≡ Some r → (d ≡ c → ⊥)
        → IsOn program inputs (words_of (set streams m is)) (read_of (set streams m is)) d r)
        → IsOn program inputs (words_of (set streams m is)) (read_of (set streams m is)) c new
        → (d : ℕ) (r : Runner) → slice_get (set cells c new) d ≡ Some r
        → IsOn program inputs (words_of (set streams m is)) (read_of (set streams m is)) d r
    all_on others here d r at =
        elim (cases_eq d c) [
          | inl e ↦
              let same : new ≡ r =
              same_Some new r (sym (at_same cells c new (slice_get_within cells c old h)) ∙ ap (slice_get (set cells c new)) (sym e) ∙ at) in
              subst (λ i. IsOn program inputs (words_of (set streams m is)) (read_of (set streams m is)) i r) (sym e)
              (subst (λ q. IsOn program inputs (words_of (set streams m is)) (read_of (set streams m is)) c q) same here)
          | inr e ↦ others d r (sym (at_other cells c d new e) ∙ at) e
        ]

    all_left : comms (tasks_left new.tasks.items) ≡ filter (is_of (sequences_of program).ends c) rest
        → (d : ℕ) (r : Runner) → slice_get (set cells c new) d ≡ Some r
        → comms (tasks_left r.tasks.items) ≡ filter (is_of (sequences_of program).ends d) rest
    all_left here d r at =
        elim (cases_eq d c) [
          | inl e ↦
              let same : new ≡ r =
              same_Some new r (sym (at_same cells c new (slice_get_within cells c old h)) ∙ ap (slice_get (set cells c new)) (sym e) ∙ at) in
              ap (λ (q : Runner). comms (tasks_left q.tasks.items)) (sym same) ∙ here
              ∙ ap (λ i. filter (is_of (sequences_of program).ends i) rest) (sym e)
          | inr e ↦
              on.left d r (sym (at_other cells c d new e) ∙ at)
              ∙ first_other (is_of (sequences_of program).ends d) x rest (of_other program x c d owner e)
        ]

  -- a word is written
  write_step : (m : ℕ) → slice_get cells c ≡ Some old → slice_get streams m ≡ Some was → IsOwner program.messages (C.Write m) c
      → WritesIt m old new was is → AreOn program inputs done (C.Write m ∷ rest) cells streams
      → AreOn program inputs (done ++ C.Write m ∷ []) rest (set cells c new) (set streams m is)
  write_step m h k owner w on =
      let x = C.Write m in
      let sofar = words_of streams in
      let grown = words_of (set streams m is) in
      let count = read_of (set streams m is) in
      let inside = slice_get_within streams m was k in
      let was_words : sofar m ≡ was.words.items = ap (λ o. option_map_or (λ (s : Stream). s.words.items) o []) k in
      let was_read : read_of streams m ≡ was.read = ap (λ o. option_map_or (λ (s : Stream). s.read) o 0) k in
      let here : grown m ≡ sofar m ++ w.word ∷ [] =
      words_here streams m is inside ∙ w.words ∙ ap (λ xs. xs ++ w.word ∷ []) (sym was_words) in
      let there : (n : ℕ) → (n ≡ m → ⊥) → grown n ≡ sofar n = words_there streams m is in
      let counts : (n : ℕ) → count n ≡ read_of streams n =
      λ n. elim (cases_eq n m) [
        | inl e ↦ ap count e ∙ read_here streams m is inside ∙ w.read ∙ sym was_read ∙ ap (read_of streams) (sym e)
        | inr e ↦ read_there streams m is n e
      ] in
      let before = back sofar grown m (w.word ∷ []) here there in
      record {
        many = length-set cells c new ∙ on.many;
        messages = length-set streams m is ∙ on.messages;
        on = all_on m h x owner on
            (λ d r at other. others_on program inputs sofar grown (read_of streams) count d r before
            (λ n y at from. sym (there n (λ e.
            let same : owner.0 ≡ y = same_Some owner.0 y (sym owner.1 ∙ ap (slice_get program.messages) (sym e) ∙ at) in
            other (sym from ∙ ap (λ (z : Message). z.from) (sym same) ∙ owner.2))))
            (λ n y at to. sym (counts n)) (on.on d r at))
            (writer_on program inputs sofar grown (read_of streams) count c m w.word old new w.goes w.ready before here there counts
            (on.on c old h));
        left = all_left m h x owner on
            (passed old new (Some (E.Writes m w.word)) x (filter (is_of (sequences_of program).ends c) rest) w.goes
            (on.on c old h).alike refl
            (on.left c old h ∙ first_own (is_of (sequences_of program).ends c) x rest (of_owner program x c owner)));
        written = λ n. elim (cases_eq n m) [
          | inl e ↦
              let long : length (grown n) ≡ length (sofar n) + 1 =
              ap (λ i. length (grown i)) e ∙ ap length here ∙ length-append (sofar m) (w.word ∷ [])
              ∙ ap (λ i. length (sofar i) + 1) (sym e) in
              long ∙ ap (λ i. i + 1) (on.written n)
              ∙ sym (occurs_more (C.Write n) done x ∙ ap (λ b. occurrences (C.Write n) done + cond b 1 0) (eq-eqb n m e))
          | inr e ↦
              ap length (there n e) ∙ on.written n
              ∙ sym (occurs_more (C.Write n) done x ∙ ap (λ b. occurrences (C.Write n) done + cond b 1 0) (ne_eqb n m e)
              ∙ add-zero (occurrences (C.Write n) done))
        ];
        read = λ n. counts n ∙ on.read n
            ∙ sym (occurs_more (C.Read n) done x ∙ add-zero (occurrences (C.Read n) done));
      }

  -- a word is read
  read_step : (m : ℕ) → slice_get cells c ≡ Some old → slice_get streams m ≡ Some was → IsOwner program.messages (C.Read m) c
      → was.read < length was.words.items → ReadsIt m old new was is → AreOn program inputs done (C.Read m ∷ rest) cells streams
      → AreOn program inputs (done ++ C.Read m ∷ []) rest (set cells c new) (set streams m is)
  read_step m h k owner some w on =
      let x = C.Read m in
      let sofar = words_of streams in
      let grown = words_of (set streams m is) in
      let count = read_of (set streams m is) in
      let inside = slice_get_within streams m was k in
      let was_words : sofar m ≡ was.words.items = ap (λ o. option_map_or (λ (s : Stream). s.words.items) o []) k in
      let was_read : read_of streams m ≡ was.read = ap (λ o. option_map_or (λ (s : Stream). s.read) o 0) k in
      let here : grown m ≡ sofar m = words_here streams m is inside ∙ w.words ∙ sym was_words in
      let same : (n : ℕ) → grown n ≡ sofar n =
      λ n. elim (cases_eq n m) [
        | inl e ↦ ap grown e ∙ here ∙ ap sofar (sym e)
        | inr e ↦ words_there streams m is n e
      ] in
      let one : count m ≡ read_of streams m + 1 =
      read_here streams m is inside ∙ w.read ∙ ap (λ i. i + 1) (sym was_read) in
      let before = back sofar grown m [] (here ∙ sym (append-nil (sofar m))) (λ n e. same n) in
      let word : word_at sofar m (read_of streams m) ≡ get_or was.words.items was.read (Num (pos 0)) =
      ap (λ xs. get_or xs (read_of streams m) (Num (pos 0))) was_words
      ∙ ap (λ i. get_or was.words.items i (Num (pos 0))) was_read in
      record {
        many = length-set cells c new ∙ on.many;
        messages = length-set streams m is ∙ on.messages;
        on = all_on m h x owner on
            (λ d r at other. others_on program inputs sofar grown (read_of streams) count d r before
            (λ n y at from. sym (same n))
            (λ n y at to. sym (read_there streams m is n (λ e.
            let one : owner.0 ≡ y = same_Some owner.0 y (sym owner.1 ∙ ap (slice_get program.messages) (sym e) ∙ at) in
            other (sym to ∙ ap (λ (z : Message). z.to) (sym one) ∙ owner.2)))) (on.on d r at))
            (reader_on program inputs sofar grown (read_of streams) count c m owner.0 w.variable
            (get_or was.words.items was.read (Num (pos 0))) old w.stop new owner.1 owner.2 w.goes w.ready w.cell w.input w.tasks
            w.held (sym word) (omega (arith, some, was_read, ap length was_words)) same one (read_there streams m is) before
            (on.on c old h));
        left = all_left m h x owner on
            (ap (λ ts. comms (tasks_left ts)) w.tasks
            ∙ passed old w.stop (Some (E.Reads m w.variable)) x (filter (is_of (sequences_of program).ends c) rest) w.goes
            (on.on c old h).alike refl
            (on.left c old h ∙ first_own (is_of (sequences_of program).ends c) x rest (of_owner program x c owner)));
        written = λ n. ap length (same n) ∙ on.written n
            ∙ sym (occurs_more (C.Write n) done x ∙ add-zero (occurrences (C.Write n) done));
        read = λ n. elim (cases_eq n m) [
          | inl e ↦
              ap count e ∙ one ∙ ap (λ i. read_of streams i + 1) (sym e) ∙ ap (λ i. i + 1) (on.read n)
              ∙ sym (occurs_more (C.Read n) done x ∙ ap (λ b. occurrences (C.Read n) done + cond b 1 0) (eq-eqb n m e))
          | inr e ↦
              read_there streams m is n e ∙ on.read n
              ∙ sym (occurs_more (C.Read n) done x ∙ ap (λ b. occurrences (C.Read n) done + cond b 1 0) (ne_eqb n m e)
              ∙ add-zero (occurrences (C.Read n) done))
        ];
      }

-- by an event its cell and its message change, and all cells are on their way
pub step_on : (program : ProgramCode) (inputs : List (List ℤ)) (done rest : List Comm) (cells : List Runner) (streams : List Stream)
    (c : ℕ) (old new : Runner) (was is : Stream) (x : Comm)
    → slice_get cells c ≡ Some old → slice_get streams (message_of x) ≡ Some was → IsOwner program.messages x c
    → HasWord was x → Exchanged x old new was is → AreOn program inputs done (x ∷ rest) cells streams
    → AreOn program inputs (done ++ x ∷ []) rest (set cells c new) (set streams (message_of x) is)
step_on program inputs done rest cells streams c old new was is (C.Write m) h k owner some w on =
    write_step program inputs done rest cells streams c old new was is m h k owner w on
step_on program inputs done rest cells streams c old new was is (C.Read m) h k owner some w on =
    read_step program inputs done rest cells streams c old new was is m h k owner (omega (arith, was.words.ok, some)) w on
