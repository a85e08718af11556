-- One turn of the loop over the events of an order.
use Rattle.std.proofs.Common.{◌≡◌, ℕ, ◌+◌, ◌<◌, cond, nat_eq, ℤ, List, [], ◌∷◌, ◌++◌, Some, drop, filter, get_or, length, set, slice_get, take, refl, sym, ap, subst, ◌∙◌, arith}
use Rattle.std.proofs.lemmas.Bool.{eq-eqb}
use Rattle.std.proofs.lemmas.List.{drop_more, take_more}
use Rattle.std.proofs.lemmas.Option.{get_or_from_slice_get, slice_get_read, slice_get_within}
use Rattle.std.specs.Option.{option_map_or}
use Rattle.cell_types.specs.Code.{ProgramCode}
use Rattle.cell_types.specs.Sound.{IsSound, IsSoundMessage}
use Rattle.cell_types.specs.declared.program.Message.{Message}
use Rattle.comm_sequence.specs.BufferedOrder.{IsBufferedOrder, is_of, occurrences}
use Rattle.comm_sequence.specs.Sequences.{message_of, sequences_of}
use Rattle.comm_sequence.specs.declared.comm.Comm.{Comm}
use Rattle.comm_sequence.specs.declared.comm.Comm.TheVariants as C
use Rattle.rendezvous.specs.bodies.UnderWay.{AreOn, DoesNext, Exchanged, HasWord, IsOwner}
use Rattle.rendezvous.specs.declared.array.Stream.{Stream}
use Rattle.rendezvous.specs.declared.runner.Runner.{Runner}
use Rattle.rendezvous.proofs.Along.{step_on}
use Rattle.rendezvous.proofs.Events.{first_own, occurs_more, of_owner}

-- ---- the owner of an event

module _ (program : ProgramCode) (sound : IsSound program) where
  known : (m : ℕ) (x : Message) → slice_get program.messages m ≡ Some x → IsSoundMessage program.grid x
  known m x at =
      subst (IsSoundMessage program.grid) (get_or_from_slice_get program.messages m x x at)
      (sound.messages m x (slice_get_within program.messages m x at))

  -- it is a cell of the program
  owner_inside : (x : Comm) (c : ℕ) → IsOwner program.messages x c → c < length program.cells
  owner_inside (C.Write m) c owner = omega (arith, (known m owner.0 owner.1).sender, owner.2, sound.all)
  owner_inside (C.Read m) c owner = omega (arith, (known m owner.0 owner.1).receiver, owner.2, sound.all)

-- the message of the event is one of the program's
message_inside : (messages : List Message) (x : Comm) (c : ℕ) → IsOwner messages x c → message_of x < length messages
message_inside messages (C.Write m) c owner = slice_get_within messages m owner.0 owner.1
message_inside messages (C.Read m) c owner = slice_get_within messages m owner.0 owner.1

-- ---- the next event

module _ (program : ProgramCode) (inputs : List (List ℤ)) (buffer : ℕ) (order : List Comm) (k : ℕ) (cells : List Runner)
    (streams : List Stream) (sound : IsSound program)
    (ordered : IsBufferedOrder (sequences_of program).lists (sequences_of program).ends buffer order)
    (on : AreOn program inputs (take k order) (drop k order) cells streams) (low : k < length order) where
  module _ (c : ℕ) (owner : IsOwner program.messages (get_or order k (C.Write 0)) c) where
    pub cell_inside : c < length cells
    cell_inside = omega (arith, owner_inside program sound (get_or order k (C.Write 0)) c owner, on.many)

    module _ (m : ℕ) (is_of_it : m ≡ message_of (get_or order k (C.Write 0))) (r : Runner) (was : Stream)
        (here : r ≡ get_or cells c r) (there : was ≡ get_or streams m was) where
      on_here : AreOn program inputs (take k order) (get_or order k (C.Write 0) ∷ drop (k + 1) order) cells streams
      on_here =
          subst (λ xs. AreOn program inputs (take k order) xs cells streams) (drop_more order k (C.Write 0) low) on

      cell_at : slice_get cells c ≡ Some r
      cell_at = slice_get_read cells (length cells) c r refl cell_inside here

      stream_at : slice_get streams (message_of (get_or order k (C.Write 0))) ≡ Some was
      stream_at =
          let inside = message_inside program.messages (get_or order k (C.Write 0)) c owner in
          subst (λ i. slice_get streams i ≡ Some was) is_of_it
          (slice_get_read streams (length streams) m was refl (omega (arith, inside, is_of_it, on.messages)) there)

      -- the cell does it next
      pub next_is : DoesNext r (get_or order k (C.Write 0))
      next_is =
          let x = get_or order k (C.Write 0) in
          let p = is_of (sequences_of program).ends c in
          record {
            ready = (on.on c r cell_at).ready;
            alike = (on.on c r cell_at).alike;
            more = filter p (drop (k + 1) order);
            next = on_here.left c r cell_at ∙ first_own p x (drop (k + 1) order) (of_owner program x c owner);
          }

      -- where it reads, there is a word
      has_word : (x : Comm) → get_or order k (C.Write 0) ≡ x → HasWord was x
      has_word (C.Write n) same = tt
      has_word (C.Read n) same =
          let at : slice_get streams n ≡ Some was = subst (λ y. slice_get streams (message_of y) ≡ Some was) same stream_at in
          let words = ap (λ o. length (option_map_or (λ (s : Stream). s.words.items) o [])) at in
          let reads = ap (λ o. option_map_or (λ (s : Stream). s.read) o 0) at in
          let last : take (k + 1) order ≡ take k order ++ C.Read n ∷ [] =
          take_more order k (C.Write 0) low ∙ ap (λ y. take k order ++ y ∷ []) same in
          let read = ap (occurrences (C.Read n)) last ∙ occurs_more (C.Read n) (take k order) (C.Read n) in
          let written = ap (occurrences (C.Write n)) last ∙ occurs_more (C.Write n) (take k order) (C.Read n) in
          let one : ◌≡◌ {A = ℕ} (cond (nat_eq n n) 1 0) 1 = ap (λ b. cond b 1 0) (eq-eqb n n refl) in
          omega (arith, words, reads, on.written n, on.read n, ordered.prefix (k + 1) n, read, written, one, was.words.ok)

      pub word_is : (e : Comm) → DoesNext r e → HasWord was e
      word_is e next =
          let both : e ∷ next.more ≡ get_or order k (C.Write 0) ∷ next_is.more = sym next.next ∙ next_is.next in
          has_word e cc

      -- and by it all cells are on their way
      pub on_after : (new : Runner) (is : Stream) → Exchanged (get_or order k (C.Write 0)) r new was is
          → AreOn program inputs (take (k + 1) order) (drop (k + 1) order) (set cells c new) (set streams m is)
      on_after new is done =
          let x = get_or order k (C.Write 0) in
          subst (λ i. AreOn program inputs (take (k + 1) order) (drop (k + 1) order) (set cells c new) (set streams i is))
          (sym is_of_it)
          (subst (λ xs. AreOn program inputs xs (drop (k + 1) order) (set cells c new) (set streams (message_of x) is))
          (sym (take_more order k (C.Write 0) low))
          (step_on program inputs (take k order) (drop (k + 1) order) cells streams c r new was is x cell_at stream_at owner
          (has_word x refl) done on_here))
