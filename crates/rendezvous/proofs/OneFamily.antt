-- Just one family of streams agrees, where the lists of a program have an order.
use Rattle.std.proofs.Common.{◌≡◌, ℕ, zero, suc, ◌+◌, ◌<◌, ◌≤◌, ℤ, pos, List, [], ◌∷◌, ◌++◌, Some, length, map, take, drop, get_or, filter, All, slice_get, refl, sym, ap, subst, ◌∙◌, inl, inr, arith}
use Rattle.std.proofs.lemmas.Bool.{cases_lt}
use Rattle.std.proofs.lemmas.List.{ext_get_or, get_or-take, length-map, take-append-drop, take_all}
use Rattle.std.proofs.lemmas.List.Elements.{All-take, filter-append}
use Rattle.std.proofs.lemmas.Option.{slice_get_past, slice_get_within}
use Rattle.std.specs.Option.{option_map_or}
use Rattle.std.specs.Prelude.{slice_index_or}
use Rattle.sys_base.specs.Communications.{Writes, Reads, times}
use Rattle.sys_base.specs.Held.{Streams, word_at}
use Rattle.sys_base.specs.declared.limits.TheConstants.{STEPS}
use Rattle.sys_base.specs.declared.word.Word.{Word}
use Rattle.sys_base.specs.declared.word.Word.TheVariants.{Num}
use Rattle.cell_types.specs.Alike.{Alike}
use Rattle.cell_types.specs.Code.{CellCode, ProgramCode}
use Rattle.cell_types.specs.Communications.{block_communications, communications, length_of}
use Rattle.cell_types.specs.Cost.{cells_cost}
use Rattle.cell_types.specs.Groups.{below}
use Rattle.cell_types.specs.Solo.{emitted, solo, written_to}
use Rattle.cell_types.specs.Sound.{IsSound}
use Rattle.cell_types.specs.declared.program.Message.{Message}
use Rattle.comm_sequence.specs.BufferedOrder.{IsBufferedOrder, is_of, occurrences, same}
use Rattle.comm_sequence.specs.Meaning.{Agree, alone, words_emitted}
use Rattle.comm_sequence.specs.Sequences.{comms, message_of, sequences_of}
use Rattle.comm_sequence.specs.declared.comm.Comm.{Comm}
use Rattle.comm_sequence.specs.declared.comm.Comm.TheVariants as C
use Rattle.rendezvous.specs.OneMeaning.{MeansOneThing, ReadAlike}
use Rattle.rendezvous.proofs.Counted.{words_in}
use Rattle.rendezvous.proofs.Events.{occurs_more}
use Rattle.rendezvous.proofs.Lengths.{ProgramsHaveSequences, count_filter, counted_comms, counted_same, end_is, list_at, list_of, long_is, many_lists, of_sender, order_long, sound_message, write_same}
use Rattle.rendezvous.proofs.Places.{there}
use Rattle.rendezvous.proofs.Prefixes.{count_filter_le, counted_reads, cut_comms, fewer, new_event, occurs_known, same_write}
use Rattle.rendezvous.proofs.Saying.{adds_all, needs_only, same_alone}

-- what is known of the communications of cells alone
abbrev pub AloneCommunicates : Type 0
AloneCommunicates =
    (program : ProgramCode) → Alike program → (cell : ℕ) (input : List ℤ) (streams : Streams)
    → (solo program cell input streams).made ≡ communications program cell

-- the sender of a message by its index
abbrev sender_of : ProgramCode → ℕ → ℕ
sender_of program m = option_map_or (λ (x : Message). x.from) (slice_get program.messages m) 0

sender_is : (program : ProgramCode) (m : ℕ) (x : Message) → slice_get program.messages m ≡ Some x → sender_of program m ≡ x.from
sender_is program m x at = ap (λ o. option_map_or (λ (x : Message). x.from) o 0) at

-- what the senders alone write over some streams
abbrev follow : ProgramCode → List (List ℤ) → Streams → Streams
follow program inputs v m = written_to m (alone program inputs v (sender_of program m))

-- what they write over no words, and over that, and so on
abbrev iterate : ProgramCode → List (List ℤ) → ℕ → Streams
iterate program inputs zero = λ m. []
iterate program inputs (suc k) = follow program inputs (iterate program inputs k)

-- Two families have the same words that are written in the first events of an order.
abbrev UpTo : List Comm → ℕ → Streams → Streams → Type 0
UpTo order k v w = (m i : ℕ) → i < occurrences (C.Write m) (take k order) → word_at v m i ≡ word_at w m i

same_maps : (f g : ℕ → List Word) → ((c : ℕ) → f c ≡ g c) → (xs : List ℕ) → map f xs ≡ map g xs
same_maps f g h [] = refl
same_maps f g h (x ∷ xs) = ap (λ y. y ∷ map f xs) (h x) ∙ ap (λ ys. g x ∷ ys) (same_maps f g h xs)

module _ (program : ProgramCode) (inputs : List (List ℤ)) (sound : IsSound program) (alike : Alike program)
    (within : cells_cost program ≤ STEPS) (sequences : ProgramsHaveSequences) (buffer : ℕ) (order : List Comm)
    (ordered : IsBufferedOrder (sequences_of program).lists (sequences_of program).ends buffer order) where
  many_ends : length (sequences_of program).ends ≡ length program.messages
  many_ends = length-map program.messages (λ (y : Message). (y.from, y.to))

  -- a message that is written in an order is one of the program's
  is_message : (k m : ℕ) → 0 < occurrences (C.Write m) (take k order) → m < length program.messages
  is_message k m h =
      let known = occurs_known (length (sequences_of program).ends) (C.Write m) (take k order)
      (All-take (λ y. message_of y < length (sequences_of program).ends) k order ordered.known) h in
      omega (arith, known, many_ends)

  -- the words of a message whose write is the next event
  next_words : (k : ℕ) (v w : Streams) → UpTo order k v w → (m : ℕ) (x : Message) → slice_get program.messages m ≡ Some x
      → m < length program.messages → take (suc k) order ≡ take k order ++ C.Write m ∷ []
      → (i : ℕ) → i < occurrences (C.Write m) (take (suc k) order)
      → word_at (follow program inputs v) m i ≡ word_at (follow program inputs w) m i
  next_words k v w upto m x at inside last i low =
      let ends = (sequences_of program).ends in
      let c = x.from in
      let p = is_of ends c in
      let own = filter p (take (suc k) order) in
      let rest = filter p (drop (suc k) order) in
      let of_messages : c < length program.cells =
      omega (arith, sound.all, (sound_message program sound within sequences m x at inside).sender) in
      let list : comms (communications program c) ≡ own ++ rest =
      sym (list_at program c of_messages) ∙ sym (ordered.each c (omega (arith, many_lists program, of_messages)))
      ∙ ap (filter p) (sym (take-append-drop (suc k) order)) ∙ filter-append p (take (suc k) order) (drop (suc k) order) in
      let cut = cut_comms (communications program c) own rest list in
      let first = take cut.0 (communications program c) in
      let reads : ReadAlike program c cut.0 v w =
      λ n j small.
      let one : times (Reads n) first ≡ occurrences (C.Read n) own =
      counted_reads n first ∙ ap (occurrences (C.Read n)) cut.1 in
      let two : occurrences (C.Read n) own ≤ occurrences (C.Read n) (take (suc k) order) =
      count_filter_le p (same (C.Read n)) (take (suc k) order) in
      let three : occurrences (C.Read n) (take (suc k) order) ≡ occurrences (C.Read n) (take k order) + 0 =
      ap (occurrences (C.Read n)) last ∙ occurs_more (C.Read n) (take k order) (C.Write m) in
      let four = ordered.prefix k n in
      upto n j (omega (arith, small, one, two, three, four)) in
      let says = needs_only program c (slice_index_or inputs c []) cut.0 v w alike reads in
      let many : times (Writes m) first ≡ occurrences (C.Write m) (take (suc k) order) =
      counted_comms m first ∙ counted_same m (comms first) ∙ ap (occurrences (C.Write m)) cut.1
      ∙ count_filter p (same (C.Write m))
      (λ y h. of_sender ends m (x.from, x.to) (end_is program sound within sequences m x at inside) y (write_same m y ∙ h))
      (take (suc k) order) in
      let low_in : i < times (Writes m) first = omega (arith, low, many) in
      let d = Num (pos 0) in
      let from = sender_is program m x at in
      ap (λ s. get_or (written_to m (alone program inputs v s)) i d) from
      ∙ sym (get_or-take (times (Writes m) first) (written_to m (alone program inputs v c)) i d low_in)
      ∙ ap (λ xs. get_or xs i d) (says.writes m)
      ∙ get_or-take (times (Writes m) first) (written_to m (alone program inputs w c)) i d low_in
      ∙ ap (λ s. get_or (written_to m (alone program inputs w s)) i d) (sym from)

  -- so what the senders write is known one event further
  one_further : (k : ℕ) (v w : Streams) → UpTo order k v w
      → UpTo order k (follow program inputs v) (follow program inputs w)
      → UpTo order (suc k) (follow program inputs v) (follow program inputs w)
  one_further k v w upto before m i low =
      let inside = is_message (suc k) m (omega arith) in
      let x = there program.messages m inside in
      elim (new_event (C.Write m) order k i low)
      as (λ _. word_at (follow program inputs v) m i ≡ word_at (follow program inputs w) m i) [
        | inl h ↦ before m i h
        | inr e ↦
            next_words k v w upto m x.0 x.1 inside (e.1 ∙ ap (λ y. take k order ++ y ∷ []) (same_write m e.0 e.2)) i low
      ]

  further : (k : ℕ) (v w : Streams) → UpTo order k v w → UpTo order (suc k) (follow program inputs v) (follow program inputs w)
  further zero v w upto = one_further 0 v w upto (λ m i low. absurd (omega arith))
  further (suc k) v w upto =
      one_further (suc k) v w upto
      (further k v w (λ m i low. upto m i (omega (arith, low, fewer (C.Write m) order k))))

  -- words that are known to the end of the order are all words
  all_words : (m : ℕ) (x : Message) → slice_get program.messages m ≡ Some x → m < length program.messages → (k : ℕ)
      → length order ≤ k → (v w : Streams) → UpTo order k v w → length (v m) ≡ length_of program m
      → length (w m) ≡ length_of program m → v m ≡ w m
  all_words m x at inside k past v w upto one other =
      let long = order_long program sound within sequences buffer order ordered m x at inside in
      let all = ap (occurrences (C.Write m)) (take_all k order past) in
      ext_get_or (Num (pos 0)) (v m) (w m) (one ∙ sym other) (λ i low. upto m i (omega (arith, low, one, long, all)))

  -- ---- families that agree

  follows : (v : Streams) → Agree program inputs v → (m : ℕ) → m < length program.messages → follow program inputs v m ≡ v m
  follows v agree m inside =
      let x = there program.messages m inside in
      ap (λ c. written_to m (alone program inputs v c)) (sender_is program m x.0 x.1) ∙ agree.written m x.0 x.1

  both_upto : (v w : Streams) → Agree program inputs v → Agree program inputs w → (k : ℕ) → UpTo order k v w
  both_upto v w one other zero m i low = absurd (omega arith)
  both_upto v w one other (suc k) m i low =
      let inside = is_message (suc k) m (omega arith) in
      ap (λ xs. get_or xs i (Num (pos 0))) (sym (follows v one m inside))
      ∙ further k v w (both_upto v w one other k) m i low
      ∙ ap (λ xs. get_or xs i (Num (pos 0))) (follows w other m inside)

  pub both_agree : (v w : Streams) → Agree program inputs v → Agree program inputs w → (m : ℕ) → m < length program.messages
      → v m ≡ w m
  both_agree v w one other m inside =
      let x = there program.messages m inside in
      all_words m x.0 x.1 inside (length order) (omega arith) v w (both_upto v w one other (length order)) (one.lengths m inside)
      (other.lengths m inside)

  -- ---- some family agrees

  grown : (k : ℕ) → UpTo order k (iterate program inputs k) (iterate program inputs (suc k))
  grown zero m i low = absurd (omega arith)
  grown (suc k) m i low = further k (iterate program inputs k) (iterate program inputs (suc k)) (grown k) m i low

  module _ (made : AloneCommunicates) where
    long_follow : (v : Streams) (m : ℕ) (x : Message) → slice_get program.messages m ≡ Some x → m < length program.messages
        → length (follow program inputs v m) ≡ length_of program m
    long_follow v m x at inside =
        let c = x.from in
        let input = slice_index_or inputs c [] in
        let adds = adds_all program c input v in
        ap (λ s. length (written_to m (alone program inputs v s))) (sender_is program m x at)
        ∙ ap (λ xs. length (words_in m xs)) adds.sends ∙ adds.written m
        ∙ ap (times (Writes m)) (sym adds.makes ∙ made program alike c input v)
        ∙ sym (long_is program sound within sequences m x at inside)

    -- the words to the end of the order
    abbrev last : Streams
    last = iterate program inputs (suc (length order))

    last_same : (m : ℕ) (x : Message) → slice_get program.messages m ≡ Some x → m < length program.messages
        → follow program inputs last m ≡ last m
    last_same m x at inside =
        sym (all_words m x at inside (suc (length order)) (omega arith) last (follow program inputs last)
        (grown (suc (length order))) (long_follow (iterate program inputs (length order)) m x at inside)
        (long_follow last m x at inside))

    pub last_agree : Agree program inputs last
    last_agree =
        record {
          lengths = λ m inside.
              let x = there program.messages m inside in
              long_follow (iterate program inputs (length order)) m x.0 x.1 inside;
          written = λ m x at.
              let inside = slice_get_within program.messages m x at in
              ap (λ c. written_to m (alone program inputs last c)) (sym (sender_is program m x at)) ∙ last_same m x at inside;
        }

  -- ---- the words that are emitted

  -- what a cell reads is a message of the program
  reads_known : (cell m : ℕ) → 0 < times (Reads m) (communications program cell) → m < length program.messages
  reads_known cell m some =
      elim (cases_lt cell (length program.cells)) as (λ _. m < length program.messages) [
        | inl h ↦
            let count = length (sequences_of program).ends in
            let all = (sequences program sound within).known cell [] (omega (arith, h, many_lists program)) in
            let known : All (λ y. message_of y < count) (list_of program cell) =
            subst (All (λ y. message_of y < count)) (list_at program cell h) all in
            let here = occurs_known count (C.Read m) (list_of program cell) known
            (omega (arith, some, counted_reads m (communications program cell))) in
            omega (arith, here, many_ends)
        | inr h ↦
            let none : communications program cell ≡ [] =
            ap (λ o. option_map_or (λ (c : CellCode). block_communications c.body) o []) (slice_get_past program.cells cell h) in
            absurd (omega (arith, some, ap (times (Reads m)) none))
      ]

  -- families that agree have the same words emitted
  same_emitted : (v w : Streams) → Agree program inputs v → Agree program inputs w
      → words_emitted program inputs v ≡ words_emitted program inputs w
  same_emitted v w one other =
      same_maps (λ c. emitted (alone program inputs v c)) (λ c. emitted (alone program inputs w c))
      (λ c. ap emitted (same_alone program c (slice_index_or inputs c []) v w alike
      (λ m k low. ap (λ xs. get_or xs k (Num (pos 0)))
      (both_agree v w one other m (reads_known c m (omega arith))))))
      (below (length program.cells))

-- So the program means one thing.
pub means_one_thing : (program : ProgramCode) (buffer : ℕ) (order : List Comm) (inputs : List (List ℤ))
    → AloneCommunicates → ProgramsHaveSequences → IsSound program → Alike program → cells_cost program ≤ STEPS
    → IsBufferedOrder (sequences_of program).lists (sequences_of program).ends buffer order
    → MeansOneThing program inputs
means_one_thing program buffer order inputs made sequences sound alike within ordered =
    let v = last program inputs sound alike within sequences buffer order ordered made in
    let agree = last_agree program inputs sound alike within sequences buffer order ordered made in
    record {
      streams = v;
      agree = agree;
      agreed = both_agree program inputs sound alike within sequences buffer order ordered;
      words = words_emitted program inputs v;
      is = record { streams = v; agree = agree; words = refl };
      only = λ others means.
          means.words
          ∙ same_emitted program inputs sound alike within sequences buffer order ordered means.streams v means.agree agree;
    }
