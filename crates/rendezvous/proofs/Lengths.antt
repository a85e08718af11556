-- Each message of a program is as long as an order of the program's lists writes it.
use Rattle.std.proofs.Common.{◌≡◌, ℕ, zero, suc, ◌+◌, ◌<◌, ◌≤◌, Bool, true, false, cond, nat_eq, zero-add, List, [], ◌∷◌, None, Some, filter, map, option_map, length, get_or, slice_get, sum_by, count_by, IsSomeAnd, All, refl, sym, ap, subst, ◌∙◌, inl, inr, arith}
use Rattle.std.proofs.lemmas.Bool.{cases_Bool, cases_eq, cases_lt, eq-eqb, eqb-true, ne_eqb}
use Rattle.std.proofs.lemmas.List.Elements.{All-head, All-tail}
use Rattle.std.proofs.lemmas.List.FromFn.{get_or-map-range_with_len, length-map-range_with_len}
use Rattle.std.proofs.lemmas.List.Sums.{sum_by-cons}
use Rattle.std.proofs.lemmas.Option.{get_or_from_slice_get, slice_get-map, slice_get_past}
use Rattle.std.specs.List.{range_with_len}
use Rattle.std.specs.Option.{option_map_or}
use Rattle.sys_base.specs.Communications.{Communication, Writes, Reads, Takes, Emits, times}
use Rattle.sys_base.specs.declared.limits.TheConstants.{STEPS}
use Rattle.cell_types.specs.Code.{CellCode, ProgramCode}
use Rattle.cell_types.specs.Communications.{block_communications, communications, length_of}
use Rattle.cell_types.specs.Cost.{cells_cost}
use Rattle.cell_types.specs.Groups.{below, lengths_of}
use Rattle.cell_types.specs.Sound.{IsSound, IsSoundMessage}
use Rattle.cell_types.specs.declared.program.Message.{Message}
use Rattle.comm_sequence.specs.BufferedOrder.{IsBufferedOrder, is_of, occurrences, same}
use Rattle.comm_sequence.specs.Sequences.{IsAtItsEnd, IsSequences, comms, sequences_of, writes}
use Rattle.comm_sequence.specs.declared.comm.Comm.{Comm}
use Rattle.comm_sequence.specs.declared.comm.Comm.TheVariants as C

-- what is known of the sequences of programs
abbrev pub ProgramsHaveSequences : Type 0
ProgramsHaveSequences =
    (program : ProgramCode) → IsSound program → cells_cost program ≤ STEPS → IsSequences (sequences_of program)

-- ---- sums

-- a sum over a list that is made of another one
pub sum_made : {A B : Type 0} (f : B → ℕ) (h : A → B) (xs : List A) → sum_by f (map h xs) ≡ sum_by (λ x. f (h x)) xs
sum_made f h [] = refl
sum_made f h (x ∷ xs) =
    omega (arith, sum_by-cons f (h x) (map h xs), sum_by-cons (λ y. f (h y)) x xs, sum_made f h xs)

-- a sum over numbers, of which none counts
sum_none : (f : ℕ → ℕ) (a n : ℕ) → ((k : ℕ) → a ≤ k → f k ≡ 0) → sum_by f (range_with_len a n) ≡ 0
sum_none f a zero h = refl
sum_none f a (suc n) h =
    let rest = sum_none f (a + 1) n (λ k low. h k (omega arith)) in
    let here = h a (omega arith) in
    omega (arith, sum_by-cons f a (range_with_len (a + 1) n), rest, here)

-- a sum over numbers, of which just one counts
pub sum_one : (f : ℕ → ℕ) (a n x : ℕ) → a ≤ x → x < a + n → ((k : ℕ) → (k ≡ x → ⊥) → f k ≡ 0)
    → sum_by f (range_with_len a n) ≡ f x
sum_one f a zero x low high h = absurd (omega arith)
sum_one f a (suc n) x low high h =
    elim (cases_eq a x) [
      | inl e ↦
          let rest = sum_none f (a + 1) n (λ k from. h k (λ same. omega arith)) in
          let here : f a ≡ f x = ap f e in
          omega (arith, sum_by-cons f a (range_with_len (a + 1) n), rest, here)
      | inr e ↦
          let more : x ≡ a → ⊥ = λ same. e (sym same) in
          let from : a + 1 ≤ x = omega (arith, low, more) in
          let rest = sum_one f (a + 1) n x from (omega (arith, high)) h in
          let here = h a e in
          omega (arith, sum_by-cons f a (range_with_len (a + 1) n), rest, here)
    ]

-- the writes of a message among communications are those among their writes and reads
pub counted_comms : (m : ℕ) (xs : List Communication) → times (Writes m) xs ≡ count_by (writes m) (comms xs)
counted_comms m [] = refl
counted_comms m (Writes n ∷ xs) =
    sum_by-cons _ (Writes n) xs ∙ ap (λ k. cond (nat_eq m n) 1 0 + k) (counted_comms m xs)
    ∙ sym (sum_by-cons _ (C.Write n) (comms xs))
counted_comms m (Reads n ∷ xs) =
    sum_by-cons _ (Reads n) xs ∙ ap (λ k. 0 + k) (counted_comms m xs) ∙ sym (sum_by-cons _ (C.Read n) (comms xs))
counted_comms m (Takes ∷ xs) = sum_by-cons _ Takes xs ∙ zero-add (times (Writes m) xs) ∙ counted_comms m xs
counted_comms m (Emits ∷ xs) = sum_by-cons _ Emits xs ∙ zero-add (times (Writes m) xs) ∙ counted_comms m xs

-- a cell that isn't the sender of a message doesn't write it
not_written : (ends : List (ℕ × ℕ)) (cell m : ℕ) (e : ℕ × ℕ) → slice_get ends m ≡ Some e → (cell ≡ e.0 → ⊥)
    → (xs : List Comm) → All (IsAtItsEnd ends cell) xs → count_by (writes m) xs ≡ 0
not_written ends cell m e at other [] all = refl
not_written ends cell m e at other (C.Read n ∷ xs) all =
    let rest = not_written ends cell m e at other xs (All-tail (IsAtItsEnd ends cell) (C.Read n) xs all) in
    sum_by-cons (λ c. cond (writes m c) 1 0) (C.Read n) xs ∙ zero-add (count_by (writes m) xs) ∙ rest
not_written ends cell m e at other (C.Write n ∷ xs) all =
    let rest = not_written ends cell m e at other xs (All-tail (IsAtItsEnd ends cell) (C.Write n) xs all) in
    let mine = All-head (IsAtItsEnd ends cell) (C.Write n) xs all in
    let no : m ≡ n → ⊥ =
    λ same. other (sym (subst (λ o. IsSomeAnd o (λ (p : ℕ × ℕ). p.0 ≡ cell)) (ap (slice_get ends) (sym same) ∙ at) mine)) in
    sum_by-cons (λ c. cond (writes m c) 1 0) (C.Write n) xs
    ∙ ap (λ b. cond b 1 0 + count_by (writes m) xs) (ne_eqb m n no) ∙ zero-add (count_by (writes m) xs) ∙ rest

-- ---- the lists of a program

module _ (program : ProgramCode) where
  abbrev pub list_of : ℕ → List Comm
  list_of cell = comms (communications program cell)

  abbrev pub lists : List (List Comm)
  lists = map list_of (below (length program.cells))

  pub many_lists : length lists ≡ length program.cells
  many_lists = length-map-range_with_len list_of 0 (length program.cells)

  pub list_at : (cell : ℕ) → cell < length program.cells → get_or lists cell [] ≡ list_of cell
  list_at cell h = get_or-map-range_with_len list_of 0 (length program.cells) cell cell [] h (omega arith)

-- ---- the lengths of messages

module _ (program : ProgramCode) (sound : IsSound program) (within : cells_cost program ≤ STEPS)
    (sequences : ProgramsHaveSequences) where
  module _ (m : ℕ) (x : Message) (is : slice_get program.messages m ≡ Some x) (inside : m < length program.messages) where
    pub end_is : slice_get (sequences_of program).ends m ≡ Some (x.from, x.to)
    end_is = slice_get-map (λ (y : Message). (y.from, y.to)) program.messages m ∙ ap (option_map (λ (y : Message). (y.from, y.to))) is

    pub sound_message : IsSoundMessage program.grid x
    sound_message =
        subst (IsSoundMessage program.grid) (get_or_from_slice_get program.messages m x x is) (sound.messages m x inside)

    only_sender : (cell : ℕ) → (cell ≡ x.from → ⊥) → count_by (writes m) (list_of program cell) ≡ 0
    only_sender cell other =
        elim (cases_lt cell (length program.cells)) [
          | inl h ↦
              let owned = (sequences program sound within).owned cell (omega (arith, h, many_lists program)) in
              not_written (sequences_of program).ends cell m (x.from, x.to) end_is other (list_of program cell)
              (subst (All (IsAtItsEnd (sequences_of program).ends cell)) (list_at program cell h) owned)
          | inr h ↦
              let none : slice_get program.cells cell ≡ None = slice_get_past program.cells cell h in
              ap (λ o. count_by (writes m) (comms (option_map_or (λ (c : CellCode). block_communications c.body) o []))) none
        ]

    pub long_is : length_of program m ≡ times (Writes m) (communications program x.from)
    long_is =
        let n = length program.messages in
        let at : get_or (lengths_of program) m 0 ≡ length_of program m =
        get_or-map-range_with_len (length_of program) 0 n m m 0 inside (omega arith) in
        let many : length (lengths_of program) ≡ n = length-map-range_with_len (length_of program) 0 n in
        let counted : get_or (lengths_of program) m 0 ≡ sum_by (count_by (writes m)) (lists program) =
        (sequences program sound within).counted m (omega (arith, many, inside)) in
        let sender : x.from < length program.cells =
        omega (arith, sound.all, sound_message.sender) in
        sym at ∙ counted ∙ sum_made (count_by (writes m)) (list_of program) (below (length program.cells))
        ∙ sum_one (λ c. count_by (writes m) (list_of program c)) 0 (length program.cells) x.from (omega arith) (omega (arith, sender)) only_sender
        ∙ sym (counted_comms m (communications program x.from))

-- ---- orders

-- what passes a test wherever it counts, counts as often among what passes
pub count_filter : {A : Type 0} (p q : A → Bool) → ((x : A) → q x ≡ true → p x ≡ true) → (xs : List A)
    → count_by q (filter p xs) ≡ count_by q xs
count_filter p q h [] = refl
count_filter p q h (x ∷ xs) =
    let rest = count_filter p q h xs in
    let all = sum_by-cons (λ y. cond (q y) 1 0) x xs in
    elim (cases_Bool (p x)) [
      | inl holds ↦
          ap (λ b. count_by q (cond b (x ∷ filter p xs) (filter p xs))) holds
          ∙ sum_by-cons (λ y. cond (q y) 1 0) x (filter p xs) ∙ ap (λ n. cond (q x) 1 0 + n) rest ∙ sym all
      | inr fails ↦
          ap (λ b. count_by q (cond b (x ∷ filter p xs) (filter p xs))) fails ∙ rest
          ∙ sym (all ∙ elim (cases_Bool (q x)) [
            | inl counts ↦ absurd (cc (fails, h x counts))
            | inr none ↦ ap (λ b. cond b 1 0 + count_by q xs) none ∙ zero-add (count_by q xs)
          ])
    ]

pub write_same : (m : ℕ) (e : Comm) → writes m e ≡ same (C.Write m) e
write_same m (C.Write n) = refl
write_same m (C.Read n) = refl

pub counted_same : (m : ℕ) (xs : List Comm) → count_by (writes m) xs ≡ occurrences (C.Write m) xs
counted_same m [] = refl
counted_same m (x ∷ xs) =
    sum_by-cons (λ y. cond (writes m y) 1 0) x xs
    ∙ ap (λ b. cond b 1 0 + count_by (writes m) xs) (write_same m x)
    ∙ ap (λ n. cond (same (C.Write m) x) 1 0 + n) (counted_same m xs)
    ∙ sym (sum_by-cons (λ y. cond (same (C.Write m) y) 1 0) x xs)

-- the writes of a message are its sender's
pub of_sender : (ends : List (ℕ × ℕ)) (m : ℕ) (e : ℕ × ℕ) → slice_get ends m ≡ Some e → (x : Comm) → writes m x ≡ true
    → is_of ends e.0 x ≡ true
of_sender ends m e at (C.Write n) h =
    let is : m ≡ n = eqb-true m n h in
    ap (λ o. option_map_or (λ (p : ℕ × ℕ). nat_eq p.0 e.0) o false) (ap (slice_get ends) (sym is) ∙ at)
    ∙ eq-eqb e.0 e.0 refl
of_sender ends m e at (C.Read n) h = absurd (cc h)

-- so an order writes each message as often as it is long
pub order_long : (program : ProgramCode) → IsSound program → cells_cost program ≤ STEPS → ProgramsHaveSequences
    → (buffer : ℕ) (order : List Comm)
    → IsBufferedOrder (sequences_of program).lists (sequences_of program).ends buffer order
    → (m : ℕ) (x : Message) → slice_get program.messages m ≡ Some x → m < length program.messages
    → occurrences (C.Write m) order ≡ length_of program m
order_long program sound within sequences buffer order ordered m x is inside =
    let ends = (sequences_of program).ends in
    let at = end_is program sound within sequences m x is inside in
    let sender : x.from < length program.cells =
    omega (arith, sound.all, (sound_message program sound within sequences m x is inside).sender) in
    let own : filter (is_of ends x.from) order ≡ list_of program x.from =
    ordered.each x.from (omega (arith, many_lists program, sender)) ∙ list_at program x.from sender in
    sym (counted_same m order)
    ∙ sym (count_filter (is_of ends x.from) (writes m) (of_sender ends m (x.from, x.to) at) order)
    ∙ ap (count_by (writes m)) own
    ∙ sym (counted_comms m (communications program x.from))
    ∙ sym (long_is program sound within sequences m x is inside)
