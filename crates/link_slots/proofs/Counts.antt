-- The counts of held slots and of words.
use Rattle.std.proofs.Common.{◌≡◌, ℕ, suc, ◌+◌, ◌-◌, ◌*◌, ◌<◌, ◌≤◌, ◌⊎◌, Bool, true, false, cond, not, nat_lt, List, [], ◌∷◌, ◌++◌, All, Option, Some, None, is_some, is_none, length, get_or, position, set, replicate, refl, ap, subst, ◌∙◌, arith, inl, inr, length-append, length-drop, length-set, ltb-true}
use Rattle.std.proofs.lemmas.Option.{cond_some}
use Rattle.circular_buffer.specs.Buffer.{Buffer, buffer, keep_last}
use Rattle.sys_base.specs.declared.word.Word.{Word}
use Rattle.std.proofs.lemmas.List.{get_or_default, length-replicate}
use Rattle.std.proofs.lemmas.List.Elements.{All-set, All-replicate, All-get_or}
use Rattle.std.proofs.lemmas.List.Folds.{sum_by-replicate}
use Rattle.std.proofs.lemmas.List.Sums.{sum_by-cons, sum_by-le, sum_by-set}
use Rattle.link_slots.specs.Slots.{empty_slot, held_count, holder_at, lowest_free, slot_at, words_at, HasRoom, IsCounted}
use Rattle.link_slots.specs.declared.slot.Slot.{Slot}

-- a slot has a holder or not
none_or_held : (o : Option ℕ) → ((o ≡ None) × ((is_none o ≡ true) × (is_some o ≡ false)))
    ⊎ ((is_none o ≡ false) × (is_some o ≡ true))
none_or_held None = inl (refl, (refl, refl))
none_or_held (Some x) = inr (refl, refl)

first_is : (s : Slot) (ss : List Slot) (b : Bool) → is_none s.holder ≡ b
    → lowest_free (s ∷ ss) ≡ cond (not b) (1 + lowest_free ss) 0
first_is s ss b e = ap (λ x. cond {A = ℕ} (not x) (1 + lowest_free ss) 0) e

-- where fewer slots are held than there are, one is free
pub some_free : (slots : List Slot) → held_count slots < length slots → lowest_free slots < length slots
some_free [] h = absurd (omega arith)
some_free (s ∷ ss) h =
    let held : held_count (s ∷ ss) ≡ cond (is_some s.holder) 1 0 + held_count ss =
    sum_by-cons (λ (x : Slot). cond {A = ℕ} (is_some x.holder) 1 0) s ss
    in
    elim (none_or_held s.holder) [
      | inl t ↦ let first : lowest_free (s ∷ ss) ≡ 0 = first_is s ss true t.1.0 in omega (arith, first)
      | inr t ↦
          let first : lowest_free (s ∷ ss) ≡ 1 + lowest_free ss = first_is s ss false t.0 in
          let one_held : cond {A = ℕ} (is_some s.holder) 1 0 ≡ 1 = ap (λ b. cond {A = ℕ} b 1 0) t.1 in
          let rest : held_count ss < length ss = omega (arith, held, one_held, h) in
          omega (arith, first, some_free ss rest)
    ]

-- the lowest free slot is free
pub free_there : (slots : List Slot) → lowest_free slots < length slots → holder_at slots (lowest_free slots) ≡ None
free_there [] h = absurd (omega arith)
free_there (s ∷ ss) h =
    elim (none_or_held s.holder) [
      | inl t ↦
          let first : lowest_free (s ∷ ss) ≡ 0 = first_is s ss true t.1.0 in
          ap (holder_at (s ∷ ss)) first ∙ t.0
      | inr t ↦
          let first : lowest_free (s ∷ ss) ≡ 1 + lowest_free ss = first_is s ss false t.0 in
          let next : lowest_free (s ∷ ss) ≡ suc (lowest_free ss) = omega (arith, first) in
          ap (holder_at (s ∷ ss)) next ∙ free_there ss (omega (arith, first, h))
    ]

module _ (slots : List Slot) (at held sum : ℕ) (new : Slot) where
  -- another slot in place of one
  pub set_counted : (more : ℕ) (total : ℕ) → IsCounted slots held sum → at < length slots
      → new.words.capacity ≡ (slot_at slots at).words.capacity → length new.words.items ≤ new.words.capacity
      → more + cond {A = ℕ} (is_some (holder_at slots at)) 1 0 ≡ held + cond {A = ℕ} (is_some new.holder) 1 0
      → total + length (words_at slots at) ≡ sum + length new.words.items
      → IsCounted (set slots at new) more total
  set_counted more total k inside capacity roomy holders words =
      let old = empty_slot 0 in
      let short : new.words.capacity ≤ 255 =
      omega (arith, capacity, All-get_or (λ (s : Slot). s.words.capacity ≤ 255) slots at old inside k.kept.short)
      in
      record {
        kept = record {
          few = omega (arith, length-set slots at new, k.kept.few);
          short = All-set (λ (s : Slot). s.words.capacity ≤ 255) slots at new short k.kept.short;
          roomy = All-set (λ (s : Slot). length s.words.items ≤ s.words.capacity) slots at new roomy k.kept.roomy;
        };
        held = omega (
          arith,
          k.held,
          holders,
          sum_by-set (λ (s : Slot). cond {A = ℕ} (is_some s.holder) 1 0) slots at new old inside,
        );
        words = omega (arith, k.words, words, sum_by-set (λ (s : Slot). length s.words.items) slots at new old inside);
      }

-- the words of all slots are few
pub few_words : (slots : List Slot) (held sum : ℕ) → IsCounted slots held sum → sum ≤ 255 * 255
few_words slots held sum k =
    let each : All (λ (s : Slot). length s.words.items ≤ 255) slots =
    λ i d l. omega (arith, k.kept.roomy i d l, k.kept.short i d l)
    in
    omega (arith, k.words, k.kept.few, sum_by-le (λ (s : Slot). length s.words.items) 255 slots each)

-- slots that are all free have no words
pub none_held : (count capacity : ℕ) → count ≤ 255 → capacity ≤ 255 → IsCounted (replicate count (empty_slot capacity)) 0 0
none_held count capacity few short =
    let slot = empty_slot capacity in
    record {
      kept = record {
        few = omega (arith, length-replicate count slot, few);
        short = All-replicate (λ (s : Slot). s.words.capacity ≤ 255) count slot short;
        roomy = All-replicate (λ (s : Slot). length s.words.items ≤ s.words.capacity) count slot (omega arith);
      };
      held = omega (arith, sum_by-replicate (λ (s : Slot). cond {A = ℕ} (is_some s.holder) 1 0) count slot);
      words = omega (arith, sum_by-replicate (λ (s : Slot). length s.words.items) count slot);
    }

-- the slot that a reference was made to
module _ (slots : List Slot) (at : ℕ) (old : Slot) (inside : at < length slots) (is : old ≡ get_or slots at old) where
  pub slot_is : old ≡ slot_at slots at
  slot_is = is ∙ get_or_default slots at old (empty_slot 0) inside

  -- a word comes to a slot that is not full
  pub push_counted : (held sum : ℕ) (words : Buffer Word) (word : Word) → IsCounted slots held sum → HasRoom slots at
      → words ≡ buffer (keep_last old.words.capacity (old.words.items ++ word ∷ [])) old.words.capacity
      → IsCounted (set slots at (record { holder = old.holder; words = words })) held (sum + 1)
  push_counted held sum words word k room new =
      let now : old ≡ slot_at slots at = slot_is in
      let items : length old.words.items ≡ length (words_at slots at) = ap (λ (s : Slot). length s.words.items) now in
      let capacity : old.words.capacity ≡ (slot_at slots at).words.capacity = ap (λ (s : Slot). s.words.capacity) now in
      let holder : old.holder ≡ holder_at slots at = ap (λ (s : Slot). s.holder) now in
      let one_more : length words.items ≡ 1 + length (words_at slots at) =
      omega (
        arith,
        ap (λ (b : Buffer Word). length b.items) new,
        length-drop (length (old.words.items ++ word ∷ []) - old.words.capacity) (old.words.items ++ word ∷ []),
        length-append old.words.items (word ∷ []),
        items,
        capacity,
        room.1,
      )
      in
      let same : words.capacity ≡ (slot_at slots at).words.capacity =
      ap (λ (b : Buffer Word). b.capacity) new ∙ capacity
      in
      set_counted slots at held sum (record { holder = old.holder; words = words }) held (sum + 1) k inside same
      (omega (arith, one_more, same, room.1))
      (omega (arith, ap (λ o. cond {A = ℕ} (is_some o) 1 0) holder))
      (omega (arith, one_more))

  -- a message takes a free slot
  pub take_counted : (held sum message : ℕ) → IsCounted slots held sum → holder_at slots at ≡ None
      → IsCounted (set slots at (record { holder = Some message; words = old.words })) (held + 1) sum
  take_counted held sum message k free =
      let now : old ≡ slot_at slots at = slot_is in
      let items : length old.words.items ≡ length (words_at slots at) = ap (λ (s : Slot). length s.words.items) now in
      let capacity : old.words.capacity ≡ (slot_at slots at).words.capacity = ap (λ (s : Slot). s.words.capacity) now in
      let roomy : length (words_at slots at) ≤ (slot_at slots at).words.capacity =
      All-get_or (λ (s : Slot). length s.words.items ≤ s.words.capacity) slots at (empty_slot 0) inside k.kept.roomy
      in
      set_counted slots at held sum (record { holder = Some message; words = old.words }) (held + 1) sum k inside capacity
      (omega (arith, items, capacity, roomy))
      (omega (arith, ap (λ o. cond {A = ℕ} (is_some o) 1 0) free))
      (omega (arith, items))

-- the first free slot, where some are free
pub first_there : (slots : List Slot) (at : ℕ) → position (λ (s : Slot). is_none s.holder) slots ≡ Some at
    → (at < length slots) × ((at ≡ lowest_free slots) × (holder_at slots at ≡ None))
first_there slots at h =
    let c = cond_some (nat_lt (lowest_free slots) (length slots)) _ _ h in
    let inside : lowest_free slots < length slots = ltb-true _ _ c.0 in
    subst (λ n. (n < length slots) × ((n ≡ lowest_free slots) × (holder_at slots n ≡ None))) c.1
    (inside, (refl, free_there slots inside))
