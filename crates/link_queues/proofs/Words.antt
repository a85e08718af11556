-- How many words the queues of a link have together.
use Rattle.std.proofs.Common.{◌≡◌, ℕ, zero, suc, ◌+◌, ◌<◌, ◌≤◌, cond, ◌&&◌, nat_eq, nat_lt, List, Option, Some, None, length, get_or, map, sum_by, take, refl, sym, ap, subst, ◌∙◌, arith, inl, inr, add-one, map-id, take_all, eq-eqb, eqb-true, lt-ltb, ltb-true}
use Rattle.std.specs.List.{range_with_len}
use Rattle.std.proofs.lemmas.Bool.{and_from, and_parts, both_ways, cases_Bool, cases_lt}
use Rattle.std.proofs.lemmas.List.FromFn.{sum_by-map-range_with_len_more}
use Rattle.std.proofs.lemmas.List.Sums.{sum_by_more}
use Rattle.std.proofs.lemmas.Option.{none-some, same_Some}
use Rattle.sys_base.specs.Groups.{below}
use Rattle.sys_base.specs.declared.word.Word.{Word}
use Rattle.cell_code.specs.Marks.{hop_on, hops, link_at, queue}
use Rattle.link_slots.specs.Slots.{empty_slot, holder_at, word_count, words_at}
use Rattle.link_slots.specs.declared.slot.Slot.{Slot}
use Rattle.array_model.specs.Runs.{words_on}
use Rattle.array_model.specs.States.{ArrayState}
use Rattle.link_queues.specs.Fabrics.{Queues, slice, slice_of, slots_at, words_in}
use Rattle.link_queues.specs.Keeping.{IsKept}
use Rattle.link_queues.specs.Standing.{StandsFor}
use Rattle.link_queues.proofs.Shapes.{same_hop}
use Rattle.link_queues.proofs.Slices.{some_or_none}

-- ---- sums over the numbers below one

abbrev sum_below : (ℕ → ℕ) → ℕ → ℕ
sum_below f zero = 0
sum_below f (suc n) = sum_below f n + f n

sum_same : (f g : ℕ → ℕ) (n : ℕ) → ((i : ℕ) → i < n → f i ≡ g i) → sum_below f n ≡ sum_below g n
sum_same f g zero h = refl
sum_same f g (suc n) h = omega (arith, sum_same f g n (λ i l. h i (omega arith)), h n (omega arith))

sum_zero : (f : ℕ → ℕ) (n : ℕ) → ((i : ℕ) → i < n → f i ≡ 0) → sum_below f n ≡ 0
sum_zero f zero h = refl
sum_zero f (suc n) h = omega (arith, sum_zero f n (λ i l. h i (omega arith)), h n (omega arith))

-- where all but one are 0
sum_sole : (f : ℕ → ℕ) (n i : ℕ) → i < n → ((j : ℕ) → j < n → (j ≡ i → ⊥) → f j ≡ 0) → sum_below f n ≡ f i
sum_sole f zero i l h = absurd (omega arith)
sum_sole f (suc n) i l h =
    elim (cases_lt i n) [
      | inl g ↦
          omega (arith, sum_sole f n i g (λ j k. h j (omega arith)), h n (omega arith) (λ e. omega (arith, e, g)))
      | inr g ↦
          let last : n ≡ i = omega arith in
          omega (arith, sum_zero f n (λ j k. h j (omega arith) (λ e. omega (arith, e, k, g))), ap f last)
    ]

sum_both : (f g : ℕ → ℕ) (n : ℕ) → sum_below (λ i. f i + g i) n ≡ sum_below f n + sum_below g n
sum_both f g zero = refl
sum_both f g (suc n) = omega (arith, sum_both f g n)

-- sums of sums
sum_swap : (f : ℕ → ℕ → ℕ) (n k : ℕ) → sum_below (λ i. sum_below (f i) k) n ≡ sum_below (λ j. sum_below (λ i. f i j) n) k
sum_swap f zero k = sym (sum_zero (λ j. 0) k (λ j l. refl))
sum_swap f (suc n) k =
    omega (arith, sum_swap f n k, sum_both (λ j. sum_below (λ i. f i j) n) (f n) k)

sum_listed : (f : ℕ → ℕ) (n : ℕ) → sum_by f (below n) ≡ sum_below f n
sum_listed f zero = refl
sum_listed f (suc n) =
    ap (sum_by f) (sym (map-id (below (suc n))) ∙ ap (λ k. map (λ x. x) (range_with_len 0 k)) (sym (add-one n)))
    ∙ sum_by-map-range_with_len_more f (λ x. x) 0 n n (omega arith)
    ∙ ap (λ l. sum_by f l + f n) (map-id (below n))
    ∙ ap (λ k. k + f n) (sum_listed f n)

sum_front : (f : Slot → ℕ) (slots : List Slot) (n : ℕ) → n ≤ length slots
    → sum_by f (take n slots) ≡ sum_below (λ i. f (get_or slots i (empty_slot 0))) n
sum_front f slots zero h = refl
sum_front f slots (suc n) h =
    ap (λ k. sum_by f (take k slots)) (sym (add-one n)) ∙ sum_by_more f slots n (empty_slot 0) (omega arith)
    ∙ ap (λ k. k + f (get_or slots n (empty_slot 0))) (sum_front f slots n (omega arith))

sum_all : (slots : List Slot) → word_count slots ≡ sum_below (λ i. length (words_at slots i)) (length slots)
sum_all slots =
    ap (sum_by (λ (s : Slot). length s.words.items)) (sym (take_all (length slots) slots (omega arith)))
    ∙ sum_front (λ (s : Slot). length s.words.items) slots (length slots) (omega arith)

-- ---- the words of a link

-- the words of a slot, if this message holds it
abbrev share : Option ℕ → ℕ → ℕ → ℕ
share None m n = 0
share (Some k) m n = cond (nat_eq m k) n 0

share_none : (o : Option ℕ) (m n : ℕ) → (o ≡ Some m → ⊥) → share o m n ≡ 0
share_none None m n h = refl
share_none (Some k) m n h =
    elim (cases_Bool (nat_eq m k)) [
      | inl t ↦ absurd (h (ap Some (sym (eqb-true m k t))))
      | inr t ↦ ap (λ b. cond {A = ℕ} b n 0) t
    ]

share_mine : (o : Option ℕ) (m n : ℕ) → o ≡ Some m → share o m n ≡ n
share_mine o m n e = ap (λ x. share x m n) e ∙ ap (λ b. cond {A = ℕ} b n 0) (eq-eqb m m refl)

module _ (q : Queues) (kept : IsKept q) (l : ℕ) where
  abbrev slots : List Slot
  slots = q.slots l

  abbrev many : ℕ → ℕ
  many i = length (words_at slots i)

  abbrev at_hop : ℕ → ℕ → ℕ
  at_hop m hop = cond (nat_eq (link_at q.image m hop) l) (length (slice q m hop)) 0

  abbrev at_slot : ℕ → ℕ → ℕ
  at_slot m i = share (holder_at slots i) m (many i)

  -- a hop that is not on the link
  off_link : (m hop : ℕ) → (link_at q.image m hop ≡ l → ⊥) → at_hop m hop ≡ 0
  off_link m hop h =
      elim (cases_Bool (nat_eq (link_at q.image m hop) l)) [
        | inl t ↦ absurd (h (eqb-true _ _ t))
        | inr t ↦ ap (λ b. cond {A = ℕ} b (length (slice q m hop)) 0) t
      ]

  on_link : (m hop : ℕ) → link_at q.image m hop ≡ l → at_hop m hop ≡ length (slice q m hop)
  on_link m hop e = ap (λ b. cond {A = ℕ} b (length (slice q m hop)) 0) (eq-eqb _ _ e)

  -- the words of a message on the link stand in its slot
  of_message : (m : ℕ) → m < length q.image.messages
      → sum_below (at_hop m) (hops q.image m) ≡ sum_below (at_slot m) (length slots)
  of_message m known =
      let hop : ℕ = hop_on q.image l m in
      let same : (j : ℕ) → j < hops q.image m → link_at q.image m j ≡ l → j ≡ hop =
      λ j h e. sym (same_hop q.image kept.shaped m j (known, h)) ∙ ap (λ n. hop_on q.image n m) e
      in
      elim (cases_Bool (nat_lt hop (hops q.image m) && nat_eq (link_at q.image m hop) l)) [
        | inl t ↦
            let parts = and_parts (nat_lt hop (hops q.image m)) (nat_eq (link_at q.image m hop) l) t in
            let inside : hop < hops q.image m = ltb-true _ _ parts.0 in
            let here : link_at q.image m hop ≡ l = eqb-true _ _ parts.1 in
            let left : sum_below (at_hop m) (hops q.image m) ≡ length (slice q m hop) =
            sum_sole (at_hop m) (hops q.image m) hop inside (λ j h n. off_link m j (λ e. n (same j h e)))
            ∙ on_link m hop here
            in
            elim (some_or_none (q.places m hop)) [
              | inl u ↦
                  left ∙ ap (λ o. length (slice_of (slots_at q m hop) o)) u
                  ∙ sym (sum_zero (at_slot m) (length slots) (λ i h.
                  share_none (holder_at slots i) m (many i)
                  (λ e. none-some _ (sym u ∙ (kept.seats.holders l i m e).1.1))))
              | inr u ↦
                  let there = kept.seats.held m hop u.0 (known, inside) u.1 in
                  let holder : holder_at slots u.0 ≡ Some m = ap (λ n. holder_at (q.slots n) u.0) (sym here) ∙ there.1 in
                  let short : u.0 < length slots = subst (λ n. u.0 < length (q.slots n)) here there.0 in
                  left ∙ ap (λ o. length (slice_of (slots_at q m hop) o)) u.1
                  ∙ ap (λ n. length (words_at (q.slots n) u.0)) here
                  ∙ sym (sum_sole (at_slot m) (length slots) u.0 short (λ i h n.
                  share_none (holder_at slots i) m (many i)
                  (λ e. n (sym (same_Some _ _ (sym u.1 ∙ (kept.seats.holders l i m e).1.1)))))
                  ∙ share_mine (holder_at slots u.0) m (many u.0) holder)
            ]
        | inr t ↦
            let off : hop < hops q.image m → link_at q.image m hop ≡ l → ⊥ =
            λ a b. both_ways _ t (and_from _ _ (lt-ltb _ _ a) (eq-eqb _ _ b))
            in
            sum_zero (at_hop m) (hops q.image m) (λ j h.
            off_link m j (λ e.
            let f : j ≡ hop = same j h e in
            off (subst (λ n. n < hops q.image m) f h) (ap (link_at q.image m) (sym f) ∙ e)))
            ∙ sym (sum_zero (at_slot m) (length slots) (λ i h.
            share_none (holder_at slots i) m (many i)
            (λ e. let old = kept.seats.holders l i m e in off old.0.1 old.1.0)))
      ]

  -- each word is in the slot of one message
  of_slot : (i : ℕ) → sum_below (λ m. at_slot m i) (length q.image.messages) ≡ many i
  of_slot i =
      elim (some_or_none (holder_at slots i)) [
        | inl t ↦
            sum_zero (λ m. at_slot m i) (length q.image.messages)
            (λ m h. share_none (holder_at slots i) m (many i) (λ e. none-some _ (sym t ∙ e)))
            ∙ sym (ap length (kept.seats.free l i t))
        | inr t ↦
            sum_sole (λ m. at_slot m i) (length q.image.messages) t.0 (kept.seats.holders l i t.0 t.1).0.0
            (λ m h n. share_none (holder_at slots i) m (many i) (λ e. n (same_Some _ _ (sym e ∙ t.1))))
            ∙ share_mine (holder_at slots i) t.0 (many i) t.1
      ]

  pub words_are : word_count (q.slots l) ≡ words_in q l
  words_are =
      sum_all slots
      ∙ sym (sum_listed (λ m. sum_by (at_hop m) (below (hops q.image m))) (length q.image.messages)
      ∙ sum_same (λ m. sum_by (at_hop m) (below (hops q.image m))) (λ m. sum_below (at_slot m) (length slots))
      (length q.image.messages) (λ m h. sum_listed (at_hop m) (hops q.image m) ∙ of_message m h)
      ∙ sum_swap at_slot (length q.image.messages) (length slots)
      ∙ sum_same (λ i. sum_below (λ m. at_slot m i) (length q.image.messages)) many (length slots) (λ i h. of_slot i))

  -- the same in a state that the queues stand for
  pub words_stand : (s : ArrayState) → StandsFor q s → words_in q l ≡ words_on q.image l s
  words_stand s st =
      let there : ℕ → ℕ → ℕ =
      λ m hop. cond (nat_eq (link_at q.image m hop) l) (length (queue s.history s.marks m hop)) 0
      in
      sum_listed (λ m. sum_by (at_hop m) (below (hops q.image m))) (length q.image.messages)
      ∙ sum_same (λ m. sum_by (at_hop m) (below (hops q.image m))) (λ m. sum_by (there m) (below (hops q.image m)))
      (length q.image.messages) (λ m h.
      sum_listed (at_hop m) (hops q.image m)
      ∙ sum_same (at_hop m) (there m) (hops q.image m)
      (λ hop g. ap (λ (ws : List Word). cond {A = ℕ} (nat_eq (link_at q.image m hop) l) (length ws) 0) (st.slices m hop (h, g)))
      ∙ sym (sum_listed (there m) (hops q.image m)))
      ∙ sym (sum_listed (λ m. sum_by (there m) (below (hops q.image m))) (length q.image.messages))
