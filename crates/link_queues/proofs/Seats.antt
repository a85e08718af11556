-- The slots of the messages after each change.
use Rattle.std.proofs.Common.{◌≡◌, ℕ, zero, suc, ◌+◌, ◌<◌, ◌≤◌, ◌⊎◌, Bool, true, false, cond, ◌&&◌, nat_eq, nat_lt, List, [], ◌∷◌, Some, None, is_some, unwrap_or, length, filter, get_or, set, take, refl, sym, ap, subst, ◌∙◌, arith, inl, inr, length-set, eq-eqb, eqb-true}
use Rattle.std.specs.List.{concat}
use Rattle.std.proofs.lemmas.Bool.{and_from, and_parts, both_ways, cases_Bool, or_cases}
use Rattle.std.proofs.lemmas.List.Sums.{sum_by-set}
use Rattle.std.proofs.lemmas.Option.{none-some, same_Some}
use Rattle.circular_buffer.specs.Buffer.{buffer}
use Rattle.sys_base.specs.Groups.{is_one_of}
use Rattle.sys_base.specs.declared.word.Word.{Word}
use Rattle.cell_code.specs.Images.{IsShaped}
use Rattle.cell_code.specs.Marks.{Marks, groups_of, held, hop_on, hops, is_bound, link_at, live, message_of, place_of}
use Rattle.link_slots.specs.Slots.{empty_slot, freed, held_count, holder_at, slot_at, with_words, words_at}
use Rattle.link_slots.specs.declared.slot.Slot.{Slot}
use Rattle.array_model.specs.Steps.{put}
use Rattle.link_queues.specs.Fabrics.{Queues, put_at, seat, slots_at}
use Rattle.link_queues.specs.Keeping.{IsHop, Seats}
use Rattle.link_queues.proofs.Groups.{times, times_append, times_cons}
use Rattle.link_queues.proofs.Shapes.{one_group, same_hop}
use Rattle.link_queues.proofs.Views.{got, pushed_in}

abbrev pub one : Bool → ℕ
one b = cond b 1 0

and_none : (b : Bool) → (b && false) ≡ false
and_none true = refl
and_none false = refl

one_and : (b : Bool) → one (b && true) ≡ one b
one_and true = refl
one_and false = refl

none_and : (b : Bool) → one (b && false) ≡ 0
none_and true = refl
none_and false = refl

-- two numbers are two others, or not
pub same_or_other : (l j s i : ℕ) → ((l ≡ j) × ((s ≡ i) × ((nat_eq l j && nat_eq s i) ≡ true)))
    ⊎ (((nat_eq l j && nat_eq s i) ≡ false) × ((l ≡ j) → (s ≡ i) → ⊥))
same_or_other l j s i =
    elim (cases_Bool (nat_eq l j && nat_eq s i)) [
      | inl t ↦ let p = and_parts (nat_eq l j) (nat_eq s i) t in inl (eqb-true l j p.0, (eqb-true s i p.1, t))
      | inr t ↦ inr (t, λ a b. both_ways _ t (and_from _ _ (eq-eqb l j a) (eq-eqb s i b)))
    ]

-- ---- another slot in place of one

module _ (slots : ℕ → List Slot) (l s : ℕ) (new : Slot) (inside : s < length (slots l)) where
  abbrev pub changed : ℕ → List Slot
  changed = put slots l (set (slots l) s new)

  pub slot_after : (j i : ℕ) → slot_at (changed j) i ≡ cond (nat_eq l j && nat_eq s i) new (slot_at (slots j) i)
  slot_after j i =
      elim (cases_Bool (nat_eq l j)) [
        | inl t ↦
            ap (λ b. slot_at (cond b (set (slots l) s new) (slots j)) i) t
            ∙ got (slots l) s i new (empty_slot 0) inside
            ∙ ap (λ k. cond (nat_eq s i) new (slot_at (slots k) i)) (eqb-true l j t)
            ∙ sym (ap (λ b. cond (b && nat_eq s i) new (slot_at (slots j) i)) t)
        | inr t ↦
            ap (λ b. slot_at (cond b (set (slots l) s new) (slots j)) i) t
            ∙ sym (ap (λ b. cond (b && nat_eq s i) new (slot_at (slots j) i)) t)
      ]

  pub as_many : (j : ℕ) → length (changed j) ≡ length (slots j)
  as_many j =
      elim (cases_Bool (nat_eq l j)) [
        | inl t ↦
            ap (λ b. length (cond b (set (slots l) s new) (slots j))) t ∙ length-set (slots l) s new
            ∙ ap (λ k. length (slots k)) (eqb-true l j t)
        | inr t ↦ ap (λ b. length (cond b (set (slots l) s new) (slots j))) t
      ]

  -- a field of a slot after the change
  pub field_after : {Y : Type 0} (f : Slot → Y) (j i : ℕ)
      → f (slot_at (changed j) i) ≡ cond (nat_eq l j && nat_eq s i) (f new) (f (slot_at (slots j) i))
  field_after f j i = ap f (slot_after j i) ∙ pushed_in f (nat_eq l j && nat_eq s i) new (slot_at (slots j) i)

  -- a field that the new slot has in common with the old one
  pub field_kept : {Y : Type 0} (f : Slot → Y) (j i : ℕ) → f new ≡ f (slot_at (slots l) s)
      → f (slot_at (changed j) i) ≡ f (slot_at (slots j) i)
  field_kept f j i e =
      elim (same_or_other l j s i) [
        | inl t ↦
            field_after f j i ∙ ap (λ b. cond b (f new) (f (slot_at (slots j) i))) t.1.1 ∙ e
            ∙ ap (λ k. f (slot_at (slots k) s)) t.0 ∙ ap (λ k. f (slot_at (slots j) k)) t.1.0
        | inr t ↦ field_after f j i ∙ ap (λ b. cond b (f new) (f (slot_at (slots j) i))) t.0
      ]

  pub count_after : (j : ℕ) → held_count (changed j) + one (nat_eq l j && is_some (holder_at (slots l) s))
      ≡ held_count (slots j) + one (nat_eq l j && is_some new.holder)
  count_after j =
      elim (cases_Bool (nat_eq l j)) [
        | inl t ↦
            omega (
              arith,
              ap (λ b. held_count (cond b (set (slots l) s new) (slots j))) t,
              sum_by-set (λ (x : Slot). cond {A = ℕ} (is_some x.holder) 1 0) (slots l) s new (empty_slot 0) inside,
              ap (λ b. one (b && is_some (holder_at (slots l) s))) t,
              ap (λ b. one (b && is_some new.holder)) t,
              ap (λ k. held_count (slots k)) (eqb-true l j t),
            )
        | inr t ↦
            omega (
              arith,
              ap (λ b. held_count (cond b (set (slots l) s new) (slots j))) t,
              ap (λ b. one (b && is_some (holder_at (slots l) s))) t,
              ap (λ b. one (b && is_some new.holder)) t,
            )
      ]

-- ---- other words in a slot that a message holds

module _ (q : Queues) (seats : Seats q) (m hop s : ℕ) (h : IsHop q.image m hop) (is : q.places m hop ≡ Some s) where
  abbrev l : ℕ
  l = link_at q.image m hop

  pub there : (s < length (slots_at q m hop)) × (holder_at (slots_at q m hop) s ≡ Some m)
  there = seats.held m hop s h is

  pub seat_is : seat q m hop ≡ s
  seat_is = ap (λ p. unwrap_or p 0) is

  module _ (words : List Word) where
    abbrev pub reworded : Queues
    reworded = record q { slots = put q.slots l (with_words (q.slots l) s words) }

    abbrev new : Slot
    new = record (slot_at (q.slots l) s) { words = buffer words (slot_at (q.slots l) s).words.capacity }

    pub words_seats : Seats reworded
    words_seats =
        let holder : (j i : ℕ) → holder_at (reworded.slots j) i ≡ holder_at (q.slots j) i =
        λ j i. field_kept q.slots l s new there.0 (λ (x : Slot). x.holder) j i refl
        in
        let many : (j : ℕ) → length (reworded.slots j) ≡ length (q.slots j) = as_many q.slots l s new there.0 in
        record {
          queues = λ j g. many j ∙ seats.queues j g;
          capacities = λ j i g.
              field_kept q.slots l s new there.0 (λ (x : Slot). x.words.capacity) j i refl
              ∙ seats.capacities j i (omega (arith, many j, g));
          holds = seats.holds;
          held = λ k j i g e.
              let old = seats.held k j i g e in
              (omega (arith, old.0, many (link_at q.image k j)), holder (link_at q.image k j) i ∙ old.1);
          holders = λ j i k e. seats.holders j i k (sym (holder j i) ∙ e);
          free = λ j i e.
              let old : holder_at (q.slots j) i ≡ None = sym (holder j i) ∙ e in
              elim (same_or_other l j s i) [
                | inl t ↦
                    let both : holder_at (q.slots l) s ≡ None =
                    ap (λ k. holder_at (q.slots k) s) t.0 ∙ ap (λ k. holder_at (q.slots j) k) t.1.0 ∙ old
                    in
                    absurd (none-some _ (sym both ∙ there.1))
                | inr t ↦
                    field_after q.slots l s new there.0 (λ (x : Slot). x.words.items) j i
                    ∙ ap (λ b. cond b words (words_at (q.slots j) i)) t.0 ∙ seats.free j i old
              ];
          live = λ j. omega (arith, seats.live j, count_after q.slots l s new there.0 j);
        }

-- ---- live messages

-- the same test keeps the same
filter_same : (p r : ℕ → Bool) (xs : List ℕ) → ((x : ℕ) → p x ≡ r x) → length (filter p xs) ≡ length (filter r xs)
filter_same p r [] e = refl
filter_same p r (x ∷ xs) e =
    let ih : length (filter p xs) ≡ length (filter r xs) = filter_same p r xs e in
    elim (cases_Bool (p x)) [
      | inl t ↦
          ap (λ b. length (cond b (x ∷ filter p xs) (filter p xs))) t ∙ ap suc ih
          ∙ sym (ap (λ b. length (cond b (x ∷ filter r xs) (filter r xs))) (sym (e x) ∙ t))
      | inr t ↦
          ap (λ b. length (cond b (x ∷ filter p xs) (filter p xs))) t ∙ ih
          ∙ sym (ap (λ b. length (cond b (x ∷ filter r xs) (filter r xs))) (sym (e x) ∙ t))
    ]

-- a test that one number fails now
filter_less : (m : ℕ) (p r : ℕ → Bool) (xs : List ℕ) → p m ≡ true → r m ≡ false
    → ((x : ℕ) → (m ≡ x → ⊥) → p x ≡ r x) → length (filter r xs) + times m xs ≡ length (filter p xs)
filter_less m p r [] y n e = refl
filter_less m p r (x ∷ xs) y n e =
    let ih : length (filter r xs) + times m xs ≡ length (filter p xs) = filter_less m p r xs y n e in
    elim (cases_Bool (nat_eq m x)) [
      | inl t ↦
          let same : m ≡ x = eqb-true m x t in
          omega (
            arith,
            ih,
            times_cons m x xs,
            ap (λ b. cond {A = ℕ} b 1 0) t,
            ap (λ b. length (cond b (x ∷ filter p xs) (filter p xs))) (sym (ap p same) ∙ y),
            ap (λ b. length (cond b (x ∷ filter r xs) (filter r xs))) (sym (ap r same) ∙ n),
          )
      | inr t ↦
          let apart : m ≡ x → ⊥ = λ f. both_ways _ t (eq-eqb m x f) in
          elim (cases_Bool (p x)) [
            | inl f ↦
                omega (
                  arith,
                  ih,
                  times_cons m x xs,
                  ap (λ b. cond {A = ℕ} b 1 0) t,
                  ap (λ b. length (cond b (x ∷ filter p xs) (filter p xs))) f,
                  ap (λ b. length (cond b (x ∷ filter r xs) (filter r xs))) (sym (e x apart) ∙ f),
                )
            | inr f ↦
                omega (
                  arith,
                  ih,
                  times_cons m x xs,
                  ap (λ b. cond {A = ℕ} b 1 0) t,
                  ap (λ b. length (cond b (x ∷ filter p xs) (filter p xs))) f,
                  ap (λ b. length (cond b (x ∷ filter r xs) (filter r xs))) (sym (e x apart) ∙ f),
                )
          ]
    ]

pub times_some : (m : ℕ) (xs : List ℕ) → is_one_of xs m ≡ true → 1 ≤ times m xs
times_some m [] h = absurd (cc)
times_some m (x ∷ xs) h =
    let ih : is_one_of xs m ≡ true → 1 ≤ times m xs = times_some m xs in
    elim (or_cases (nat_eq m x) (is_one_of xs m) h) [
      | inl e ↦ omega (arith, times_cons m x xs, ap (λ b. cond {A = ℕ} b 1 0) e)
      | inr r ↦ omega (arith, times_cons m x xs, ih r)
    ]

times_first : (m n : ℕ) (gs : List (List ℕ)) → times m (concat (take n gs)) ≤ times m (concat gs)
times_first m zero gs = omega arith
times_first m (suc n) [] = omega arith
times_first m (suc n) (g ∷ gs) =
    omega (arith, times_first m n gs, times_append m g (concat (take n gs)), times_append m g (concat gs))

-- marks that tell the same of who is live
pub marks_seats : (q : Queues) (marks : Marks) → Seats q
    → ((k j : ℕ) → nat_lt (marks k (suc j)) (message_of q.image k).length
    ≡ nat_lt (q.marks k (suc j)) (message_of q.image k).length)
    → Seats (record q { marks = marks })
marks_seats q marks seats same =
    record {
      queues = seats.queues;
      capacities = seats.capacities;
      holds = λ k j g.
          seats.holds k j g ∙ ap (λ b. is_bound q.image q.bound k j && b) (sym (same k j));
      held = seats.held;
      holders = seats.holders;
      free = seats.free;
      live = λ l.
          seats.live l
          ∙ filter_same (λ m. nat_lt (q.marks m (suc (hop_on q.image l m))) (message_of q.image m).length)
          (λ m. nat_lt (marks m (suc (hop_on q.image l m))) (message_of q.image m).length)
          (held q.image l (q.bound l)) (λ m. sym (same m (hop_on q.image l m)));
    }

found : (x : ℕ) (xs : List ℕ) → place_of x xs < length xs → get_or xs (place_of x xs) 0 ≡ x
found x [] h = absurd (omega arith)
found x (y ∷ ys) h =
    elim (cases_Bool (nat_eq x y)) [
      | inl t ↦ ap (λ b. get_or (y ∷ ys) (cond b 0 (suc (place_of x ys))) 0) t ∙ sym (eqb-true x y t)
      | inr t ↦
          let later : place_of x (y ∷ ys) ≡ suc (place_of x ys) = ap (λ b. cond b 0 (suc (place_of x ys))) t in
          ap (λ n. get_or (y ∷ ys) n 0) later ∙ found x ys (omega (arith, later, h))
    ]

-- one slot has one message at one hop
pub sole : (q : Queues) → IsShaped q.image → Seats q → (m hop s k j i : ℕ) → IsHop q.image m hop → IsHop q.image k j
    → q.places m hop ≡ Some s → q.places k j ≡ Some i → link_at q.image m hop ≡ link_at q.image k j → s ≡ i
    → (m ≡ k) × (hop ≡ j)
sole q shaped seats m hop s k j i h g a b e f =
    let who : Some m ≡ Some k =
    sym (seats.held m hop s h a).1 ∙ ap (λ n. holder_at (q.slots n) s) e
    ∙ ap (λ n. holder_at (q.slots (link_at q.image k j)) n) f ∙ (seats.held k j i g b).1
    in
    let they : m ≡ k = same_Some _ _ who in (
      they,
      sym (same_hop q.image shaped m hop h) ∙ ap (λ n. hop_on q.image n m) e ∙ ap (hop_on q.image (link_at q.image k j)) they
          ∙ same_hop q.image shaped k j g,
    )

-- ---- a slot that its holder gives back

module _ (q : Queues) (shaped : IsShaped q.image) (seats : Seats q) (m hop s : ℕ) (h : IsHop q.image m hop)
    (is : q.places m hop ≡ Some s) (marks : Marks)
    (none_left : words_at (slots_at q m hop) s ≡ [])
    (gone : nat_lt (marks m (suc hop)) (message_of q.image m).length ≡ false)
    (same : (k j : ℕ) → ((m ≡ k) → (hop ≡ j) → ⊥) → nat_lt (marks k (suc j)) (message_of q.image k).length
    ≡ nat_lt (q.marks k (suc j)) (message_of q.image k).length) where
  abbrev at : ℕ
  at = link_at q.image m hop

  abbrev left : Slot
  left = record (slot_at (q.slots at) s) { holder = None }

  abbrev pub after : Queues
  after =
      record q {
        marks = marks;
        places = put_at q.places m hop None;
        slots = put q.slots at (freed (q.slots at) s);
      }

  held_there : (s < length (slots_at q m hop)) × (holder_at (slots_at q m hop) s ≡ Some m)
  held_there = seats.held m hop s h is

  was : (is_bound q.image q.bound m hop ≡ true) × (nat_lt (q.marks m (suc hop)) (message_of q.image m).length ≡ true)
  was = and_parts _ _ (sym (seats.holds m hop h) ∙ ap is_some is)

  place_other : (k j : ℕ) → (nat_eq m k && nat_eq hop j) ≡ false → after.places k j ≡ q.places k j
  place_other k j f = ap (λ b. cond b None (q.places k j)) f

  -- the message goes by another link at another hop
  apart : (j : ℕ) → (at ≡ j → ⊥) → hop ≡ hop_on q.image j m → ⊥
  apart j f e =
      f (ap (link_at q.image m) e ∙ found j (message_of q.image m).route (subst (λ n. n < hops q.image m) e h.1))

  live_after : (j : ℕ) → length (live q.image marks q.bound j) + one (nat_eq at j) ≡ length (live q.image q.marks q.bound j)
  live_after j =
      let p : ℕ → Bool = λ k. nat_lt (q.marks k (suc (hop_on q.image j k))) (message_of q.image k).length in
      let r : ℕ → Bool = λ k. nat_lt (marks k (suc (hop_on q.image j k))) (message_of q.image k).length in
      elim (cases_Bool (nat_eq at j)) [
        | inl t ↦
            let here : at ≡ j = eqb-true at j t in
            let mine : hop_on q.image j m ≡ hop = subst (λ n. hop_on q.image n m ≡ hop) here (same_hop q.image shaped m hop h) in
            let yes : p m ≡ true = ap (λ n. nat_lt (q.marks m (suc n)) (message_of q.image m).length) mine ∙ was.1 in
            let no : r m ≡ false = ap (λ n. nat_lt (marks m (suc n)) (message_of q.image m).length) mine ∙ gone in
            let member : is_one_of (held q.image j (q.bound j)) m ≡ true =
            subst (λ n. is_one_of (held q.image n (q.bound n)) m ≡ true) here was.0
            in
            omega (
              arith,
              filter_less m p r (held q.image j (q.bound j)) yes no
                  (λ x f. sym (same x (hop_on q.image j x) (λ a b. f a))),
              times_some m (held q.image j (q.bound j)) member,
              times_first m (q.bound j) (groups_of q.image j),
              one_group q.image shaped j m,
              ap one t,
            )
        | inr t ↦
            let off : at ≡ j → ⊥ = λ e. both_ways _ t (eq-eqb at j e) in
            let kept : length (filter r (held q.image j (q.bound j))) ≡ length (filter p (held q.image j (q.bound j))) =
            filter_same r p (held q.image j (q.bound j))
            (λ x. same x (hop_on q.image j x) (λ a b. apart j off (b ∙ ap (hop_on q.image j) (sym a))))
            in
            omega (arith, kept, ap one t)
      ]

  pub release_seats : Seats after
  release_seats =
      let many : (j : ℕ) → length (after.slots j) ≡ length (q.slots j) = as_many q.slots at s left held_there.0 in
      let holder : (j i : ℕ) → holder_at (after.slots j) i ≡ cond (nat_eq at j && nat_eq s i) None (holder_at (q.slots j) i) =
      field_after q.slots at s left held_there.0 (λ (x : Slot). x.holder)
      in
      record {
        queues = λ j g. many j ∙ seats.queues j g;
        capacities = λ j i g.
            field_kept q.slots at s left held_there.0 (λ (x : Slot). x.words.capacity) j i refl
            ∙ seats.capacities j i (omega (arith, many j, g));
        holds = λ k j g. elim (same_or_other m k hop j) [
          | inl t ↦
              let dead : nat_lt (marks k (suc j)) (message_of q.image k).length ≡ false =
              subst (λ n. nat_lt (marks n (suc j)) (message_of q.image n).length ≡ false) t.0
              (subst (λ n. nat_lt (marks m (suc n)) (message_of q.image m).length ≡ false) t.1.0 gone)
              in
              ap (λ b. is_some (cond b None (q.places k j))) t.1.1
              ∙ sym (ap (λ b. is_bound q.image q.bound k j && b) dead ∙ and_none (is_bound q.image q.bound k j))
          | inr t ↦
              ap is_some (place_other k j t.0) ∙ seats.holds k j g
              ∙ ap (λ b. is_bound q.image q.bound k j && b) (sym (same k j t.1))
        ];
        held = λ k j i g e. elim (same_or_other m k hop j) [
          | inl t ↦ absurd (none-some _ (sym (ap (λ b. cond b None (q.places k j)) t.1.1) ∙ e))
          | inr t ↦
              let old = seats.held k j i g (sym (place_other k j t.0) ∙ e) in
              let other : (nat_eq at (link_at q.image k j) && nat_eq s i) ≡ false = elim (same_or_other at (link_at q.image k j) s i) [
                | inl y ↦
                    let who : Some m ≡ Some k =
                    sym held_there.1 ∙ ap (λ n. holder_at (q.slots n) s) y.0
                    ∙ ap (λ n. holder_at (q.slots (link_at q.image k j)) n) y.1.0 ∙ old.1
                    in
                    let they : m ≡ k = same_Some _ _ who in
                    let hops_same : hop ≡ j =
                    sym (same_hop q.image shaped m hop h)
                    ∙ ap (λ n. hop_on q.image n m) y.0 ∙ ap (hop_on q.image (link_at q.image k j)) they
                    ∙ same_hop q.image shaped k j g
                    in
                    absurd (t.1 they hops_same)
                | inr y ↦ y.0
              ]
              in (
                omega (arith, old.0, many (link_at q.image k j)),
                holder (link_at q.image k j) i ∙ ap (λ b. cond b None (holder_at (slots_at q k j) i)) other ∙ old.1,
              )
        ];
        holders = λ j i k e. elim (same_or_other at j s i) [
          | inl t ↦
              absurd (none-some _ (sym (holder j i ∙ ap (λ b. cond b None (holder_at (q.slots j) i)) t.1.1) ∙ e))
          | inr t ↦
              let old = seats.holders j i k
              (sym (holder j i ∙ ap (λ b. cond b None (holder_at (q.slots j) i)) t.0) ∙ e)
              in
              let other : (nat_eq m k && nat_eq hop (hop_on q.image j k)) ≡ false = elim (same_or_other m k hop (hop_on q.image j k)) [
                | inl y ↦
                    let place : Some s ≡ Some i =
                    sym is ∙ ap (λ n. q.places n hop) y.0 ∙ ap (q.places k) y.1.0 ∙ old.1.1
                    in
                    let link : at ≡ j = ap (λ n. link_at q.image n hop) y.0 ∙ ap (link_at q.image k) y.1.0 ∙ old.1.0 in
                    absurd (t.1 link (same_Some _ _ place))
                | inr y ↦ y.0
              ]
              in
              (old.0, (old.1.0, place_other k (hop_on q.image j k) other ∙ old.1.1))
        ];
        free = λ j i e.
            field_kept q.slots at s left held_there.0 (λ (x : Slot). x.words.items) j i refl
            ∙ elim (same_or_other at j s i) [
              | inl t ↦
                  subst (λ n. words_at (q.slots n) i ≡ []) t.0 (subst (λ n. words_at (q.slots at) n ≡ []) t.1.0 none_left)
              | inr t ↦ seats.free j i (sym (holder j i ∙ ap (λ b. cond b None (holder_at (q.slots j) i)) t.0) ∙ e)
            ];
        live = λ j.
            omega (
              arith,
              live_after j,
              seats.live j,
              count_after q.slots at s left held_there.0 j,
              ap (λ o. one (nat_eq at j && is_some o)) held_there.1,
              one_and (nat_eq at j),
              none_and (nat_eq at j),
            );
      }

-- ---- words in a slot after the change

module _ (q : Queues) (shaped : IsShaped q.image) (seats : Seats q) (m hop s : ℕ) (h : IsHop q.image m hop)
    (is : q.places m hop ≡ Some s) (words : List Word) where
  abbrev spot : ℕ
  spot = link_at q.image m hop

  abbrev newer : Slot
  newer = record (slot_at (q.slots spot) s) { words = buffer words (slot_at (q.slots spot) s).words.capacity }

  pub words_after : (k j i : ℕ) → IsHop q.image k j → q.places k j ≡ Some i
      → ((m ≡ k) × ((hop ≡ j) × (words_at ((reworded q seats m hop s h is words).slots (link_at q.image k j)) i ≡ words)))
      ⊎ (((m ≡ k) → (hop ≡ j) → ⊥)
      × (words_at ((reworded q seats m hop s h is words).slots (link_at q.image k j)) i ≡ words_at (slots_at q k j) i))
  words_after k j i g e =
      let inside : s < length (q.slots spot) = (seats.held m hop s h is).0 in
      let seen = field_after q.slots spot s newer inside (λ (x : Slot). x.words.items) (link_at q.image k j) i in
      elim (same_or_other spot (link_at q.image k j) s i) [
        | inl t ↦
            let they = sole q shaped seats m hop s k j i h g is e t.0 t.1.0 in
            inl (they.0, (they.1, seen ∙ ap (λ b. cond b words (words_at (slots_at q k j) i)) t.1.1))
        | inr t ↦
            inr (
              (λ a b. t.1 (ap (λ n. link_at q.image n hop) a ∙ ap (link_at q.image k) b)
                  (same_Some _ _ (sym is ∙ ap (λ n. q.places n hop) a ∙ ap (q.places k) b ∙ e))),
              seen ∙ ap (λ b. cond b words (words_at (slots_at q k j) i)) t.0,
            )
      ]
