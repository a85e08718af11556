-- The slots of the messages while a link binds a group.
use Rattle.std.proofs.Common.{◌≡◌, ℕ, zero, suc, ◌+◌, ◌*◌, ◌<◌, ◌≤◌, Bool, true, false, cond, ◌&&◌, ◌||◌, nat_eq, nat_lt, List, [], ◌∷◌, ◌++◌, Option, Some, None, is_some, length, filter, fold, get_or, take, refl, sym, ap, subst, ◌∙◌, arith, inl, inr, eq-eqb, eqb-true, lt-ltb, ltb-true, append_assoc, append-nil, add-one, take_all}
use Rattle.std.specs.List.{concat}
use Rattle.std.proofs.lemmas.Bool.{and_from, and_parts, both_ways, cases_Bool, false_from_ne_true, leb-true, or_cases, or_left, or_right}
use Rattle.std.proofs.Math.Path.{fun_ext}
use Rattle.std.proofs.lemmas.List.{take_more}
use Rattle.std.proofs.lemmas.List.Sums.{fold_more}
use Rattle.std.proofs.lemmas.Option.{none-some, same_Some}
use Rattle.sys_base.specs.Grid.{cell_count}
use Rattle.sys_base.specs.Groups.{is_one_of}
use Rattle.cell_code.specs.Images.{IsShaped}
use Rattle.cell_code.specs.Marks.{groups_of, held, hop_on, is_bound, link_at, link_of, may_bind, message_of, raised}
use Rattle.link_slots.proofs.Counts.{free_there, some_free}
use Rattle.link_slots.specs.Slots.{held_count, holder_at, lowest_free, slot_at, words_at}
use Rattle.link_slots.specs.declared.slot.Slot.{Slot}
use Rattle.array_model.specs.Steps.{put}
use Rattle.link_queues.specs.Fabrics.{Queues, bound_next, next_group, settle, slice, slice_of, slots_at}
use Rattle.link_queues.specs.Keeping.{IsHop, IsKept, Seats}
use Rattle.link_queues.proofs.Groups.{times, times_append, times_cons}
use Rattle.link_queues.proofs.Seats.{as_many, count_after, field_after, field_kept, one, same_or_other, times_some}
use Rattle.link_queues.proofs.Shapes.{member, one_group, same_hop}
use Rattle.array_model.specs.States.{ArrayState}
use Rattle.link_queues.specs.Standing.{StandsFor}
use Rattle.link_queues.proofs.Slices.{put_other, put_same, slice_long, some_or_none}

-- whether words of a message are left at a link
abbrev pub lives : Queues → ℕ → ℕ → Bool
lives q l m = nat_lt (q.marks m (suc (hop_on q.image l m))) (message_of q.image m).length

-- What is said of slots, where the bound messages of each link are given.
pub record SeatsOf (q : Queues) (who : ℕ → List ℕ) : Type 0 where
  pub queues : (l : ℕ) → l < 4 * cell_count q.image.grid → length (q.slots l) ≡ (link_of q.image.links l).queues
  pub capacities : (l s : ℕ) → s < length (q.slots l) → (slot_at (q.slots l) s).words.capacity ≡ q.cap
  pub holds : (m hop : ℕ) → IsHop q.image m hop → is_some (q.places m hop)
      ≡ (is_one_of (who (link_at q.image m hop)) m && nat_lt (q.marks m (suc hop)) (message_of q.image m).length)
  pub held : (m hop s : ℕ) → IsHop q.image m hop → q.places m hop ≡ Some s
      → (s < length (slots_at q m hop)) × (holder_at (slots_at q m hop) s ≡ Some m)
  pub holders : (l s m : ℕ) → holder_at (q.slots l) s ≡ Some m
      → IsHop q.image m (hop_on q.image l m)
      × ((link_at q.image m (hop_on q.image l m) ≡ l) × (q.places m (hop_on q.image l m) ≡ Some s))
  pub free : (l s : ℕ) → holder_at (q.slots l) s ≡ None → words_at (q.slots l) s ≡ []
  pub live : (l : ℕ) → held_count (q.slots l) ≡ length (filter (lives q l) (who l))

pub seats_of : (q : Queues) → Seats q → SeatsOf q (λ l. held q.image l (q.bound l))
seats_of q s =
    record {
      queues = s.queues;
      capacities = s.capacities;
      holds = s.holds;
      held = s.held;
      holders = s.holders;
      free = s.free;
      live = s.live;
    }

-- ---- members of lists

one_more : (xs : List ℕ) (m : ℕ) → is_one_of (xs ++ m ∷ []) m ≡ true
one_more [] m = or_left _ _ (eq-eqb m m refl)
one_more (x ∷ xs) m = or_right (nat_eq m x) _ (one_more xs m)

no_more : (xs : List ℕ) (m k : ℕ) → nat_eq k m ≡ false → is_one_of (xs ++ m ∷ []) k ≡ is_one_of xs k
no_more [] m k e = ap (λ b. b || false) e
no_more (x ∷ xs) m k e = ap (λ b. nat_eq k x || b) (no_more xs m k e)

kept_more : (p : ℕ → Bool) (xs : List ℕ) (m : ℕ) → p m ≡ true
    → length (filter p (xs ++ m ∷ [])) ≡ length (filter p xs) + 1
kept_more p [] m t = ap (λ b. length (cond b (m ∷ []) [])) t
kept_more p (x ∷ xs) m t =
    let ih : length (filter p (xs ++ m ∷ [])) ≡ length (filter p xs) + 1 = kept_more p xs m t in
    elim (cases_Bool (p x)) [
      | inl u ↦
          omega (
            arith,
            ih,
            ap (λ b. length (cond b (x ∷ filter p (xs ++ m ∷ [])) (filter p (xs ++ m ∷ [])))) u,
            ap (λ b. length (cond b (x ∷ filter p xs) (filter p xs))) u,
          )
      | inr u ↦
          omega (
            arith,
            ih,
            ap (λ b. length (cond b (x ∷ filter p (xs ++ m ∷ [])) (filter p (xs ++ m ∷ [])))) u,
            ap (λ b. length (cond b (x ∷ filter p xs) (filter p xs))) u,
          )
    ]

-- ---- a message takes a slot

module _ (q : Queues) (shaped : IsShaped q.image) (who : ℕ → List ℕ) (seats : SeatsOf q who) (l m : ℕ)
    (h : IsHop q.image m (hop_on q.image l m)) (goes : link_at q.image m (hop_on q.image l m) ≡ l)
    (fresh : is_one_of (who l) m ≡ false) (words : lives q l m ≡ true)
    (room : held_count (q.slots l) < length (q.slots l)) where
  abbrev hop : ℕ
  hop = hop_on q.image l m

  abbrev s : ℕ
  s = lowest_free (q.slots l)

  abbrev new : Slot
  new = record (slot_at (q.slots l) s) { holder = Some m }

  abbrev pub who_after : ℕ → List ℕ
  who_after = put who l (who l ++ m ∷ [])

  inside : s < length (q.slots l)
  inside = some_free (q.slots l) room

  empty : holder_at (q.slots l) s ≡ None
  empty = free_there (q.slots l) inside

  nowhere : q.places m hop ≡ None
  nowhere =
      let no : is_one_of (who (link_at q.image m hop)) m ≡ false = ap (λ n. is_one_of (who n) m) goes ∙ fresh in
      let none : is_some (q.places m hop) ≡ false =
      seats.holds m hop h ∙ ap (λ b. b && nat_lt (q.marks m (suc hop)) (message_of q.image m).length) no
      in
      elim (some_or_none (q.places m hop)) [
        | inl t ↦ t
        | inr t ↦ absurd (both_ways _ none (ap is_some t.1))
      ]

  who_here : (j : ℕ) → l ≡ j → who_after j ≡ who l ++ m ∷ []
  who_here j e = ap (λ b. cond b (who l ++ m ∷ []) (who j)) (eq-eqb l j e)

  who_there : (j : ℕ) → nat_eq l j ≡ false → who_after j ≡ who j
  who_there j e = ap (λ b. cond b (who l ++ m ∷ []) (who j)) e

  -- who is bound, but for the message at the hop
  bound_there : (k j : ℕ) → IsHop q.image k j → ((m ≡ k) → (hop ≡ j) → ⊥)
      → is_one_of (who_after (link_at q.image k j)) k ≡ is_one_of (who (link_at q.image k j)) k
  bound_there k j g off =
      elim (cases_Bool (nat_eq l (link_at q.image k j))) [
        | inl t ↦
            let same : l ≡ link_at q.image k j = eqb-true _ _ t in
            let other : nat_eq k m ≡ false =
            false_from_ne_true _ (λ e.
            let they : k ≡ m = eqb-true k m e in
            off (sym they) (ap (λ n. hop_on q.image n m) same ∙ ap (hop_on q.image (link_at q.image k j)) (sym they)
            ∙ same_hop q.image shaped k j g))
            in
            ap (λ xs. is_one_of xs k) (who_here (link_at q.image k j) same) ∙ no_more (who l) m k other
            ∙ ap (λ n. is_one_of (who n) k) same
        | inr t ↦ ap (λ xs. is_one_of xs k) (who_there (link_at q.image k j) t)
      ]

  pub settle_seats : SeatsOf (settle l q m) who_after
  settle_seats =
      let a : Queues = settle l q m in
      let many : (j : ℕ) → length (a.slots j) ≡ length (q.slots j) = as_many q.slots l s new inside in
      let holder : (j i : ℕ) → holder_at (a.slots j) i ≡ cond (nat_eq l j && nat_eq s i) (Some m) (holder_at (q.slots j) i) =
      field_after q.slots l s new inside (λ (x : Slot). x.holder)
      in
      record {
        queues = λ j g. many j ∙ seats.queues j g;
        capacities = λ j i g.
            field_kept q.slots l s new inside (λ (x : Slot). x.words.capacity) j i refl
            ∙ seats.capacities j i (omega (arith, many j, g));
        holds = λ k j g. elim (same_or_other m k hop j) [
          | inl t ↦
              let there : l ≡ link_at q.image k j =
              sym goes ∙ ap (λ n. link_at q.image n hop) t.0 ∙ ap (link_at q.image k) t.1.0
              in
              let yes : is_one_of (who_after (link_at q.image k j)) k ≡ true =
              ap (λ xs. is_one_of xs k) (who_here (link_at q.image k j) there)
              ∙ ap (λ n. is_one_of (who l ++ m ∷ []) n) (sym t.0) ∙ one_more (who l) m
              in
              let alive : nat_lt (q.marks k (suc j)) (message_of q.image k).length ≡ true =
              subst (λ n. nat_lt (q.marks n (suc j)) (message_of q.image n).length ≡ true) t.0
              (subst (λ n. nat_lt (q.marks m (suc n)) (message_of q.image m).length ≡ true) t.1.0 words)
              in
              ap is_some (put_same q.places m hop (Some s) k j t.0 t.1.0) ∙ sym (and_from _ _ yes alive)
          | inr t ↦
              ap is_some (put_other q.places m hop (Some s) k j t.1) ∙ seats.holds k j g
              ∙ ap (λ b. b && nat_lt (q.marks k (suc j)) (message_of q.image k).length) (sym (bound_there k j g t.1))
        ];
        held = λ k j i g e. elim (same_or_other m k hop j) [
          | inl t ↦
              let there : l ≡ link_at q.image k j =
              sym goes ∙ ap (λ n. link_at q.image n hop) t.0 ∙ ap (link_at q.image k) t.1.0
              in
              let seat : s ≡ i = same_Some _ _ (sym (put_same q.places m hop (Some s) k j t.0 t.1.0) ∙ e) in
              let test : (nat_eq l (link_at q.image k j) && nat_eq s i) ≡ true = and_from _ _ (eq-eqb _ _ there) (eq-eqb _ _ seat) in (
                omega (arith, inside, many (link_at q.image k j), ap (λ n. length (q.slots n)) there, seat),
                holder (link_at q.image k j) i ∙ ap (λ b. cond b (Some m) (holder_at (slots_at q k j) i)) test ∙ ap Some t.0,
              )
          | inr t ↦
              let old = seats.held k j i g (sym (put_other q.places m hop (Some s) k j t.1) ∙ e) in
              elim (same_or_other l (link_at q.image k j) s i) [
                | inl y ↦
                    let both : holder_at (slots_at q k j) i ≡ None =
                    sym (ap (λ n. holder_at (q.slots n) s) y.0 ∙ ap (λ n. holder_at (slots_at q k j) n) y.1.0) ∙ empty
                    in
                    absurd (none-some _ (sym both ∙ old.1))
                | inr y ↦ (
                  omega (arith, old.0, many (link_at q.image k j)),
                  holder (link_at q.image k j) i ∙ ap (λ b. cond b (Some m) (holder_at (slots_at q k j) i)) y.0 ∙ old.1,
                )
              ]
        ];
        holders = λ j i k e. elim (same_or_other l j s i) [
          | inl t ↦
              let they : m ≡ k =
              same_Some _ _ (sym (holder j i ∙ ap (λ b. cond b (Some m) (holder_at (q.slots j) i)) t.1.1) ∙ e)
              in
              let hops_same : hop ≡ hop_on q.image j k = ap (λ n. hop_on q.image n m) t.0 ∙ ap (hop_on q.image j) they in (
                subst (λ n. IsHop q.image k n) hops_same (subst (λ n. IsHop q.image n hop) they h),
                (
                  ap (λ n. link_at q.image k n) (sym hops_same) ∙ ap (λ n. link_at q.image n hop) (sym they) ∙ goes ∙ t.0,
                  put_same q.places m hop (Some s) k (hop_on q.image j k) they hops_same ∙ ap Some t.1.0,
                ),
              )
          | inr t ↦
              let old = seats.holders j i k (sym (holder j i ∙ ap (λ b. cond b (Some m) (holder_at (q.slots j) i)) t.0) ∙ e) in
              let off : (m ≡ k) → (hop ≡ hop_on q.image j k) → ⊥ =
              λ a b. none-some _ (sym nowhere ∙ ap (λ n. q.places n hop) a ∙ ap (q.places k) b ∙ old.1.1)
              in
              (old.0, (old.1.0, put_other q.places m hop (Some s) k (hop_on q.image j k) off ∙ old.1.1))
        ];
        free = λ j i e.
            field_kept q.slots l s new inside (λ (x : Slot). x.words.items) j i refl
            ∙ elim (same_or_other l j s i) [
              | inl t ↦
                  absurd (none-some _ (sym e ∙ holder j i ∙ ap (λ b. cond b (Some m) (holder_at (q.slots j) i)) t.1.1))
              | inr t ↦ seats.free j i (sym (holder j i ∙ ap (λ b. cond b (Some m) (holder_at (q.slots j) i)) t.0) ∙ e)
            ];
        live = λ j. elim (cases_Bool (nat_eq l j)) [
          | inl t ↦
              let here : l ≡ j = eqb-true l j t in
              let mine : lives q j m ≡ true = subst (λ n. lives q n m ≡ true) here words in
              omega (
                arith,
                seats.live j,
                count_after q.slots l s new inside j,
                ap (λ o. one (nat_eq l j && is_some o)) empty,
                ap (λ b. one (b && false)) t,
                ap (λ b. one (b && true)) t,
                ap (λ xs. length (filter (lives q j) xs)) (who_here j here),
                ap (λ n. length (filter (lives q j) (who n ++ m ∷ []))) here,
                kept_more (lives q j) (who j) m mine,
              )
          | inr t ↦
              omega (
                arith,
                seats.live j,
                count_after q.slots l s new inside j,
                ap (λ b. one (b && is_some (holder_at (q.slots l) s))) t,
                ap (λ b. one (b && true)) t,
                ap (λ xs. length (filter (lives q j) xs)) (who_there j t),
              )
        ];
      }

  -- no queue changes
  pub settle_slice : (k j : ℕ) → IsHop q.image k j → slice (settle l q m) k j ≡ slice q k j
  settle_slice k j g =
      let a : Queues = settle l q m in
      let same : (n i : ℕ) → words_at (a.slots n) i ≡ words_at (q.slots n) i =
      λ n i. field_kept q.slots l s new inside (λ (x : Slot). x.words.items) n i refl
      in
      elim (same_or_other m k hop j) [
        | inl t ↦
            let none : slice q k j ≡ [] =
            ap (slice_of (slots_at q k j)) (sym (ap (λ n. q.places n hop) t.0 ∙ ap (q.places k) t.1.0) ∙ nowhere)
            in
            let there : l ≡ link_at q.image k j =
            sym goes ∙ ap (λ n. link_at q.image n hop) t.0 ∙ ap (link_at q.image k) t.1.0
            in
            ap (slice_of (slots_at a k j)) (put_same q.places m hop (Some s) k j t.0 t.1.0)
            ∙ same (link_at q.image k j) s ∙ sym (ap (λ n. words_at (q.slots n) s) there) ∙ seats.free l s empty ∙ sym none
        | inr t ↦
            ap (slice_of (slots_at a k j)) (put_other q.places m hop (Some s) k j t.1)
            ∙ elim (some_or_none (q.places k j)) [
              | inl u ↦ ap (slice_of (slots_at a k j)) u ∙ sym (ap (slice_of (slots_at q k j)) u)
              | inr u ↦
                  ap (slice_of (slots_at a k j)) u.1 ∙ same (link_at q.image k j) u.0
                  ∙ sym (ap (slice_of (slots_at q k j)) u.1)
            ]
      ]

  pub settle_count : held_count ((settle l q m).slots l) ≡ held_count (q.slots l) + 1
  settle_count =
      omega (
        arith,
        count_after q.slots l s new inside l,
        ap (λ o. one (nat_eq l l && is_some o)) empty,
        ap (λ b. one (b && false)) (eq-eqb l l refl),
        ap (λ b. one (b && true)) (eq-eqb l l refl),
      )

-- ---- the members of a group

times_next : (m n : ℕ) (gs : List (List ℕ)) → n < length gs
    → times m (concat (take n gs)) + times m (get_or gs n []) ≤ times m (concat gs)
times_next m n [] h = absurd (omega arith)
times_next m zero (g ∷ gs) h = omega (arith, times_append m g (concat gs))
times_next m (suc n) (g ∷ gs) h =
    omega (arith, times_next m n gs (omega arith), times_append m g (concat gs), times_append m g (concat (take n gs)))

times_at : (xs : List ℕ) (i : ℕ) → i < length xs → times (get_or xs i 0) (take i xs) + 1 ≤ times (get_or xs i 0) xs
times_at [] i h = absurd (omega arith)
times_at (x ∷ xs) zero h =
    omega (arith, times_cons x x xs, ap (λ b. cond {A = ℕ} b 1 0) (eq-eqb x x refl))
times_at (x ∷ xs) (suc i) h =
    let m : ℕ = get_or xs i 0 in
    omega (arith, times_at xs i (omega arith), times_cons m x xs, times_cons m x (take i xs))

some_times : (m : ℕ) (xs : List ℕ) → 1 ≤ times m xs → is_one_of xs m ≡ true
some_times m [] h = absurd (omega arith)
some_times m (x ∷ xs) h =
    elim (cases_Bool (nat_eq m x)) [
      | inl t ↦ or_left _ _ t
      | inr t ↦
          or_right (nat_eq m x) _
          (some_times m xs (omega (arith, times_cons m x xs, ap (λ b. cond {A = ℕ} b 1 0) t)))
    ]

concat_next : (gs : List (List ℕ)) (n : ℕ) → n < length gs → concat (take (suc n) gs) ≡ concat (take n gs) ++ get_or gs n []
concat_next [] n h = absurd (omega arith)
concat_next (g ∷ gs) zero h = append-nil g
concat_next (g ∷ gs) (suc n) h =
    ap (λ xs. g ++ xs) (concat_next gs n (omega arith)) ∙ sym (append_assoc g (concat (take n gs)) (get_or gs n []))

in_front : (xs ys : List ℕ) (m : ℕ) → is_one_of xs m ≡ true → is_one_of (xs ++ ys) m ≡ true
in_front [] ys m h = absurd (cc)
in_front (x ∷ xs) ys m h =
    elim (or_cases (nat_eq m x) (is_one_of xs m) h) [
      | inl e ↦ or_left _ _ e
      | inr r ↦ or_right (nat_eq m x) _ (in_front xs ys m r)
    ]

-- ---- a link binds its next group

module _ (q : Queues) (kept : IsKept q) (l : ℕ) (can : may_bind q.image q.marks q.bound l ≡ true)
    (inside : l < 4 * cell_count q.image.grid) where
  abbrev pub members : List ℕ
  members = next_group q l

  left : q.bound l < length (groups_of q.image l)
  left =
      ltb-true _ _
      (and_parts (nat_lt (q.bound l) (length (groups_of q.image l))) _ can).0

  enough : held_count (q.slots l) + length members ≤ length (q.slots l)
  enough =
      omega (
        arith,
        leb-true _ _ (and_parts (nat_lt (q.bound l) (length (groups_of q.image l))) _ can).1,
        kept.seats.live l,
        kept.seats.queues l inside,
      )

  -- the state after some members have their slots
  abbrev pub part : (ℕ → ℕ → Option ℕ) → (ℕ → List Slot) → Queues
  part places slots = record q { bound = raised q.bound l; places = places; slots = slots }

  abbrev bound_now : ℕ → ℕ → List ℕ
  bound_now i = put (λ j. held q.image j (q.bound j)) l (held q.image l (q.bound l) ++ take i members)

  pub record Binds (i : ℕ) : Type 0 where
    pub places : ℕ → ℕ → Option ℕ
    pub slots : ℕ → List Slot
    pub is : fold (settle l) (record q { bound = raised q.bound l }) (take i members) ≡ part places slots
    pub seats : SeatsOf (part places slots) (bound_now i)
    pub count : held_count (slots l) ≡ held_count (q.slots l) + i
    pub same : (m hop : ℕ) → IsHop q.image m hop → slice (part places slots) m hop ≡ slice q m hop

  module _ (i : ℕ) (h : i < length members) where
    abbrev m : ℕ
    m = get_or members i 0

    in_groups : is_one_of (concat (groups_of q.image l)) m ≡ true
    in_groups =
        some_times m (concat (groups_of q.image l))
        (omega (arith, times_at members i h, times_next m (q.bound l) (groups_of q.image l) left))

    pub known : IsHop q.image m (hop_on q.image l m)
        × ((link_at q.image m (hop_on q.image l m) ≡ l) × (0 < (message_of q.image m).length))
    known = member q.image kept.shaped l m in_groups

    not_yet : is_one_of (held q.image l (q.bound l) ++ take i members) m ≡ false
    not_yet =
        false_from_ne_true _ (λ e.
        omega (
          arith,
          times_some m (held q.image l (q.bound l) ++ take i members) e,
          times_append m (held q.image l (q.bound l)) (take i members),
          times_at members i h,
          times_next m (q.bound l) (groups_of q.image l) left,
          one_group q.image kept.shaped l m,
        ))

    before : is_one_of (held q.image l (q.bound l)) m ≡ false
    before =
        false_from_ne_true _ (λ e.
        omega (
          arith,
          times_some m (held q.image l (q.bound l)) e,
          times_at members i h,
          times_next m (q.bound l) (groups_of q.image l) left,
          one_group q.image kept.shaped l m,
        ))

    pub alive : nat_lt (q.marks m (suc (hop_on q.image l m))) (message_of q.image m).length ≡ true
    alive =
        let none : is_bound q.image q.bound m (hop_on q.image l m) ≡ false =
        ap (λ n. is_one_of (held q.image n (q.bound n)) m) known.1.0 ∙ before
        in
        lt-ltb _ _ (omega (
          arith,
          kept.flows.entered m (hop_on q.image l m) known.0 none,
          kept.flows.falls m (hop_on q.image l m) known.0,
          known.1.1,
        ))

    bound_here : (j : ℕ) → nat_eq l j ≡ true → bound_now i j ≡ held q.image l (q.bound l) ++ take i members
    bound_here j t = ap (λ b. cond b (held q.image l (q.bound l) ++ take i members) (held q.image j (q.bound j))) t

    bound_more : put (bound_now i) l (bound_now i l ++ m ∷ []) ≡ bound_now (i + 1)
    bound_more =
        fun_ext (λ j.
        elim (cases_Bool (nat_eq l j)) [
          | inl t ↦
              ap (λ b. cond b (bound_now i l ++ m ∷ []) (bound_now i j)) t
              ∙ ap (λ xs. xs ++ m ∷ []) (bound_here l (eq-eqb l l refl))
              ∙ append_assoc (held q.image l (q.bound l)) (take i members) (m ∷ [])
              ∙ ap (λ xs. held q.image l (q.bound l) ++ xs) (sym (take_more members i 0 h))
              ∙ sym (ap (λ b. cond b (held q.image l (q.bound l) ++ take (i + 1) members) (held q.image j (q.bound j))) t)
          | inr t ↦
              ap (λ b. cond b (bound_now i l ++ m ∷ []) (bound_now i j)) t
              ∙ ap (λ b. cond b (held q.image l (q.bound l) ++ take i members) (held q.image j (q.bound j))) t
              ∙ sym (ap (λ b. cond b (held q.image l (q.bound l) ++ take (i + 1) members) (held q.image j (q.bound j))) t)
        ])

    module _ (b : Binds i) where
      abbrev p : Queues
      p = part b.places b.slots

      fresh : is_one_of (bound_now i l) m ≡ false
      fresh = ap (λ xs. is_one_of xs m) (bound_here l (eq-eqb l l refl)) ∙ not_yet

      pub room : held_count (p.slots l) < length (p.slots l)
      room = omega (arith, b.count, enough, h, b.seats.queues l inside, kept.seats.queues l inside)

      pub one_bound : Binds (i + 1)
      one_bound =
          let after : Queues = settle l p m in
          record {
            places = after.places;
            slots = after.slots;
            is = fold_more (settle l) (record q { bound = raised q.bound l }) members i 0 h
                ∙ ap (λ r. settle l r m) b.is;
            seats = subst (SeatsOf after) bound_more
                (settle_seats p kept.shaped (bound_now i) b.seats l m known.0 known.1.0 fresh alive room);
            count = omega (
              arith,
              settle_count p kept.shaped (bound_now i) b.seats l m known.0 known.1.0 fresh alive room,
              b.count,
            );
            same = λ k j g.
                settle_slice p kept.shaped (bound_now i) b.seats l m known.0 known.1.0 fresh alive room k j g ∙ b.same k j g;
          }

  none_yet : (j : ℕ) → bound_now 0 j ≡ held q.image j (q.bound j)
  none_yet j =
      elim (cases_Bool (nat_eq l j)) [
        | inl t ↦
            ap (λ b. cond b (held q.image l (q.bound l) ++ []) (held q.image j (q.bound j))) t
            ∙ append-nil (held q.image l (q.bound l)) ∙ ap (λ n. held q.image n (q.bound n)) (eqb-true l j t)
        | inr t ↦ ap (λ b. cond b (held q.image l (q.bound l) ++ []) (held q.image j (q.bound j))) t
      ]

  pub binds : (i : ℕ) → i ≤ length members → Binds i
  binds zero h =
      let start : SeatsOf (part q.places q.slots) (λ j. held q.image j (q.bound j)) =
      (let s : SeatsOf q (λ j. held q.image j (q.bound j)) = seats_of q kept.seats in record {
        queues = s.queues;
        capacities = s.capacities;
        holds = s.holds;
        held = s.held;
        holders = s.holders;
        free = s.free;
        live = s.live;
      })
      in
      record {
        places = q.places;
        slots = q.slots;
        is = refl;
        seats = subst (SeatsOf (part q.places q.slots)) (sym (fun_ext none_yet)) start;
        count = omega arith;
        same = λ m hop g. refl;
      }
  binds (suc i) h = subst Binds (add-one i) (one_bound i (omega (arith, h)) (binds i (omega (arith, h))))

  -- all members are bound
  all_bound : (j : ℕ) → bound_now (length members) j ≡ held q.image j (raised q.bound l j)
  all_bound j =
      elim (cases_Bool (nat_eq l j)) [
        | inl t ↦
            let more : suc (q.bound l) ≡ raised q.bound l j =
            omega (arith, ap (λ b. cond {A = ℕ} b 1 0) t, ap q.bound (eqb-true l j t))
            in
            ap (λ b. cond b (held q.image l (q.bound l) ++ take (length members) members) (held q.image j (q.bound j))) t
            ∙ ap (λ xs. held q.image l (q.bound l) ++ xs) (take_all (length members) members (omega arith))
            ∙ sym (concat_next (groups_of q.image l) (q.bound l) left)
            ∙ ap (λ n. held q.image n (suc (q.bound l))) (eqb-true l j t) ∙ ap (held q.image j) more
        | inr t ↦
            let more : q.bound j ≡ raised q.bound l j = omega (arith, ap (λ b. cond {A = ℕ} b 1 0) t) in
            ap (λ b. cond b (held q.image l (q.bound l) ++ take (length members) members) (held q.image j (q.bound j))) t
            ∙ ap (held q.image j) more
      ]

  pub last : Binds (length members)
  last = binds (length members) (omega arith)

  abbrev e : Queues
  e = part last.places last.slots

  pub is_end : bound_next q l ≡ e
  is_end = ap (fold (settle l) (record q { bound = raised q.bound l })) (sym (take_all (length members) members (omega arith))) ∙ last.is

  end_seats : Seats e
  end_seats =
      let s : SeatsOf e (λ j. held q.image j (raised q.bound l j)) = subst (SeatsOf e) (fun_ext all_bound) last.seats in
      record {
        queues = s.queues;
        capacities = s.capacities;
        holds = s.holds;
        held = s.held;
        holders = s.holders;
        free = s.free;
        live = s.live;
      }

  -- what was bound is bound
  stays_bound : (m hop : ℕ) → is_bound q.image (raised q.bound l) m hop ≡ false → is_bound q.image q.bound m hop ≡ false
  stays_bound m hop f =
      let at : ℕ = link_at q.image m hop in
      elim (cases_Bool (nat_eq l at)) [
        | inl t ↦
            let here : l ≡ at = eqb-true l at t in
            let now : held q.image l (q.bound l) ++ take (length members) members ≡ held q.image at (raised q.bound l at) =
            sym (ap (λ b. cond b (held q.image l (q.bound l) ++ take (length members) members) (held q.image at (q.bound at))) t)
            ∙ all_bound at
            in
            false_from_ne_true _ (λ y.
            both_ways _ f (ap (λ xs. is_one_of xs m) (sym now)
            ∙ in_front (held q.image l (q.bound l)) (take (length members) members) m
            (ap (λ n. is_one_of (held q.image n (q.bound n)) m) here ∙ y)))
        | inr t ↦
            let more : raised q.bound l at ≡ q.bound at = omega (arith, ap (λ b. cond {A = ℕ} b 1 0) t) in
            ap (λ n. is_one_of (held q.image at n) m) (sym more) ∙ f
      ]

  end_kept : IsKept e
  end_kept =
      record {
        shaped = kept.shaped;
        some_words = kept.some_words;
        most_words = kept.most_words;
        flows = record {
          within = kept.flows.within;
          falls = kept.flows.falls;
          roomy = kept.flows.roomy;
          entered = λ m hop g f. kept.flows.entered m hop g (stays_bound m hop f);
          counted = λ j. elim (cases_Bool (nat_eq l j)) [
            | inl t ↦
                let here : l ≡ j = eqb-true l j t in
                omega (
                  arith,
                  ap (λ b. cond {A = ℕ} b 1 0) t,
                  left,
                  ap q.bound here,
                  ap (λ n. length (groups_of q.image n)) here,
                )
            | inr t ↦ omega (arith, ap (λ b. cond {A = ℕ} b 1 0) t, kept.flows.counted j)
          ];
        };
        seats = end_seats;
        waits = λ m hop s g is.
            omega (
              arith,
              slice_long q kept m hop g,
              ap length (last.same m hop g),
              ap (λ o. length (slice_of (slots_at e m hop) o)) is,
            );
      }

  pub bound_kept : IsKept (bound_next q l)
  bound_kept = subst IsKept (sym is_end) end_kept

  pub bound_image : (bound_next q l).image ≡ q.image
  bound_image = ap (λ (r : Queues). r.image) is_end

  pub bound_cap : (bound_next q l).cap ≡ q.cap
  bound_cap = ap (λ (r : Queues). r.cap) is_end

  pub bound_marks : (bound_next q l).marks ≡ q.marks
  bound_marks = ap (λ (r : Queues). r.marks) is_end

  pub bound_bound : (bound_next q l).bound ≡ raised q.bound l
  bound_bound = ap (λ (r : Queues). r.bound) is_end

  pub bound_slices : (m hop : ℕ) → IsHop q.image m hop → slice (bound_next q l) m hop ≡ slice q m hop
  bound_slices m hop g = ap (λ (r : Queues). slice r m hop) is_end ∙ last.same m hop g

-- the states that the queues stand for, after a link has bound a group
pub stands_bound : (q : Queues) (s : ArrayState) → StandsFor q s → (l : ℕ) (q2 : Queues) → q2.image ≡ q.image
    → q2.marks ≡ q.marks → q2.bound ≡ raised q.bound l
    → ((m hop : ℕ) → IsHop q.image m hop → slice q2 m hop ≡ slice q m hop)
    → StandsFor q2 (record s { bound = raised s.bound l })
stands_bound q s st l q2 a b c d =
    record {
      marks = st.marks ∙ sym b;
      bound = ap (λ (f : ℕ → ℕ). raised f l) st.bound ∙ sym c;
      long = st.long;
      slices = λ m hop g.
          let g2 : IsHop q.image m hop = subst (λ i. IsHop i m hop) a g in d m hop g2 ∙ st.slices m hop g2;
    }
