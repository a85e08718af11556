-- A mark that may rise, and a group that may be bound, leave the marks in order.
use Rattle.std.proofs.Common.{◌≡◌, ℕ, zero, suc, ◌+◌, ◌<◌, ◌≤◌, true, cond, nat_eq, nat_lt, ◌⊎◌, inl, inr, List, [], ◌∷◌, ◌++◌, length, take, get_or, refl, ap, subst, ◌∙◌, arith, eqb-true}
use Rattle.std.specs.List.{concat}
use Rattle.std.proofs.lemmas.Bool.{both_ways, cases_Bool, or_cases, or_left, or_right, false_from_ne_true}
use Rattle.std.proofs.lemmas.Bool.Decides.{nat_tests}
use Rattle.array_runs.specs.Frame.{Frame, hop_on, hops, link_at}
use Rattle.sys_base.specs.Groups.{is_one_of}
use Rattle.array_runs.specs.States.{held, is_bound, is_live, live, one_at, one_at_place, raised, raised_at, total}
use Rattle.array_runs.proofs.Counts.{one_at_tells}
use Rattle.array_runs.proofs.Holding.{Flows, MayRise}

-- A count stays, or it is the one that rises, and then what holds of that holds of it.
pub rise_tells : (P : ℕ → Type 0) (i j : ℕ) → P i → (one_at i j ≡ 0) ⊎ ((one_at i j ≡ 1) × P j)
rise_tells P i j h = elim (one_at_tells i j) [ inl t ↦ inr (t.1, subst P t.0 h) | inr t ↦ inl t.1 ]

-- the same of a table of counts
pub place_tells : (P : ℕ → ℕ → Type 0) (m i k j : ℕ) → P m i
    → (one_at_place m i k j ≡ 0) ⊎ ((one_at_place m i k j ≡ 1) × P k j)
place_tells P m i k j h =
    elim (cases_Bool (nat_eq m k)) [
      | inl t ↦
          let e : one_at_place m i k j ≡ one_at i j = ap (λ b. cond b (one_at i j) 0) t in
          elim (rise_tells (P k) i j (subst (λ n. P n i) (eqb-true m k t) h)) [
            | inl z ↦ inl (e ∙ z)
            | inr o ↦ inr (e ∙ o.0, o.1)
          ]
      | inr f ↦ inl (ap (λ b. cond b (one_at i j) 0) f)
    ]

total_le : (f g : ℕ → ℕ) (xs : List ℕ) → ((m : ℕ) → f m ≤ g m) → total f xs ≤ total g xs
total_le f g [] h = omega arith
total_le f g (x ∷ xs) h = omega (arith, h x, total_le f g xs h)

total_append : (f : ℕ → ℕ) (xs ys : List ℕ) → total f (xs ++ ys) ≡ total f xs + total f ys
total_append f [] ys = omega arith
total_append f (x ∷ xs) ys = omega (arith, total_append f xs ys)

total_few : (f : ℕ → ℕ) (xs : List ℕ) → ((m : ℕ) → f m ≤ 1) → total f xs ≤ length xs
total_few f [] h = omega arith
total_few f (x ∷ xs) h = omega (arith, h x, total_few f xs h)

-- one group more
total_more : (f : ℕ → ℕ) (gs : List (List ℕ)) (n : ℕ) → ((m : ℕ) → f m ≤ 1)
    → total f (concat (take (suc n) gs)) ≤ total f (concat (take n gs)) + length (get_or gs n [])
total_more f [] zero h = omega arith
total_more f [] (suc n) h = omega arith
total_more f (g ∷ gs) zero h = omega (arith, total_append f g [], total_few f g h)
total_more f (g ∷ gs) (suc n) h =
    omega (
      arith,
      total_append f g (concat (take (suc n) gs)),
      total_append f g (concat (take n gs)),
      total_more f gs n h,
    )

pub has_append_left : (m : ℕ) (xs ys : List ℕ) → is_one_of xs m ≡ true → is_one_of (xs ++ ys) m ≡ true
has_append_left m [] ys h = absurd (cc)
has_append_left m (x ∷ xs) ys h =
    elim (or_cases (nat_eq m x) (is_one_of xs m) h) [
      | inl t ↦ or_left _ _ t
      | inr t ↦ or_right _ _ (has_append_left m xs ys t)
    ]

pub has_append_right : (m : ℕ) (xs ys : List ℕ) → is_one_of ys m ≡ true → is_one_of (xs ++ ys) m ≡ true
has_append_right m [] ys h = h
has_append_right m (x ∷ xs) ys h = or_right _ _ (has_append_right m xs ys h)

pub has_append : (m : ℕ) (xs ys : List ℕ) → is_one_of (xs ++ ys) m ≡ true
    → (is_one_of xs m ≡ true) ⊎ (is_one_of ys m ≡ true)
has_append m [] ys h = inr h
has_append m (x ∷ xs) ys h =
    elim (or_cases (nat_eq m x) (is_one_of (xs ++ ys) m) h) [
      | inl t ↦ inl (or_left _ _ t)
      | inr t ↦ elim (has_append m xs ys t) [ inl l ↦ inl (or_right _ _ l) | inr r ↦ inr r ]
    ]

-- what stands in some first groups stands in more of them
pub has_more : (m : ℕ) (gs : List (List ℕ)) (i j : ℕ) → i ≤ j → is_one_of (concat (take i gs)) m ≡ true
    → is_one_of (concat (take j gs)) m ≡ true
has_more m gs zero j h t = absurd (cc)
has_more m gs (suc i) zero h t = absurd (omega arith)
has_more m [] (suc i) (suc j) h t = t
has_more m (g ∷ gs) (suc i) (suc j) h t =
    let ih : is_one_of (concat (take i gs)) m ≡ true → is_one_of (concat (take j gs)) m ≡ true =
    has_more m gs i j (omega arith)
    in
    elim (has_append m g (concat (take i gs)) t) [
      | inl l ↦ has_append_left m g _ l
      | inr r ↦ has_append_right m g _ (ih r)
    ]

pub live_small : (p : Frame) (k : ℕ → ℕ → ℕ) (l m : ℕ) → is_live p k l m ≤ 1
live_small p k l m = grind (arith, nat_tests)

live_less_at : (a b w : ℕ) → a ≤ b → cond {A = ℕ} (nat_lt b w) 1 0 ≤ cond {A = ℕ} (nat_lt a w) 1 0
live_less_at a b w h = grind (arith, nat_tests)

-- as marks rise, no message becomes live
pub live_less : (p : Frame) (k j : ℕ → ℕ → ℕ) (b : ℕ → ℕ) (l : ℕ) → ((m i : ℕ) → k m i ≤ j m i)
    → live p j b l ≤ live p k b l
live_less p k j b l h =
    total_le (is_live p j l) (is_live p k l) (held p l (b l)) (λ m. live_less_at _ _ (p.words m) (h m (suc
    (hop_on p l m))))

module _ (p : Frame) (cap : ℕ) (k : ℕ → ℕ → ℕ) (b : ℕ → ℕ) where
  pub rise_keeps : (m i : ℕ) → Flows p cap k b → MayRise p cap k b m i → Flows p cap (raised_at k m i) b
  rise_keeps m i h r =
      record {
        falls = λ n j in_range hop.
            let f : k n (suc j) ≤ k n j = h.falls n j in_range hop in
            elim (place_tells (λ n' i'. (j' : ℕ) → i' ≡ suc j' → k n' i' < k n' j') m i n (suc j) r.below) [
              | inl z ↦ omega arith
              | inr t ↦ omega (arith, t.0, t.1 j refl)
            ];
        entered = λ n j in_range hop shut.
            let z : k n j ≡ 0 = h.entered n j in_range hop shut in
            elim (place_tells (λ n' i'. i' < hops p n' → is_bound p b n' i' ≡ true) m i n j r.opened) [
              | inl z' ↦ omega arith
              | inr t ↦ absurd (both_ways _ shut (t.1 hop))
            ];
        roomy = λ n j in_range hop.
            let f : k n j ≤ k n (suc j) + cap = h.roomy n j in_range hop in
            elim (place_tells (λ n' i'. i' < hops p n' → k n' i' < k n' (suc i') + cap) m i n j r.room) [
              | inl z ↦ omega arith
              | inr t ↦ omega (arith, t.0, t.1 hop)
            ];
        counted = h.counted;
        fitting = λ l. omega (arith, h.fitting l, live_less p k (raised_at k m i) b l (λ n j. omega arith));
      }

  pub bind_keeps : (l : ℕ) → Flows p cap k b → b l < length (p.groups l)
      → live p k b l + length (get_or (p.groups l) (b l) []) ≤ p.queues l → Flows p cap k (raised b l)
  bind_keeps l h left room =
      record {
        falls = h.falls;
        entered = λ m i in_range hop shut.
            h.entered m i in_range hop
            (false_from_ne_true _ (λ t. both_ways _ shut (has_more m (p.groups (link_at p m i)) _ _ (omega arith) t)));
        roomy = h.roomy;
        counted = λ n.
            elim (rise_tells (λ l'. b l' < length (p.groups l')) l n left) [
              | inl z ↦ omega (arith, h.counted n)
              | inr t ↦ omega (arith, t.0, t.1)
            ];
        fitting = λ n.
            elim (rise_tells (λ l'. live p k b l' + length (get_or (p.groups l') (b l') []) ≤ p.queues l') l n room) [
              | inl z ↦ subst (λ c. total (is_live p k n) (held p n c) ≤ p.queues n) (same n z) (h.fitting n)
              | inr t ↦
                  let e : suc (b n) ≡ raised b l n = omega (arith, t.0) in
                  subst (λ c. total (is_live p k n) (held p n c) ≤ p.queues n) e
                  (omega (arith, t.1, total_more (is_live p k n) (p.groups n) (b n) (live_small p k n)))
            ];
      }
    where
      same : (n : ℕ) → one_at l n ≡ 0 → b n ≡ raised b l n
      same n z = omega arith
