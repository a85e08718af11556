-- Members of lists of numbers: of a filter, a range, the numbers in rising order, and the greatest.
use Rattle.std.proofs.Common.{◌≡◌, ℕ, zero, suc, ◌+◌, ◌<◌, ◌≤◌, max, Bool, true, cond, nat_eq, List, [], ◌∷◌, length, get_or, map, filter, fold, refl, sym, ap, subst, ◌∙◌, arith, inl, inr, eqb-true, eq-eqb}
use Rattle.std.specs.List.{AllPairs}
use Rattle.std.proofs.lemmas.Bool.{both_ways, cases_Bool, or_cases, or_left, or_right}
use Rattle.std.proofs.lemmas.List.FromFn.{get_or-range_with_len, length-range_with_len}
use Rattle.std.proofs.lemmas.List.Kept.{AllPairs-filter}
use Rattle.sys_base.specs.Groups.{below, greatest, is_one_of, rising}
use Rattle.array_runs.specs.Frame.{place_of}

-- a member stands somewhere, and what stands somewhere is a member
pub record Place (xs : List ℕ) (m : ℕ) : Type 0 where
  pub place : ℕ
  pub inside : place < length xs
  pub is : get_or xs place 0 ≡ m

pub find_place : (xs : List ℕ) (m : ℕ) → is_one_of xs m ≡ true → Place xs m
find_place [] m h = absurd (cc)
find_place (x ∷ xs) m h =
    let ih : is_one_of xs m ≡ true → Place xs m = find_place xs m in
    elim (or_cases (nat_eq m x) (is_one_of xs m) h) [
      | inl t ↦ record { place = 0; inside = omega arith; is = sym (eqb-true m x t) }
      | inr t ↦ let r = ih t in record { place = suc r.place; inside = omega (arith, r.inside); is = r.is }
    ]

pub member_at : (xs : List ℕ) (i : ℕ) → i < length xs → is_one_of xs (get_or xs i 0) ≡ true
member_at [] i h = absurd (omega arith)
member_at (x ∷ xs) zero h = or_left _ _ (eq-eqb x x refl)
member_at (x ∷ xs) (suc i) h = or_right _ _ (member_at xs i (omega arith))

pub member_of : (xs : List ℕ) (m : ℕ) → Place xs m → is_one_of xs m ≡ true
member_of xs m r = subst (λ n. is_one_of xs n ≡ true) r.is (member_at xs r.place r.inside)

pub place_of_member : (xs : List ℕ) (x : ℕ) → is_one_of xs x ≡ true
    → (place_of x xs < length xs) × (get_or xs (place_of x xs) 0 ≡ x)
place_of_member [] x h = absurd (cc)
place_of_member (y ∷ ys) x h =
    let ih : is_one_of ys x ≡ true → (place_of x ys < length ys) × (get_or ys (place_of x ys) 0 ≡ x) =
    place_of_member ys x
    in
    elim (cases_Bool (nat_eq x y)) [
      | inl t ↦
          let first : place_of x (y ∷ ys) ≡ 0 = ap (λ b. cond b 0 (suc (place_of x ys))) t in
          (omega (arith, first), ap (λ i. get_or (y ∷ ys) i 0) first ∙ sym (eqb-true x y t))
      | inr f ↦
          let later : place_of x (y ∷ ys) ≡ suc (place_of x ys) = ap (λ b. cond b 0 (suc (place_of x ys))) f in
          let rest : is_one_of ys x ≡ true =
          elim (or_cases (nat_eq x y) (is_one_of ys x) h) [ inl t ↦ absurd (both_ways _ f t) | inr t ↦ t ]
          in
          let r = ih rest in
          (omega (arith, later, r.0), ap (λ i. get_or (y ∷ ys) i 0) later ∙ r.1)
    ]

pub member_filter : (test : ℕ → Bool) (xs : List ℕ) (m : ℕ) → is_one_of (filter test xs) m ≡ true
    → (is_one_of xs m ≡ true) × (test m ≡ true)
member_filter test [] m h = absurd (cc)
member_filter test (x ∷ xs) m h =
    let ih : is_one_of (filter test xs) m ≡ true → (is_one_of xs m ≡ true) × (test m ≡ true) =
    member_filter test xs m
    in
    elim (cases_Bool (test x)) [
      | inl t ↦
          let kept : is_one_of (x ∷ filter test xs) m ≡ true =
          subst (λ b. is_one_of (cond b (x ∷ filter test xs) (filter test xs)) m ≡ true) t h
          in
          elim (or_cases (nat_eq m x) (is_one_of (filter test xs) m) kept) [
            | inl e ↦ (or_left _ _ e, subst (λ n. test n ≡ true) (sym (eqb-true m x e)) t)
            | inr r ↦ (or_right _ _ (ih r).0, (ih r).1)
          ]
      | inr t ↦
          let passed : is_one_of (filter test xs) m ≡ true =
          subst (λ b. is_one_of (cond b (x ∷ filter test xs) (filter test xs)) m ≡ true) t h
          in
          (or_right _ _ (ih passed).0, (ih passed).1)
    ]

pub filter_member : (test : ℕ → Bool) (xs : List ℕ) (m : ℕ) → is_one_of xs m ≡ true → test m ≡ true
    → is_one_of (filter test xs) m ≡ true
filter_member test [] m h t = absurd (cc)
filter_member test (x ∷ xs) m h t =
    let ih : is_one_of xs m ≡ true → is_one_of (filter test xs) m ≡ true = λ r. filter_member test xs m r t in
    elim (or_cases (nat_eq m x) (is_one_of xs m) h) [
      | inl e ↦
          let passes : test x ≡ true = subst (λ n. test n ≡ true) (eqb-true m x e) t in
          subst (λ b. is_one_of (cond b (x ∷ filter test xs) (filter test xs)) m ≡ true) (sym passes) (or_left _ _ e)
      | inr r ↦ elim (cases_Bool (test x)) [
        | inl s ↦ subst (λ b. is_one_of (cond b (x ∷ filter test xs) (filter test xs)) m ≡ true) (sym s)
            (or_right _ _ (ih r))
        | inr s ↦ subst (λ b. is_one_of (cond b (x ∷ filter test xs) (filter test xs)) m ≡ true) (sym s) (ih r)
      ]
    ]

pub member_map : (f : ℕ → ℕ) (xs : List ℕ) (m : ℕ) → is_one_of xs m ≡ true → is_one_of (map f xs) (f m) ≡ true
member_map f [] m h = absurd (cc)
member_map f (x ∷ xs) m h =
    elim (or_cases (nat_eq m x) (is_one_of xs m) h) [
      | inl e ↦ or_left _ _ (eq-eqb (f m) (f x) (ap f (eqb-true m x e)))
      | inr r ↦ or_right _ _ (member_map f xs m r)
    ]

-- what is in the image comes of a member
pub map_member : (f : ℕ → ℕ) (xs : List ℕ) (t : ℕ) → is_one_of (map f xs) t ≡ true
    → (m : ℕ) × (is_one_of xs m ≡ true) × (f m ≡ t)
map_member f [] t h = absurd (cc)
map_member f (x ∷ xs) t h =
    let ih : is_one_of (map f xs) t ≡ true → (m : ℕ) × (is_one_of xs m ≡ true) × (f m ≡ t) = map_member f xs t in
    elim (or_cases (nat_eq t (f x)) (is_one_of (map f xs) t) h) [
      | inl e ↦ (x, or_left _ _ (eq-eqb x x refl), sym (eqb-true t (f x) e))
      | inr r ↦ let q = ih r in (q.0, or_right _ _ q.1, q.2)
    ]

pub member_below : (n m : ℕ) → is_one_of (below n) m ≡ true → m < n
member_below n m h =
    let r = find_place (below n) m h in
    let inside : r.place < n = omega (arith, r.inside, length-range_with_len 0 n) in
    omega (arith, r.is, get_or-range_with_len 0 n r.place 0 inside, inside)

pub below_member : (n m : ℕ) → m < n → is_one_of (below n) m ≡ true
below_member n m h =
    member_of (below n) m (record {
      place = m;
      inside = omega (arith, length-range_with_len 0 n);
      is = get_or-range_with_len 0 n m 0 h ∙ omega arith;
    })

fold_above : (a : ℕ) (xs : List ℕ) → a ≤ fold max a xs
fold_above a [] = omega arith
fold_above a (x ∷ xs) = omega (arith, fold_above (max a x) xs)

fold_member : (a : ℕ) (xs : List ℕ) (m : ℕ) → is_one_of xs m ≡ true → m ≤ fold max a xs
fold_member a [] m h = absurd (cc)
fold_member a (x ∷ xs) m h =
    elim (or_cases (nat_eq m x) (is_one_of xs m) h) [
      | inl e ↦ omega (arith, eqb-true m x e, fold_above (max a x) xs)
      | inr r ↦ fold_member (max a x) xs m r
    ]

-- no member is above the greatest
pub greatest_member : (xs : List ℕ) (m : ℕ) → is_one_of xs m ≡ true → m ≤ greatest xs
greatest_member xs m h = fold_member 0 xs m h

-- the numbers in rising order are the same ones
pub rising_member : (xs : List ℕ) (m : ℕ) → is_one_of (rising xs) m ≡ true → is_one_of xs m ≡ true
rising_member xs m h = (member_filter (is_one_of xs) (below (1 + greatest xs)) m h).1

pub member_rising : (xs : List ℕ) (m : ℕ) → is_one_of xs m ≡ true → is_one_of (rising xs) m ≡ true
member_rising xs m h =
    filter_member (is_one_of xs) (below (1 + greatest xs)) m
    (below_member (1 + greatest xs) m (omega (arith, greatest_member xs m h))) h

below_rises : (n : ℕ) → AllPairs (λ x y. x < y) (below n)
below_rises n i j d h l =
    let inside : j < n = omega (arith, length-range_with_len 0 n) in
    omega (arith, get_or-range_with_len 0 n i d (omega arith), get_or-range_with_len 0 n j d inside)

-- and they rise
pub rising_rises : (xs : List ℕ) (i j : ℕ) → i < j → j < length (rising xs)
    → get_or (rising xs) i 0 < get_or (rising xs) j 0
rising_rises xs i j h l =
    AllPairs-filter (λ x y. x < y) (is_one_of xs) (below (1 + greatest xs)) (below_rises (1 + greatest xs)) i j 0 h l
