-- The members of a set of messages, by the bits of its words.
use Rattle.std.proofs.Common.{◌≡◌, ◌≢◌, ℕ, zero, suc, ◌+◌, ◌-◌, ◌*◌, ◌/◌, ◌%◌, ◌^◌, ◌<◌, ◌≤◌, Bool, true, false, cond, nat_eq, List, [], ◌∷◌, length, get_or, set, take, filter, replicate, ⊎_elim, bit_and, bit_or, w64, refl, sym, ap, subst, ◌∙◌, inl, inr, arith, eqb-true, eq-eqb, get_or-set_same, get_or-set_other}
use Rattle.std.specs.Int.{bit_at, bit_not, trailing_zeros}
use Rattle.std.proofs.lemmas.Bool.{both_ways, cases_Bool, cases_eq, cases_lt, or_cases, or_left, or_right}
use Rattle.std.proofs.lemmas.List.{take_all, get_or-replicate, length-replicate, get_or_past}
use Rattle.std.proofs.lemmas.List.Filters.{length-filter_more}
use Rattle.std.proofs.lemmas.List.FromFn.{get_or-range_with_len, length-range_with_len}
use Rattle.std.proofs.lemmas.Nat.Bits.{bit_at-zero, bit_at-trailing_zeros, bit_at_set_same, bit_at_set_other, bit_at_clear_same, bit_at_clear_other}
use Rattle.sys_base.specs.Groups.{below, is_one_of}
use Rattle.sys_base.specs.declared.limits.TheConstants.{MESSAGES}
use Rattle.crossing_off.specs.bodies.WaitingSet.{has, members, passing, AddsTo, IsIn, IsLeast, Removes}

-- ---- members of a list
member_at : (xs : List ℕ) (i : ℕ) → i < length xs → is_one_of xs (get_or xs i 0) ≡ true
member_at [] i h = absurd (omega arith)
member_at (x ∷ xs) zero h = or_left _ _ (eq-eqb x x refl)
member_at (x ∷ xs) (suc i) h = or_right _ _ (member_at xs i (omega arith))

member_place : (xs : List ℕ) (m : ℕ) → is_one_of xs m ≡ true → (i : ℕ) × (i < length xs) × (get_or xs i 0 ≡ m)
member_place [] m h = absurd (cc)
member_place (x ∷ xs) m h =
    let ih : is_one_of xs m ≡ true → (i : ℕ) × (i < length xs) × (get_or xs i 0 ≡ m) = member_place xs m in
    elim (or_cases (nat_eq m x) (is_one_of xs m) h) [
      | inl e ↦ (0, omega arith, sym (eqb-true m x e))
      | inr r ↦ let found = ih r in (suc found.0, omega (arith, found.1), found.2)
    ]

-- a member of those that pass a test is a member, and passes it
member_filter : (test : ℕ → Bool) (xs : List ℕ) (m : ℕ) → is_one_of (filter test xs) m ≡ true
    → (is_one_of xs m ≡ true) × (test m ≡ true)
member_filter test [] m h = absurd (cc)
member_filter test (x ∷ xs) m h =
    let ih = member_filter test xs m in
    elim (cases_Bool (test x)) [
      | inl t ↦
          let kept : is_one_of (x ∷ filter test xs) m ≡ true =
          subst (λ b. is_one_of (cond b (x ∷ filter test xs) (filter test xs)) m ≡ true) t h
          in
          elim (or_cases (nat_eq m x) (is_one_of (filter test xs) m) kept) [
            | inl e ↦ (or_left _ _ e, subst (λ n. test n ≡ true) (sym (eqb-true m x e)) t)
            | inr r ↦ (or_right _ _ (ih r).0, (ih r).1)
          ]
      | inr t ↦
          let passed : is_one_of (filter test xs) m ≡ true =
          subst (λ b. is_one_of (cond b (x ∷ filter test xs) (filter test xs)) m ≡ true) t h
          in
          (or_right _ _ (ih passed).0, (ih passed).1)
    ]

-- a member that passes a test is a member of those that pass it
filter_member : (test : ℕ → Bool) (xs : List ℕ) (m : ℕ) → is_one_of xs m ≡ true → test m ≡ true
    → is_one_of (filter test xs) m ≡ true
filter_member test [] m h t = absurd (cc)
filter_member test (x ∷ xs) m h t =
    let ih : is_one_of xs m ≡ true → is_one_of (filter test xs) m ≡ true = λ r. filter_member test xs m r t in
    let P : Bool → Type 0 = λ b. is_one_of (cond b (x ∷ filter test xs) (filter test xs)) m ≡ true in
    elim (or_cases (nat_eq m x) (is_one_of xs m) h) [
      | inl e ↦ subst P (sym (subst (λ n. test n ≡ true) (eqb-true m x e) t)) (or_left _ _ e)
      | inr r ↦ elim (cases_Bool (test x)) [
        | inl s ↦ subst P (sym s) (or_right _ _ (ih r))
        | inr s ↦ subst P (sym s) (ih r)
      ]
    ]

-- ---- those of the numbers below n that pass a test
pub passes_in : (test : ℕ → Bool) (n m : ℕ) → m < n → test m ≡ true → is_one_of (passing test n) m ≡ true
unfolding passing
passes_in test n m l t =
    let at : get_or (below n) m 0 ≡ m = get_or-range_with_len 0 n m 0 l ∙ omega arith in
    filter_member test (below n) m
    (subst (λ k. is_one_of (below n) k ≡ true) at (member_at (below n) m (omega (arith, l, length-range_with_len 0 n)))) t

pub in_passes : (test : ℕ → Bool) (n m : ℕ) → is_one_of (passing test n) m ≡ true → (m < n) × (test m ≡ true)
unfolding passing
in_passes test n m h =
    let both = member_filter test (below n) m h in
    let found = member_place (below n) m both.0 in
    let inside : found.0 < n = omega (arith, found.1, length-range_with_len 0 n) in
    let at : 0 + found.0 ≡ m = sym (get_or-range_with_len 0 n found.0 0 inside) ∙ found.2 in
    (omega (arith, inside, at), both.1)

-- a member is one of all messages
pub known_in : (words set : List ℕ) (m : ℕ) → members words ≡ set → IsIn set m → m < MESSAGES
known_in words set m is is_in =
    let P : List ℕ → Type 0 = λ xs. IsIn xs m in
    (in_passes (has words) MESSAGES m (subst P (sym is) is_in)).0

none_of : (test : ℕ → Bool) (xs : List ℕ) → ((k : ℕ) → test k ≡ false) → filter test xs ≡ []
none_of test [] h = refl
none_of test (x ∷ xs) h = ap (λ b. cond b (x ∷ filter test xs) (filter test xs)) (h x) ∙ none_of test xs h

pub none_pass : (test : ℕ → Bool) (n : ℕ) → ((k : ℕ) → test k ≡ false) → passing test n ≡ []
unfolding passing
none_pass test n h = none_of test (below n) h

-- 1 for true
pub one : Bool → ℕ
one b = cond b 1 0

-- one number more
count_more : (test : ℕ → Bool) (n i : ℕ) → i < n → length (filter test (take (i + 1) (below n))) ≡ length (filter test (take i (below n))) + one (test i)
unfolding one
count_more test n i l =
    length-filter_more test (below n) i 0 (omega (arith, l, length-range_with_len 0 n))
    ∙ ap (λ k. length (filter test (take i (below n))) + cond (test k) 1 0) (get_or-range_with_len 0 n i 0 l ∙ zero_more i)
  where
    zero_more : (k : ℕ) → 0 + k ≡ k
    zero_more k = omega arith

module _ (p q : ℕ → Bool) (m n : ℕ) (same : (k : ℕ) → k ≢ m → p k ≡ q k) where
  before : (i : ℕ) → i ≤ n → i ≤ m → length (filter p (take i (below n))) ≡ length (filter q (take i (below n)))
  before zero l b = refl
  before (suc i) l b =
      let ih = before i (omega (arith, l)) (omega (arith, b)) in
      let here : one (p i) ≡ one (q i) = ap one (same i (λ e. omega (arith, e, b))) in
      let next : i + 1 ≡ suc i = omega arith in
      let P : ℕ → Type 0 = λ k. length (filter p (take k (below n))) ≡ length (filter q (take k (below n))) in
      subst P next (count_more p n i (omega (arith, l)) ∙ ap (λ k. k + one (p i)) ih
      ∙ ap (λ k. length (filter q (take i (below n))) + k) here ∙ sym (count_more q n i (omega (arith, l))))

  after : (j : ℕ) → m + 1 + j ≤ n
      → length (filter p (take (m + 1 + j) (below n))) + one (q m) ≡ length (filter q (take (m + 1 + j) (below n))) + one (p m)
  after zero l =
      let at_m = before m (omega (arith, l)) (omega arith) in
      let next : m + 1 ≡ m + 1 + 0 = omega arith in
      let P : ℕ → Type 0 = λ k. length (filter p (take k (below n))) + one (q m) ≡ length (filter q (take k (below n))) + one (p m) in
      subst P next (omega (arith, at_m, count_more p n m (omega (arith, l)), count_more q n m (omega (arith, l))))
  after (suc j) l =
      let ih = after j (omega (arith, l)) in
      let i : ℕ = m + 1 + j in
      let here : one (p i) ≡ one (q i) = ap one (same i (λ e. omega (arith, e))) in
      let next : i + 1 ≡ m + 1 + suc j = omega arith in
      let P : ℕ → Type 0 = λ k. length (filter p (take k (below n))) + one (q m) ≡ length (filter q (take k (below n))) + one (p m) in
      subst P next (omega (arith, ih, here, count_more p n i (omega (arith, l)), count_more q n i (omega (arith, l))))

  -- tests that differ at one number alone
  pub one_differs : m < n → length (passing p n) + one (q m) ≡ length (passing q n) + one (p m)
  unfolding passing
  one_differs l =
      let all : take n (below n) ≡ below n = take_all n (below n) (omega (arith, length-range_with_len 0 n)) in
      let end : m + 1 + (n - (m + 1)) ≡ n = omega (arith, l) in
      let P : ℕ → Type 0 = λ i. length (filter p (take i (below n))) + one (q m) ≡ length (filter q (take i (below n))) + one (p m) in
      let at_n : P n = subst P end (after (n - (m + 1)) (omega (arith, l))) in
      ap (λ xs. length (filter p xs) + one (q m)) (sym all) ∙ at_n
      ∙ ap (λ xs. length (filter q xs) + one (p m)) all

-- ---- a word is written
module _ (words : List ℕ) (m word : ℕ) (inside : m / 64 < length words) where
  has_here : has (set words (m / 64) word) m ≡ nat_eq (bit_at word (m % 64)) 1
  has_here = ap (λ n. nat_eq (bit_at n (m % 64)) 1) (get_or-set_same words (m / 64) word 0 inside)

  has_other : ((i : ℕ) → i < 64 → i ≢ m % 64 → bit_at word i ≡ bit_at (get_or words (m / 64) 0) i)
      → (k : ℕ) → k ≢ m → has (set words (m / 64) word) k ≡ has words k
  has_other kept k differs =
      elim (cases_eq (k / 64) (m / 64)) [
        | inl same ↦
            let P : ℕ → Type 0 = λ i. nat_eq (bit_at (get_or (set words (m / 64) word) i 0) (k % 64)) 1 ≡ nat_eq (bit_at (get_or words i 0) (k % 64)) 1 in
            subst P (sym same)
            (ap (λ n. nat_eq (bit_at n (k % 64)) 1) (get_or-set_same words (m / 64) word 0 inside)
            ∙ ap (λ b. nat_eq b 1) (kept (k % 64) (omega arith) (λ index. differs (omega (arith, index, same)))))
        | inr apart ↦ ap (λ n. nat_eq (bit_at n (k % 64)) 1) (get_or-set_other words (m / 64) (k / 64) word 0 apart)
      ]

-- the words, where the bit of a message is set
abbrev pub with_bit : List ℕ → ℕ → List ℕ
with_bit words m = set words (m / 64) (bit_or (get_or words (m / 64) 0) (1 * 2 ^ (m % 64) % 2 ^ 64))

-- the words, where the bit of a message is cleared
abbrev pub without_bit : List ℕ → ℕ → List ℕ
without_bit words m = set words (m / 64) (bit_and (get_or words (m / 64) 0) (bit_not w64 (1 * 2 ^ (m % 64) % 2 ^ 64)))

module _ (words : List ℕ) (m : ℕ) (long : length words ≡ 8) (known : m < MESSAGES) where
  inside : m / 64 < length words
  inside = omega (arith, long, known)

  index : m % 64 < 64
  index = omega arith

  pub added : AddsTo (members words) (members (with_bit words m)) m
  unfolding one
  added =
      let new = with_bit words m in
      let here : has new m ≡ true =
      has_here words m _ inside ∙ ap (λ b. nat_eq b 1) (bit_at_set_same w64 (get_or words (m / 64) 0) (m % 64) index)
      in
      let others : (k : ℕ) → k ≢ m → has new k ≡ has words k =
      has_other words m _ inside (λ i below differs. bit_at_set_other w64 (get_or words (m / 64) 0) (m % 64) index i differs)
      in
      record {
        kept = λ k is.
            let old = in_passes (has words) MESSAGES k is in
            elim (cases_eq k m) [
              | inl same ↦ passes_in (has new) MESSAGES k old.0 (ap (has new) same ∙ here)
              | inr differs ↦ passes_in (has new) MESSAGES k old.0 (others k differs ∙ old.1)
            ];
        added = passes_in (has new) MESSAGES m known here;
        only = λ k is.
            let now = in_passes (has new) MESSAGES k is in
            elim (cases_eq k m) [
              | inl same ↦ inr same
              | inr differs ↦ inl (passes_in (has words) MESSAGES k now.0 (sym (others k differs) ∙ now.1))
            ];
        len =
            let differ = one_differs (has new) (has words) m MESSAGES others known in
            let most : one (has new m) ≡ 1 = ap one here in
            omega (arith, differ, most);
      }

  pub removed : IsIn (members words) m → Removes (members words) (members (without_bit words m)) m
  unfolding one
  removed is_in =
      let new = without_bit words m in
      let here : has new m ≡ false =
      has_here words m _ inside ∙ ap (λ b. nat_eq b 1) (bit_at_clear_same w64 (get_or words (m / 64) 0) (m % 64) index)
      in
      let others : (k : ℕ) → k ≢ m → has new k ≡ has words k =
      has_other words m _ inside (λ i below differs. bit_at_clear_other w64 (get_or words (m / 64) 0) (m % 64) index i below differs)
      in
      record {
        others = λ k is.
            let old = in_passes (has words) MESSAGES k is in
            elim (cases_eq k m) [
              | inl same ↦ inl same
              | inr differs ↦ inr (passes_in (has new) MESSAGES k old.0 (others k differs ∙ old.1))
            ];
        only = λ k is.
            let now = in_passes (has new) MESSAGES k is in
            elim (cases_eq k m) [
              | inl same ↦ absurd (both_ways _ (ap (has new) same ∙ here) now.1)
              | inr differs ↦ passes_in (has words) MESSAGES k now.0 (sym (others k differs) ∙ now.1)
            ];
        len =
            let differ = one_differs (has new) (has words) m MESSAGES others known in
            let was = (in_passes (has words) MESSAGES m is_in).1 in
            let none : one (has new m) ≡ 0 = ap one here in
            let some : one (has words m) ≡ 1 = ap one was in
            omega (arith, differ, none, some);
      }

-- ---- the least
-- where all words before this one are 0, no message below its first one is in the set
module _ (words : List ℕ) (w : ℕ) (clear : (k : ℕ) → k < w → get_or words k 0 ≡ 0) where
  none_before : (k : ℕ) → k / 64 < w → has words k ≡ false
  none_before k l = ap (λ n. nat_eq (bit_at n (k % 64)) 1) (clear (k / 64) l) ∙ ap (λ b. nat_eq b 1) (bit_at-zero (k % 64))

  pub nothing_in : 8 ≤ w → (k : ℕ) → IsIn (members words) k → ⊥
  nothing_in all k is =
      let now = in_passes (has words) MESSAGES k is in
      both_ways _ (none_before k (omega (arith, now.0, all))) now.1

  pub least_in : w < 8 → 0 < get_or words w 0 → get_or words w 0 < 2 ^ 64
      → IsLeast (members words) (w * 64 + trailing_zeros w64 (get_or words w 0))
  least_in small some fits =
      let word = get_or words w 0 in
      let lowest = bit_at-trailing_zeros w64 word some fits in
      let m = w * 64 + trailing_zeros w64 word in
      let at : m / 64 ≡ w = omega (arith, lowest.0) in
      let place : m % 64 ≡ trailing_zeros w64 word = omega (arith, lowest.0) in
      let is : has words m ≡ true =
      ap (λ i. nat_eq (bit_at (get_or words i 0) (m % 64)) 1) at ∙ ap (λ i. nat_eq (bit_at word i) 1) place ∙ ap (λ b. nat_eq b 1) lowest.1
      in
      record {
        is_in = passes_in (has words) MESSAGES m (omega (arith, small, lowest.0)) is;
        least = λ k in_it.
            let now = in_passes (has words) MESSAGES k in_it in
            elim (cases_lt k m) [
              | inr more ↦ more
              | inl less ↦ absurd (elim (cases_lt (k / 64) w) [
                | inl earlier ↦ both_ways _ (none_before k earlier) now.1
                | inr here ↦
                    let same : k / 64 ≡ w = omega (arith, here, less, at) in
                    let zero_bit = lowest.2 (k % 64) (omega (arith, same, less, lowest.0)) in
                    both_ways _
                    (ap (λ i. nat_eq (bit_at (get_or words i 0) (k % 64)) 1) same ∙ ap (λ b. nat_eq b 1) zero_bit)
                    now.1
              ])
            ];
      }

-- no bit is set in words that are 0
pub none_set : (words : List ℕ) (n : ℕ) → words ≡ replicate n zero → members words ≡ []
none_set words n is =
    none_pass (has words) MESSAGES
    (λ k. ap (λ x. nat_eq (bit_at x (k % 64)) 1) (ap (λ xs. get_or xs (k / 64) 0) is ∙ all_zero (k / 64)) ∙ ap (λ b. nat_eq b 1) (bit_at-zero (k % 64)))
  where
    all_zero : (i : ℕ) → get_or (replicate n zero) i 0 ≡ 0
    all_zero i =
        ⊎_elim (λ l. get_or-replicate n i 0 0 l) (λ g. get_or_past (replicate n zero) i 0 (omega (arith, g, length-replicate n zero))) (cases_lt i n)
