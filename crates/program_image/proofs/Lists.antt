-- Lists that are made by numbers one after another.
use Rattle.std.proofs.Common.{◌≡◌, ℕ, zero, suc, ◌+◌, ◌<◌, ◌≤◌, true, nat_eq, List, [], ◌∷◌, Some, map, length, slice_get, sum_by, refl, sym, ap, inl, inr, true≢false, arith}
use Rattle.std.proofs.lemmas.Bool.{cases_eq, eq-eqb, eqb-true, or_cases, or_left, or_right}
use Rattle.std.proofs.lemmas.List.Sums.{sum_by-cons}
use Rattle.std.specs.List.{range_with_len}
use Rattle.sys_base.specs.Groups.{is_one_of}

-- a list has an element at each place below its length
pub there : {A : Type 0} (xs : List A) (i : ℕ) → i < length xs → (x : A) × (slice_get xs i ≡ Some x)
there [] i h = absurd (omega arith)
there (x ∷ xs) zero h = (x, refl)
there (x ∷ xs) (suc i) h = there xs i (omega arith)

-- sums of what is the same at each number are the same
pub sum_same : (f g : ℕ → ℕ) (a n : ℕ) → ((k : ℕ) → a ≤ k → k < a + n → f k ≡ g k)
    → sum_by f (range_with_len a n) ≡ sum_by g (range_with_len a n)
sum_same f g a zero h = refl
sum_same f g a (suc n) h =
    let rest = sum_same f g (a + 1) n (λ k low high. h k (omega arith) (omega arith)) in
    let here = h a (omega arith) (omega arith) in
    omega (arith, sum_by-cons f a (range_with_len (a + 1) n), sum_by-cons g a (range_with_len (a + 1) n), rest, here)

-- a sum over a list that is made of another one
pub sum_made : {A B : Type 0} (f : B → ℕ) (h : A → B) (xs : List A) → sum_by f (map h xs) ≡ sum_by (λ x. f (h x)) xs
sum_made f h [] = refl
sum_made f h (x ∷ xs) =
    omega (arith, sum_by-cons f (h x) (map h xs), sum_by-cons (λ y. f (h y)) x xs, sum_made f h xs)

-- a sum over numbers, of which none counts
sum_none : (f : ℕ → ℕ) (a n : ℕ) → ((k : ℕ) → a ≤ k → f k ≡ 0) → sum_by f (range_with_len a n) ≡ 0
sum_none f a zero h = refl
sum_none f a (suc n) h =
    let rest = sum_none f (a + 1) n (λ k low. h k (omega arith)) in
    let here = h a (omega arith) in
    omega (arith, sum_by-cons f a (range_with_len (a + 1) n), rest, here)

-- a sum over numbers, of which just one counts
pub sum_one : (f : ℕ → ℕ) (a n x : ℕ) → a ≤ x → x < a + n → ((k : ℕ) → (k ≡ x → ⊥) → f k ≡ 0)
    → sum_by f (range_with_len a n) ≡ f x
sum_one f a zero x low high h = absurd (omega arith)
sum_one f a (suc n) x low high h =
    elim (cases_eq a x) [
      | inl e ↦
          let rest = sum_none f (a + 1) n (λ k from. h k (λ same. omega arith)) in
          let here : f a ≡ f x = ap f e in
          omega (arith, sum_by-cons f a (range_with_len (a + 1) n), rest, here)
      | inr e ↦
          let more : x ≡ a → ⊥ = λ same. e (sym same) in
          let from : a + 1 ≤ x = omega (arith, low, more) in
          let rest = sum_one f (a + 1) n x from (omega (arith, high)) h in
          let here = h a e in
          omega (arith, sum_by-cons f a (range_with_len (a + 1) n), rest, here)
    ]

-- numbers one after another have just those from the first one on that are so many
pub in_range : (a n x : ℕ) → a ≤ x → x < a + n → is_one_of (range_with_len a n) x ≡ true
in_range a zero x low high = absurd (omega arith)
in_range a (suc n) x low high =
    elim (cases_eq x a) [
      | inl e ↦ or_left (nat_eq x a) (is_one_of (range_with_len (a + 1) n) x) (eq-eqb x a e)
      | inr e ↦
          let from : a + 1 ≤ x = omega (arith, low, e) in
          or_right (nat_eq x a) (is_one_of (range_with_len (a + 1) n) x) (in_range (a + 1) n x from (omega (arith, high)))
    ]

pub range_holds : (a n x : ℕ) → is_one_of (range_with_len a n) x ≡ true → x < a + n
range_holds a zero x h = absurd (true≢false (sym h))
range_holds a (suc n) x h =
    elim (or_cases (nat_eq x a) (is_one_of (range_with_len (a + 1) n) x) h) [
      | inl e ↦ omega (arith, eqb-true x a e)
      | inr later ↦ omega (arith, range_holds (a + 1) n x later)
    ]
