-- Numbers in lists of numbers: in those that pass a test, in those below a number, and at a place.
use Rattle.std.proofs.Common.{◌≡◌, ℕ, zero, suc, ◌+◌, ◌<◌, ◌≤◌, ◌&&◌, Bool, true, List, [], ◌∷◌, Some, map, filter, slice_get, nat_eq, sym, ap, true≢false, ⊎_elim, arith}
use Rattle.std.proofs.lemmas.Bool.{cases_eq, eq-eqb, eqb-true, or_left, or_right, or_cases}
use Rattle.std.proofs.lemmas.Map.Views.{any-filter_same}
use Rattle.std.specs.List.{range_with_len}
use Rattle.sys_base.specs.Groups.{is_one_of}

-- a number is among those that pass a test where it is among all of them and passes
pub in_filter : (p : ℕ → Bool) (xs : List ℕ) (x : ℕ) → is_one_of (filter p xs) x ≡ (p x && is_one_of xs x)
in_filter p xs x = any-filter_same (nat_eq x) p (p x) (λ k t. ap p (sym (eqb-true x k t))) xs

-- a number one after another
pub in_range : (a n x : ℕ) → a ≤ x → x < a + n → is_one_of (range_with_len a n) x ≡ true
in_range a zero x from to = absurd (omega arith)
in_range a (suc n) x from to =
    ⊎_elim (λ (same : x ≡ a). or_left (nat_eq x a) (is_one_of (range_with_len (a + 1) n) x) (eq-eqb x a same))
    (λ (other : x ≡ a → ⊥). or_right (nat_eq x a) (is_one_of (range_with_len (a + 1) n) x) (in_range (a + 1) n x (omega arith) (omega arith)))
    (cases_eq x a)

-- what is among numbers one after another is below their end
pub range_holds : (a n x : ℕ) → is_one_of (range_with_len a n) x ≡ true → x < a + n
range_holds a zero x h = absurd (true≢false (sym h))
range_holds a (suc n) x h =
    ⊎_elim (λ (same : nat_eq x a ≡ true). let e = eqb-true x a same in omega arith)
    (λ (later : is_one_of (range_with_len (a + 1) n) x ≡ true). let l = range_holds (a + 1) n x later in omega arith)
    (or_cases (nat_eq x a) (is_one_of (range_with_len (a + 1) n) x) h)

-- what is among some numbers has a place there
pub found : (xs : List ℕ) (x : ℕ) → is_one_of xs x ≡ true → (k : ℕ) × (slice_get xs k ≡ Some x)
found [] x h = absurd (true≢false (sym h))
found (y ∷ ys) x h =
    ⊎_elim {B = is_one_of ys x ≡ true} (λ (same : nat_eq x y ≡ true). (zero, ap Some (sym (eqb-true x y same))))
    (λ (later : is_one_of ys x ≡ true). let more = found ys x later in (suc more.0, more.1))
    (or_cases (nat_eq x y) (is_one_of ys x) h)

-- the image of what is among some numbers is among their images
pub in_map : (g : ℕ → ℕ) (xs : List ℕ) (x : ℕ) → is_one_of xs x ≡ true → is_one_of (map g xs) (g x) ≡ true
in_map g [] x h = absurd (true≢false (sym h))
in_map g (y ∷ ys) x h =
    ⊎_elim (λ (same : nat_eq x y ≡ true). or_left (nat_eq (g x) (g y)) (is_one_of (map g ys) (g x)) (eq-eqb (g x) (g y) (ap g (eqb-true x y same))))
    (λ (later : is_one_of ys x ≡ true). or_right (nat_eq (g x) (g y)) (is_one_of (map g ys) (g x)) (in_map g ys x later))
    (or_cases (nat_eq x y) (is_one_of ys x) h)
