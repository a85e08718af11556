-- Elements of lists at places, where one is replaced.
use Rattle.std.proofs.Common.{◌≡◌, ℕ, zero, suc, ◌<◌, List, [], ◌∷◌, ◌++◌, Some, length, slice_get, refl, ap, subst, arith}
use Rattle.std.proofs.Common.{set}
use Rattle.std.proofs.lemmas.Option.{same_Some}

-- the element that was put
pub at_same : {A : Type 0} (xs : List A) (i : ℕ) (x : A) → i < length xs → slice_get (set xs i x) i ≡ Some x
at_same [] i x h = absurd (omega arith)
at_same (y ∷ ys) zero x h = refl
at_same (y ∷ ys) (suc i) x h = at_same ys i x (omega arith)

-- any other one
pub at_other : {A : Type 0} (xs : List A) (i j : ℕ) (x : A) → (j ≡ i → ⊥) → slice_get (set xs i x) j ≡ slice_get xs j
at_other [] i j x h = refl
at_other (y ∷ ys) zero zero x h = absurd (h refl)
at_other (y ∷ ys) zero (suc j) x h = refl
at_other (y ∷ ys) (suc i) zero x h = refl
at_other (y ∷ ys) (suc i) (suc j) x h = at_other ys i j x (λ e. h (ap suc e))

-- there is one at each place below the length
pub there : {A : Type 0} (xs : List A) (i : ℕ) → i < length xs → (x : A) × (slice_get xs i ≡ Some x)
there [] i h = absurd (omega arith)
there (x ∷ xs) zero h = (x, refl)
there (x ∷ xs) (suc i) h = there xs i (omega arith)

-- what holds of each element at its place, where one is pushed
pub each_push : {A : Type 0} (P : ℕ → A → Type 0) (xs : List A) (x : A)
    → ((i : ℕ) (y : A) → slice_get xs i ≡ Some y → P i y) → P (length xs) x
    → (i : ℕ) (y : A) → slice_get (xs ++ x ∷ []) i ≡ Some y → P i y
each_push P [] x all one zero y at = subst (P 0) (same_Some x y at) one
each_push P [] x all one (suc i) y at = absurd (cc at)
each_push P (z ∷ zs) x all one zero y at = all 0 y at
each_push P (z ∷ zs) x all one (suc i) y at = each_push (λ j. P (suc j)) zs x (λ j w g. all (suc j) w g) one i y at
