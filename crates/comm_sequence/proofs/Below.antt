-- Tables over the numbers below the length of a list.
use Rattle.std.proofs.Common.{◌≡◌, ℕ, suc, ◌+◌, List, [], ◌∷◌, Some, length, map, ap, sym, refl, ◌∙◌, arith}
use Rattle.std.specs.List.{slice_get, range_with_len}
use Rattle.cell_types.specs.Groups.{below}

-- a table over the numbers from one on is the list's, where each place is
from_place : {A B : Type 0} (a : ℕ) (xs : List A) (h : ℕ → B) (k : A → B)
    → ((i : ℕ) (x : A) → slice_get xs i ≡ Some x → h (a + i) ≡ k x) → map h (range_with_len a (length xs)) ≡ map k xs
from_place a [] h k e = refl
from_place {A} {B} a (x ∷ xs) h k e =
    let here : a + 0 ≡ a = omega arith in
    let step : (i : ℕ) (y : A) → slice_get xs i ≡ Some y → h (a + 1 + i) ≡ k y =
    λ i y g. let n : a + suc i ≡ a + 1 + i = omega arith in ap h (sym n) ∙ e (suc i) y g in
    ap (λ y. y ∷ map h (range_with_len (a + 1) (length xs))) (ap h (sym here) ∙ e 0 x refl)
    ∙ ap (λ ys. k x ∷ ys) (from_place (a + 1) xs h k step)

-- a table over the numbers below a list's length is the list's, where each place is
pub at_below : {A B : Type 0} (xs : List A) (h : ℕ → B) (k : A → B)
    → ((i : ℕ) (x : A) → slice_get xs i ≡ Some x → h i ≡ k x) → map h (below (length xs)) ≡ map k xs
at_below xs h k e = from_place 0 xs h k (λ i x g. let n : 0 + i ≡ i = omega arith in ap h n ∙ e i x g)
