-- A queue as a slice of what was written: what comes in, what leaves, and how long it is.
use Rattle.std.proofs.Common.{◌≡◌, ℕ, suc, ◌+◌, ◌-◌, ◌<◌, ◌≤◌, List, [], ◌∷◌, ◌++◌, length, take, drop, get_or, refl, ap, ◌∙◌, arith, length-append, length-drop, length-take, drop-cons, get_or-drop}
use Rattle.std.proofs.Math.Seq.{take-suc}
use Rattle.std.proofs.lemmas.List.{drop-append-le, take-append-le, get_or_push}
use Rattle.array_runs.specs.Queues.{SlicesMove, slice}

pub slice_long : {W : Type 0} (xs : List W) (i j : ℕ) → j ≤ length xs → length (slice xs i j) ≡ j - i
slice_long xs i j h = omega (arith, length-take (j - i) (drop i xs), length-drop i xs)

pub slice_stays : {W : Type 0} (xs : List W) (i j : ℕ) (w : W) → i ≤ j → j ≤ length xs
    → slice (xs ++ w ∷ []) i j ≡ slice xs i j
slice_stays xs i j w l h =
    ap (take (j - i)) (drop-append-le i xs (w ∷ []) (omega arith))
    ∙ take-append-le (j - i) (drop i xs) (w ∷ []) (omega (arith, length-drop i xs))

pub slice_comes : {W : Type 0} (xs : List W) (i j : ℕ) (e : W) → i ≤ j → j < length xs
    → slice xs i (suc j) ≡ slice xs i j ++ get_or xs j e ∷ []
slice_comes xs i j e l h =
    let up : suc j - i ≡ suc (j - i) = omega arith in
    let at : i + (j - i) ≡ j = omega arith in
    ap (λ n. take n (drop i xs)) up ∙ take-suc (drop i xs) (j - i) e (omega (arith, length-drop i xs))
    ∙ ap (λ x. slice xs i j ++ x ∷ []) (get_or-drop i xs (j - i) e ∙ ap (λ n. get_or xs n e) at)

pub slice_leaves : {W : Type 0} (xs : List W) (i j : ℕ) (e : W) → i < j → j ≤ length xs
    → slice xs i j ≡ get_or xs i e ∷ slice xs (suc i) j
slice_leaves xs i j e l h =
    let up : j - i ≡ suc (j - suc i) = omega arith in
    ap (λ n. take n (drop i xs)) up ∙ ap (take (suc (j - suc i))) (drop-cons xs i e (omega arith))

pub slice_written : {W : Type 0} (xs : List W) (i : ℕ) (w : W) → i ≤ length xs
    → slice (xs ++ w ∷ []) i (suc (length xs)) ≡ slice xs i (length xs) ++ w ∷ []
slice_written xs i w l =
    slice_comes (xs ++ w ∷ []) i (length xs) w l (omega (arith, length-append xs (w ∷ [])))
    ∙ ap (λ r. r ++ get_or (xs ++ w ∷ []) (length xs) w ∷ []) (slice_stays xs i (length xs) w l (omega arith))
    ∙ ap (λ x. slice xs i (length xs) ++ x ∷ []) (get_or_push xs w w (length xs) refl)

pub slices_move : {W : Type 0} → SlicesMove W
slices_move =
    record { written = slice_written; comes = slice_comes; leaves = slice_leaves; stays = slice_stays; long = slice_long }
