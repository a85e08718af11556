-- The lines of numbered parts.
use Rattle.std.proofs.Common.{◌≡◌, ℕ, zero, suc, ◌+◌, ◌<◌, ◌++◌, List, [], ◌∷◌, length, take, get_or, ap, sym, ◌∙◌, arith, rules, append_assoc}
use Rattle.std.specs.List.{flat_map, enumerate_from}

-- the lines of one part more
pub lines_more_from : {X : Type 0} → (f : ℕ × X → List ℕ) (n : ℕ) (xs : List X) (i : ℕ) (d : X) → i < length xs
    → flat_map f (enumerate_from n (take (i + 1) xs)) ≡ flat_map f (enumerate_from n (take i xs)) ++ f (n + i, get_or xs i d)
lines_more_from f n [] i d inside = absurd (omega (arith, inside))
lines_more_from f n (x ∷ xs) zero d inside = search rules
lines_more_from f n (x ∷ xs) (suc i) d inside =
    let e : n + 1 + i ≡ n + suc i = omega arith in
    let s : suc i + 1 ≡ suc (i + 1) = omega arith in
    let rest = lines_more_from f (n + 1) xs i d (omega (arith, inside)) in
    ap (λ (k : ℕ). flat_map f (enumerate_from n (take k (x ∷ xs)))) s
    ∙ ap (λ (t : List ℕ). f (n, x) ++ t) (rest ∙ ap (λ k. flat_map f (enumerate_from (n + 1) (take i xs)) ++ f (k, get_or xs i d)) e)
    ∙ sym (append_assoc (f (n, x)) (flat_map f (enumerate_from (n + 1) (take i xs))) (f (n + suc i, get_or xs i d)))

pub lines_more : {X : Type 0} → (f : ℕ × X → List ℕ) (xs : List X) (i : ℕ) (d : X) → i < length xs
    → flat_map f (enumerate_from 0 (take (i + 1) xs)) ≡ flat_map f (enumerate_from 0 (take i xs)) ++ f (i, get_or xs i d)
lines_more f xs i d inside =
    let e : 0 + i ≡ i = omega arith in
    lines_more_from f 0 xs i d inside ∙ ap (λ k. flat_map f (enumerate_from 0 (take i xs)) ++ f (k, get_or xs i d)) e

-- what is written after one part more
pub lines_step : {X : Type 0} → (f : ℕ × X → List ℕ) (xs : List X) (i : ℕ) (x : X) (old now next : List ℕ) → i < length xs
    → x ≡ get_or xs i x → now ≡ old ++ flat_map f (enumerate_from 0 (take i xs)) → next ≡ now ++ f (i, x)
    → next ≡ old ++ flat_map f (enumerate_from 0 (take (i + 1) xs))
lines_step f xs i x old now next inside is so_far step =
    step ∙ ap (λ (t : List ℕ). t ++ f (i, x)) so_far
    ∙ append_assoc old (flat_map f (enumerate_from 0 (take i xs))) (f (i, x))
    ∙ ap (λ y. old ++ (flat_map f (enumerate_from 0 (take i xs)) ++ f (i, y))) is
    ∙ ap (λ (t : List ℕ). old ++ t) (sym (lines_more f xs i x inside))
