-- A route that uses no link twice goes by each of its links at one hop.
use Rattle.std.proofs.Common.{◌≡◌, ◌≢◌, ℕ, zero, suc, ◌<◌, cond, refl, List, [], ◌∷◌, length, get_or, sym, ap, ◌∙◌, arith, eq-eqb, ne_eqb}
use Rattle.sys_base.specs.Paths.{Differ}
use Rattle.array_runs.specs.Frame.{place_of}

differ_rest : (x : ℕ) (xs : List ℕ) → Differ (x ∷ xs) → Differ xs
differ_rest x xs h i j e l g = h (suc i) (suc j) e (omega arith) (omega arith)

differ_first : (x : ℕ) (xs : List ℕ) (i : ℕ) → Differ (x ∷ xs) → i < length xs → x ≢ get_or xs i 0
differ_first x xs i h l = h 0 (suc i) 0 (omega arith) (omega arith)

pub once : (links : List ℕ) (i : ℕ) → Differ links → i < length links → place_of (get_or links i 0) links ≡ i
once [] i h l = absurd (omega arith)
once (x ∷ xs) zero h l = ap (λ b. cond {A = ℕ} b 0 (suc (place_of x xs))) (eq-eqb x x refl)
once (x ∷ xs) (suc i) h l =
    let y : ℕ = get_or xs i 0 in
    ap (λ b. cond {A = ℕ} b 0 (suc (place_of y xs)))
    (ne_eqb y x (λ e. differ_first x xs i h (omega arith) (sym e)))
    ∙ ap suc (once xs i (differ_rest x xs h) (omega arith))
