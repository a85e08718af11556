-- The numbers below a number.
use Rattle.std.proofs.Common.{◌≡◌, ℕ, zero, suc, ◌+◌, ◌<◌, Bool, true, List, [], ◌∷◌, ◌++◌, ap, sym, ◌∙◌, subst, arith, length, get_or, add-one, map}
use Rattle.std.specs.List.{list_all, range_with_len}
use Rattle.std.proofs.lemmas.List.Sums.{AllPass-from_list_all}
use Rattle.std.proofs.lemmas.List.FromFn.{length-range_with_len, get_or-range_with_len, map-range_with_len_more}
use Rattle.sys_base.specs.Groups.{below}

range_more : (a n : ℕ) → range_with_len a (n + 1) ≡ range_with_len a n ++ (a + n) ∷ []
range_more a zero =
    let same : a ≡ a + 0 = omega arith in
    let L : ℕ → List ℕ = λ x. x ∷ [] in
    ap L same
range_more a (suc n) =
    let same : a + 1 + n ≡ a + suc n = omega arith in
    let L : ℕ → List ℕ = λ x. a ∷ (range_with_len (a + 1) n ++ x ∷ []) in
    let C : List ℕ → List ℕ = λ xs. a ∷ xs in
    ap (range_with_len a) (add-one (suc n)) ∙ ap (λ k. a ∷ range_with_len (a + 1) k) (sym (add-one n))
    ∙ ap C (range_more (a + 1) n) ∙ ap L same

-- one more number
pub below_more : (n : ℕ) → below (n + 1) ≡ below n ++ n ∷ []
below_more n =
    let same : 0 + n ≡ n = omega arith in
    let L : ℕ → List ℕ = λ x. below n ++ x ∷ [] in
    range_more 0 n ∙ ap L same

-- what a test shows of each number below another holds of one
pub passes_below : (p : ℕ → Bool) (n k : ℕ) → k < n → list_all p (below n) ≡ true → p k ≡ true
passes_below p n k within all =
    let long : k < length (below n) = omega (arith, length-range_with_len 0 n) in
    let at : get_or (below n) k 0 ≡ k = get_or-range_with_len 0 n k 0 within ∙ (omega arith) in
    let P : ℕ → Type 0 = λ x. p x ≡ true in
    subst P at (AllPass-from_list_all p (below n) all k 0 long)

-- one more value
pub map_below_more : {X : Type 0} (f : ℕ → X) (n : ℕ) → map f (below (n + 1)) ≡ map f (below n) ++ f n ∷ []
map_below_more f n = map-range_with_len_more f 0 n n (omega arith)
