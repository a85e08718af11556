-- How many groups there are.
use Rattle.std.proofs.Common.{◌≡◌, ℕ, ◌+◌, ◌<◌, ◌≤◌, List, [], ◌∷◌, length, map, get_or, take, All, sum_by, sym, ◌∙◌, ap, refl, arith, mul-le-mul_right}
use Rattle.std.proofs.lemmas.List.Sums.{sum_by-cons, sum_by-le, sum_by_more_le}
use Rattle.queue_plan.specs.Grouping.{IsGroups}

-- a sum over what a list is mapped to
pub sum_by-map : {X Y : Type 0} (f : Y → ℕ) (g : X → Y) (xs : List X) → sum_by f (map g xs) ≡ sum_by (λ x. f (g x)) xs
sum_by-map f g [] = refl
sum_by-map f g (x ∷ xs) =
    sum_by-cons f (g x) (map g xs) ∙ ap (λ n. f (g x) + n) (sum_by-map f g xs) ∙ sym (sum_by-cons (λ y. f (g y)) x xs)

-- all links have at most 524,288 groups
pub few_groups : (links : List (List (ℕ × List ℕ))) → IsGroups links → sum_by length links ≤ 524288
few_groups links is =
    let each : All (λ (gs : List (ℕ × List ℕ)). length gs ≤ 512) links = λ k d l. (is.each k d l).few in
    let h = sum_by-le length 512 links each in
    omega (arith, h, mul-le-mul_right 512 is.few)

-- the groups so far and those of the next link are no more
pub few_more : (links : List (List (ℕ × List ℕ))) (i : ℕ) (next : List (ℕ × List ℕ)) (count : ℕ) → IsGroups links → i < length links
    → next ≡ get_or links i next → count ≡ sum_by length (take i links) → count + length next ≤ 524288
few_more links i next count is l at counted =
    let h = sum_by_more_le length links i next l in
    omega (arith, h, few_groups links is, ap length at, counted)
