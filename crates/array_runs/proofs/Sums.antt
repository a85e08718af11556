-- Sums over the numbers below one.
use Rattle.std.proofs.Common.{◌≡◌, ℕ, zero, suc, pred, ◌+◌, ◌-◌, ◌*◌, ◌<◌, ◌≤◌, length, map, sum_by, refl, sym, ap, ◌∙◌, arith, inl, inr, add-one, map-id}
use Rattle.std.specs.List.{range_with_len}
use Rattle.std.proofs.lemmas.Bool.{cases_lt}
use Rattle.std.proofs.lemmas.List.FromFn.{sum_by-map-range_with_len_more}
use Rattle.sys_base.specs.Groups.{below}
use Rattle.array_runs.specs.Frame.{Frame, hops}
use Rattle.array_runs.specs.Runs.{bound}
use Rattle.array_runs.specs.States.{raised}
use Rattle.array_runs.proofs.Counts.{one_at_tells}

-- the sum of a function over the numbers below one
abbrev pub sum_below : (ℕ → ℕ) → ℕ → ℕ
sum_below f zero = 0
sum_below f (suc n) = sum_below f n + f n

pub sum_same : (f g : ℕ → ℕ) (n : ℕ) → ((i : ℕ) → i < n → f i ≡ g i) → sum_below f n ≡ sum_below g n
sum_same f g zero h = refl
sum_same f g (suc n) h = omega (arith, sum_same f g n (λ i l. h i (omega arith)), h n (omega arith))

pub sum_le : (f g : ℕ → ℕ) (n : ℕ) → ((i : ℕ) → i < n → f i ≤ g i) → sum_below f n ≤ sum_below g n
sum_le f g zero h = omega arith
sum_le f g (suc n) h = omega (arith, sum_le f g n (λ i l. h i (omega arith)), h n (omega arith))

pub sum_up_to : (f : ℕ → ℕ) (w n : ℕ) → ((i : ℕ) → i < n → f i ≤ w) → sum_below f n ≤ w * n
sum_up_to f w zero h = omega arith
sum_up_to f w (suc n) h = omega (arith, sum_up_to f w n (λ i l. h i (omega arith)), h n (omega arith))

sum_none : (n : ℕ) → sum_below (λ i. 0) n ≡ 0
sum_none zero = refl
sum_none (suc n) = omega (arith, sum_none n)

pub sum_past : (f : ℕ → ℕ) (i n : ℕ) → n ≤ i → sum_below (raised f i) n ≡ sum_below f n
sum_past f i zero h = refl
sum_past f i (suc n) h = omega (arith, sum_past f i n (omega arith), one_at_tells i n)

-- one more at a number below the end is one more in the sum
pub sum_raised : (f : ℕ → ℕ) (i n : ℕ) → i < n → sum_below (raised f i) n ≡ suc (sum_below f n)
sum_raised f i zero h = absurd (omega arith)
sum_raised f i (suc n) h =
    elim (cases_lt i n) [
      | inl l ↦ omega (arith, sum_raised f i n l, one_at_tells i n)
      | inr l ↦ omega (arith, sum_past f i n l, one_at_tells i n)
    ]

-- the same as a sum over a list
sum_listed : (f : ℕ → ℕ) (n : ℕ) → sum_by f (below n) ≡ sum_below f n
sum_listed f zero = refl
sum_listed f (suc n) =
    ap (sum_by f) (sym (map-id (below (suc n))) ∙ ap (λ k. map (λ x. x) (range_with_len 0 k)) (sym (add-one n)))
    ∙ sum_by-map-range_with_len_more f (λ x. x) 0 n n (omega arith)
    ∙ ap (λ l. sum_by f l + f n) (map-id (below n))
    ∙ ap (λ k. k + f n) (sum_listed f n)

pub bound_is : (p : Frame) (cost : ℕ → ℕ)
    → bound p cost
    ≡ sum_below cost p.cells + sum_below (λ m. p.words m * pred (hops p m)) p.messages
    + sum_below (λ l. length (p.groups l)) p.links
bound_is p cost =
    let moves : (m : ℕ) → p.words m * (hops p m - 1) ≡ p.words m * pred (hops p m) =
    λ m. ap (λ k. p.words m * k) (omega arith)
    in
    omega (
      arith,
      sum_listed cost p.cells,
      sum_listed (λ m. p.words m * (hops p m - 1)) p.messages,
      sum_same (λ m. p.words m * (hops p m - 1)) (λ m. p.words m * pred (hops p m)) p.messages (λ m l. moves m),
      sum_listed (λ l. length (p.groups l)) p.links,
    )
