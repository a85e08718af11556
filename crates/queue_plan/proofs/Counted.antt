-- How many numbers are left when those of a list are picked out.
use Rattle.std.proofs.Common.{◌≡◌, ℕ, zero, suc, ◌+◌, ◌<◌, ◌≤◌, ◌||◌, Bool, true, false, cond, List, [], ◌∷◌, filter, length, nat_eq, ◌∙◌, ap, refl, ⊎_elim, arith}
use Rattle.std.proofs.lemmas.Bool.{cases_eq, eq-eqb, ne_eqb}
use Rattle.std.specs.List.{range_with_len}
use Rattle.cell_types.specs.Groups.{below, greatest, is_one_of, rising}

-- one number more or not
one_either : (b c : Bool) (x : ℕ) (both ps qs : List ℕ) → length both ≤ length ps + length qs
    → length (cond (b || c) (x ∷ both) both) ≤ length (cond b (x ∷ ps) ps) + length (cond c (x ∷ qs) qs)
one_either true true x both ps qs h = omega arith
one_either true false x both ps qs h = omega arith
one_either false true x both ps qs h = omega arith
one_either false false x both ps qs h = h

-- those that pass one of two tests are no more than those that pass each
either : (p q : ℕ → Bool) (ns : List ℕ) → length (filter (λ n. p n || q n) ns) ≤ length (filter p ns) + length (filter q ns)
either p q [] = omega arith
either p q (n ∷ ns) = one_either (p n) (q n) n (filter (λ k. p k || q k) ns) (filter p ns) (filter q ns) (either p q ns)

-- a number below others is none of them
none_equal : (x a n : ℕ) → x < a → filter (λ k. nat_eq k x) (range_with_len a n) ≡ []
none_equal x a zero l = refl
none_equal x a (suc n) l =
    let rest = filter (λ k. nat_eq k x) (range_with_len (a + 1) n) in
    ap (λ b. cond b (a ∷ rest) rest) (ne_eqb a x (λ e. omega arith)) ∙ none_equal x (a + 1) n (omega arith)

-- a number stands once at most among numbers one after another
at_most_once : (x a n : ℕ) → length (filter (λ k. nat_eq k x) (range_with_len a n)) ≤ 1
at_most_once x a zero = omega arith
at_most_once x a (suc n) =
    let rest = filter (λ k. nat_eq k x) (range_with_len (a + 1) n) in
    let more = at_most_once x (a + 1) n in
    ⊎_elim
    (λ (same : a ≡ x).
    let e = ap (λ b. length (cond b (a ∷ rest) rest)) (eq-eqb a x same) in
    let none = ap length (none_equal x (a + 1) n (omega arith)) in
    omega (arith, e, none))
    (λ (other : a ≡ x → ⊥).
    let e = ap (λ b. length (cond b (a ∷ rest) rest)) (ne_eqb a x other) in
    omega (arith, e, more))
    (cases_eq a x)

-- no number is picked out by an empty list
none_picked : (ns : List ℕ) → filter (is_one_of []) ns ≡ []
none_picked [] = refl
none_picked (n ∷ ns) = none_picked ns

-- a list picks out no more numbers than it has
picked : (xs : List ℕ) (n : ℕ) → length (filter (is_one_of xs) (below n)) ≤ length xs
picked [] n = let e = ap length (none_picked (below n)) in omega (arith, e)
picked (x ∷ xs) n =
    let parts = either (λ k. nat_eq k x) (is_one_of xs) (below n) in
    let first = at_most_once x 0 n in
    let rest = picked xs n in
    omega (arith, parts, first, rest)

-- numbers in rising order, each once, are no more than they were
pub rising_few : (xs : List ℕ) → length (rising xs) ≤ length xs
rising_few xs = picked xs (1 + greatest xs)
