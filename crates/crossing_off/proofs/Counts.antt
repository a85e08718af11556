-- How often operations stand in lists.
use Rattle.std.proofs.Common.{◌≡◌, ℕ, ◌+◌, ◌≤◌, Bool, true, false, cond, List, [], ◌∷◌, ◌++◌, filter, length, ◌∙◌, ap, sym, refl, ⊎_elim, true≢false, arith}
use Rattle.std.proofs.lemmas.Bool.{eqb-true, eq-eqb, cases_Bool}
use Rattle.std.proofs.lemmas.List.Sums.{sum_by-cons}
use Rattle.comm_sequence.specs.BufferedOrder.{same, occurrences}
use Rattle.comm_sequence.specs.declared.comm.Comm.{Comm}
use Rattle.comm_sequence.specs.declared.comm.Comm.TheVariants.{Write, Read}

-- an operation is the same as itself
pub same_self : (e : Comm) → same e e ≡ true
same_self (Write m) = eq-eqb m m refl
same_self (Read m) = eq-eqb m m refl

-- operations that are the same are equal
pub same_equal : (e x : Comm) → same e x ≡ true → e ≡ x
same_equal (Write m) (Write n) h = ap Write (eqb-true m n h)
same_equal (Write m) (Read n) h = absurd (true≢false (sym h))
same_equal (Read m) (Write n) h = absurd (true≢false (sym h))
same_equal (Read m) (Read n) h = ap Read (eqb-true m n h)

-- 1 where two operations are the same, and otherwise 0
abbrev pub one_if_same : Comm → Comm → ℕ
one_if_same e x = cond (same e x) 1 0

-- one operation more in front
pub occurs_cons : (e x : Comm) (xs : List Comm) → occurrences e (x ∷ xs) ≡ one_if_same e x + occurrences e xs
occurs_cons e x xs = sum_by-cons (λ y. cond (same e y) 1 0) x xs

-- it stands there once more
pub occurs_itself : (x : Comm) (xs : List Comm) → occurrences x (x ∷ xs) ≡ 1 + occurrences x xs
occurs_itself x xs = occurs_cons x x xs ∙ ap (λ b. cond b 1 0 + occurrences x xs) (same_self x)

-- two lists together
pub occurs_append : (e : Comm) (xs ys : List Comm) → occurrences e (xs ++ ys) ≡ occurrences e xs + occurrences e ys
occurs_append e [] ys = omega arith
occurs_append e (x ∷ xs) ys =
    let h = occurs_append e xs ys in
    omega (arith, occurs_cons e x (xs ++ ys), occurs_cons e x xs)

-- one operation more at the end
pub occurs_push : (e x : Comm) (xs : List Comm) → occurrences e (xs ++ x ∷ []) ≡ occurrences e xs + one_if_same e x
occurs_push e x xs = omega (arith, occurs_append e xs (x ∷ []), occurs_cons e x [])

-- the same operation more at the end
pub push_itself : (x : Comm) (xs : List Comm) → occurrences x (xs ++ x ∷ []) ≡ occurrences x xs + 1
push_itself x xs = occurs_push x x xs ∙ ap (λ b. occurrences x xs + cond b 1 0) (same_self x)

-- a sum of two numbers after one test
cond_sum : (b : Bool) (x y : ℕ) → cond b x 0 + cond b y 0 ≡ cond b (x + y) 0
cond_sum true x y = refl
cond_sum false x y = refl

-- how often an operation stands among those that pass a test
pub occurs_kept : (p : Comm → Bool) (e : Comm) (xs : List Comm) → occurrences e (filter p xs) ≡ cond (p e) (occurrences e xs) 0
occurs_kept p e [] = both (p e)
  where
    both : (b : Bool) → ◌≡◌ {A = ℕ} 0 (cond b 0 0)
    both true = refl
    both false = refl
occurs_kept p e (x ∷ xs) =
    let tail = occurs_kept p e xs in
    head (p x) refl
    ∙ ap (λ n. cond (p e) (one_if_same e x) 0 + n) tail ∙ cond_sum (p e) (one_if_same e x) (occurrences e xs)
    ∙ ap (λ n. cond (p e) n 0) (sym (occurs_cons e x xs))
  where
    none : (b : Bool) → ◌≡◌ {A = ℕ} 0 (cond b 0 0)
    none true = refl
    none false = refl

    head : (b : Bool) → p x ≡ b
        → occurrences e (cond b (x ∷ filter p xs) (filter p xs)) ≡ cond (p e) (one_if_same e x) 0 + occurrences e (filter p xs)
    head true t =
        ⊎_elim
        (λ (is : same e x ≡ true).
        let e_in : p e ≡ true = ap p (same_equal e x is) ∙ t in
        occurs_cons e x (filter p xs) ∙ ap (λ b. cond b (one_if_same e x) 0 + occurrences e (filter p xs)) (sym e_in))
        (λ (not : same e x ≡ false).
        occurs_cons e x (filter p xs)
        ∙ ap (λ b. cond b 1 0 + occurrences e (filter p xs)) not
        ∙ ap (λ n. n + occurrences e (filter p xs)) (none (p e))
        ∙ ap (λ b. cond (p e) (cond b 1 0) 0 + occurrences e (filter p xs)) (sym not))
        (cases_Bool (same e x))
    head false t =
        ⊎_elim
        (λ (is : same e x ≡ true).
        let e_out : p e ≡ false = ap p (same_equal e x is) ∙ t in
        sym (ap (λ b. cond b (one_if_same e x) 0 + occurrences e (filter p xs)) e_out ∙ zero_first (occurrences e (filter p xs))))
        (λ (not : same e x ≡ false).
        sym (ap (λ b. cond (p e) (cond b 1 0) 0 + occurrences e (filter p xs)) not
        ∙ ap (λ n. n + occurrences e (filter p xs)) (sym (none (p e))) ∙ zero_first (occurrences e (filter p xs))))
        (cases_Bool (same e x))
      where
        zero_first : (n : ℕ) → 0 + n ≡ n
        zero_first n = omega arith

-- ---- two front parts of one list
-- where the second front part has each operation at least as often, and this one as often, the second rest begins with it
pub meets : (a b r t : List Comm) (x : Comm) → a ++ x ∷ r ≡ b ++ t → ((y : Comm) → occurrences y a ≤ occurrences y b)
    → occurrences x a ≡ occurrences x b → t ≡ x ∷ r
meets [] [] r t x e h s = sym e
meets [] (y ∷ b) r t x e h s =
    let xy : x ≡ y = cc in
    absurd (omega (arith, s, ap (λ z. occurrences z (y ∷ b)) xy, occurs_itself y b))
meets (y ∷ a) [] r t x e h s = absurd (omega (arith, h y, occurs_itself y a))
meets (y ∷ a) (z ∷ b) r t x e h s =
    let yz : y ≡ z = cc in
    let tail : a ++ x ∷ r ≡ b ++ t = cc in
    meets a b r t x tail
    (λ w. omega (arith, h w, occurs_cons w y a, occurs_cons w z b, ap (one_if_same w) yz))
    (omega (arith, s, occurs_cons x y a, occurs_cons x z b, ap (one_if_same x) yz))

-- a front part that has each operation at most as often is no longer
pub no_longer : (a b r t : List Comm) → a ++ r ≡ b ++ t → ((y : Comm) → occurrences y a ≤ occurrences y b) → length a ≤ length b
no_longer [] b r t e h = omega arith
no_longer (y ∷ a) [] r t e h = absurd (omega (arith, h y, occurs_itself y a))
no_longer (y ∷ a) (z ∷ b) r t e h =
    let yz : y ≡ z = cc in
    let tail : a ++ r ≡ b ++ t = cc in
    let more = no_longer a b r t tail (λ w. omega (arith, h w, occurs_cons w y a, occurs_cons w z b, ap (one_if_same w) yz)) in
    omega arith
