-- Where a message stands among the groups of a link.
use Rattle.std.proofs.Common.{eq-eqb, ◌≡◌, ℕ, zero, suc, ◌<◌, ◌≤◌, true, false, inl, inr, List, [], ◌∷◌, length, take, get_or, refl, arith}
use Rattle.std.specs.List.{concat}
use Rattle.std.proofs.lemmas.Bool.{or_right, both_ways, cases_Bool, cases_lt, or_left}
use Rattle.sys_base.specs.Groups.{is_one_of}
use Rattle.array_runs.specs.States.{total}
use Rattle.array_runs.proofs.Flows.{has_append, has_append_left, has_append_right}

-- a group with the message
pub record InGroup (m : ℕ) (groups : List (List ℕ)) : Type 0 where
  pub group : ℕ
  pub inside : group < length groups
  pub is : is_one_of (get_or groups group []) m ≡ true

abbrev one_on : (m : ℕ) (g : List ℕ) (gs : List (List ℕ)) → InGroup m gs → InGroup m (g ∷ gs)
one_on m g gs h = record { group = suc h.group; inside = omega (arith, h.inside); is = h.is }

-- a message in the first groups is in one of them
pub in_group : (m : ℕ) (gs : List (List ℕ)) (n : ℕ) → is_one_of (concat (take n gs)) m ≡ true
    → (r : InGroup m gs) × (r.group < n)
in_group m gs zero h = absurd (cc)
in_group m [] (suc n) h = absurd (cc)
in_group m (g ∷ gs) (suc n) h =
    let ih : is_one_of (concat (take n gs)) m ≡ true → (r : InGroup m gs) × (r.group < n) = in_group m gs n in
    elim (has_append m g (concat (take n gs)) h) [
      | inl t ↦ (record { group = 0; inside = omega arith; is = t }, omega arith)
      | inr t ↦ let r = ih t in (one_on m g gs r.0, omega (arith, r.1))
    ]

-- a message that is in the groups, and not in the first ones, is in a later one
pub in_later : (m : ℕ) (gs : List (List ℕ)) (n : ℕ) → is_one_of (concat gs) m ≡ true
    → is_one_of (concat (take n gs)) m ≡ false
    → (r : InGroup m gs) × (n ≤ r.group)
in_later m [] n h f = absurd (cc)
in_later m (g ∷ gs) zero h f =
    elim (has_append m g (concat gs) h) [
      | inl t ↦ (record { group = 0; inside = omega arith; is = t }, omega arith)
      | inr t ↦ let r = in_later m gs zero t refl in (one_on m g gs r.0, omega arith)
    ]
in_later m (g ∷ gs) (suc n) h f =
    elim (has_append m g (concat gs) h) [
      | inl t ↦ absurd (both_ways _ f (has_append_left m g (concat (take n gs)) t))
      | inr t ↦
          let off : is_one_of (concat (take n gs)) m ≡ false =
          elim (cases_Bool (is_one_of (concat (take n gs)) m)) [
            | inl y ↦ absurd (both_ways _ f (has_append_right m g (concat (take n gs)) y))
            | inr y ↦ y
          ]
          in
          let r = in_later m gs n t off in
          (one_on m g gs r.0, omega (arith, r.1))
    ]

-- what stands in a group stands among the first ones, if that is one of them
pub among_first : (m : ℕ) (gs : List (List ℕ)) (j n : ℕ) → j < n → is_one_of (get_or gs j []) m ≡ true
    → is_one_of (concat (take n gs)) m ≡ true
among_first m gs j zero l h = absurd (omega arith)
among_first m [] j (suc n) l h = absurd (cc)
among_first m (g ∷ gs) zero (suc n) l h = has_append_left m g _ h
among_first m (g ∷ gs) (suc j) (suc n) l h = has_append_right m g _ (among_first m gs j n (omega arith) h)

pub among_all : (m : ℕ) (gs : List (List ℕ)) (j : ℕ) → is_one_of (get_or gs j []) m ≡ true
    → is_one_of (concat gs) m ≡ true
among_all m [] j h = absurd (cc)
among_all m (g ∷ gs) zero h = has_append_left m g _ h
among_all m (g ∷ gs) (suc j) h = has_append_right m g _ (among_all m gs j h)

-- a list that is not empty has a member
pub some_member : (xs : List ℕ) → 0 < length xs → (m : ℕ) × (is_one_of xs m ≡ true)
some_member [] h = absurd (omega arith)
some_member (x ∷ xs) h = (x, or_left _ _ (eq-eqb x x refl))

-- a sum that is not 0 has a part that is not
pub total_some : (f : ℕ → ℕ) (xs : List ℕ) → 0 < total f xs → (m : ℕ) × (is_one_of xs m ≡ true) × (0 < f m)
total_some f [] h = absurd (omega arith)
total_some f (x ∷ xs) h =
    let ih : 0 < total f xs → (m : ℕ) × (is_one_of xs m ≡ true) × (0 < f m) = total_some f xs in
    elim (cases_lt 0 (f x)) [
      | inl l ↦ (x, or_left _ _ (eq-eqb x x refl), l)
      | inr l ↦ let r = ih (omega arith) in (r.0, or_right _ _ r.1, r.2)
    ]
