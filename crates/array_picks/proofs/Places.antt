-- Where an actor stands in a list.
use Rattle.std.proofs.Common.{◌≡◌, ℕ, zero, suc, ◌<◌, nat_eq, ◌⊎◌, inl, inr, List, [], ◌∷◌, Some, slice_get, Contains, sym, ap, arith}
use Rattle.std.proofs.lemmas.Bool.{cases_Bool, cases_lt, eqb-true, both_ways, eq-eqb}
use Rattle.std.proofs.lemmas.Option.{get_or_from_slice_get, same_Some, slice_get_within}
use Rattle.sys_base.specs.declared.actor.Actor.{Actor}
use Rattle.sys_base.specs.declared.actor.Actor.TheVariants.{Cell, Forward, Bind}
use Rattle.schedules.specs.Picks.{IsFirstPlace}

-- two numbers are equal or not
same_number : (m n : ℕ) → (m ≡ n) ⊎ (m ≡ n → ⊥)
same_number m n =
    elim (cases_Bool (nat_eq m n)) [
      | inl t ↦ inl (eqb-true m n t)
      | inr f ↦ inr (λ e. both_ways _ f (eq-eqb m n e))
    ]

-- two actors are equal or not
same_actor : (a b : Actor) → (a ≡ b) ⊎ (a ≡ b → ⊥)
same_actor (Cell c) (Cell d) = elim (same_number c d) [ inl e ↦ inl (ap Cell e) | inr differ ↦ inr (λ e. differ (cc)) ]
same_actor (Cell c) (Forward m h) = inr (λ e. absurd (cc))
same_actor (Cell c) (Bind l) = inr (λ e. absurd (cc))
same_actor (Forward m h) (Cell c) = inr (λ e. absurd (cc))
same_actor (Forward m h) (Forward n k) =
    elim (same_number m n) [
      | inl e ↦ elim (same_number h k) [ inl f ↦ inl (cc) | inr differ ↦ inr (λ f. differ (cc)) ]
      | inr differ ↦ inr (λ e. differ (cc))
    ]
same_actor (Forward m h) (Bind l) = inr (λ e. absurd (cc))
same_actor (Bind l) (Cell c) = inr (λ e. absurd (cc))
same_actor (Bind l) (Forward m h) = inr (λ e. absurd (cc))
same_actor (Bind k) (Bind l) = elim (same_number k l) [ inl e ↦ inl (ap Bind e) | inr differ ↦ inr (λ e. differ (cc)) ]

-- what stands at a place is in the list
pub contains_at : (xs : List Actor) (place : ℕ) (a : Actor) → slice_get xs place ≡ Some a → Contains xs a
contains_at xs place a here = (place, slice_get_within xs place a here, get_or_from_slice_get xs place a a here)

first_behind : (a x : Actor) (xs : List Actor) (place : ℕ) → (a ≡ x → ⊥) → IsFirstPlace xs place a → IsFirstPlace (x ∷ xs) (suc place) a
first_behind a x xs place differ f = record { here = f.here; first = before }
  where
    before : (k : ℕ) → k < suc place → slice_get (x ∷ xs) k ≡ Some a → ⊥
    before zero l e = differ (sym (same_Some _ _ e))
    before (suc k) l e = f.first k (omega arith) e

none_behind : (a x : Actor) (xs : List Actor) → (a ≡ x → ⊥) → (Contains xs a → ⊥) → Contains (x ∷ xs) a → ⊥
none_behind a x xs differ none (zero, l, e) = differ (sym e)
none_behind a x xs differ none (suc k, l, e) = none (k, omega arith, e)

-- an actor has a first place in a list, or is not in it
pub find_first : (a : Actor) (xs : List Actor) → ((place : ℕ) × IsFirstPlace xs place a) ⊎ (Contains xs a → ⊥)
find_first a [] = inr (λ c. absurd (omega (arith, c.1)))
find_first a (x ∷ xs) =
    elim (same_actor a x) [
      | inl e ↦ inl (0, record { here = ap Some (sym e); first = λ k l h. absurd (omega arith) })
      | inr differ ↦ elim (find_first a xs) [
        | inl f ↦ inl (suc f.0, first_behind a x xs f.0 differ f.1)
        | inr none ↦ inr (none_behind a x xs differ none)
      ]
    ]

-- the first place is just one
pub first_same : (xs : List Actor) (a : Actor) (p q : ℕ) → IsFirstPlace xs p a → IsFirstPlace xs q a → p ≡ q
first_same xs a p q f g =
    elim (cases_lt p q) [
      | inl l ↦ absurd (g.first p l f.here)
      | inr m ↦ elim (cases_lt q p) [ inl l ↦ absurd (f.first q l g.here) | inr n ↦ omega arith ]
    ]
