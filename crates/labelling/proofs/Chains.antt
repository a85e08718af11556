-- Chains of neighbours by the greatest message between their ends: the step of the closure, and what it closes.
use Rattle.std.proofs.Common.{◌≡◌, ℕ, ◌+◌, ◌<◌, ◌↔◌, Bool, ◌&&◌, ◌||◌, sym, ◌∙◌, subst, inl, inr, ◌⊎◌, ⊎_elim, arith}
use Rattle.std.specs.Bool.{IsTrue}
use Rattle.std.proofs.lemmas.Bool.{cases_lt, or_cases, or_left, or_right, and_parts, and_from}
use Rattle.labelling.specs.bodies.Sets.{Through}
use Rattle.labelling.specs.bodies.Sets.Through.{Near, Joined}

-- with no message between, a chain has one step
one_step : (near : ℕ → ℕ → Bool) (a b : ℕ) → Through near 0 a b → IsTrue (near a b)
one_step near _ _ (Near a b h) = h
one_step near _ _ (Joined a b c lt h k) = absurd (omega arith)

pub through_none : (near : ℕ → ℕ → Bool) (a b : ℕ) → (IsTrue (near a b) ↔ Through near 0 a b)
through_none near a b = (λ h. Near a b h, one_step near a b)

-- a chain through messages below a number is one through messages below a greater one
longer : (near : ℕ → ℕ → Bool) (k a b : ℕ) → Through near k a b → Through near (k + 1) a b
longer near k _ _ (Near a b h) = Near a b h
longer near k _ _ (Joined a b c lt h i) = Joined a b c (omega arith) (longer near k a b h) (longer near k b c i)

-- a chain through messages below k + 1 either needs no k, or goes to k and on from it
module _ (near : ℕ → ℕ → Bool) (k : ℕ) where
  abbrev Split : ℕ → ℕ → Type 0
  Split a b = Through near k a b ⊎ (Through near k a k × Through near k k b)

  -- two such chains that meet below k
  meet_below : (a b c : ℕ) → b < k → Split a b → Split b c → Split a c
  meet_below a b c lt (inl h) (inl i) = inl (Joined a b c lt h i)
  meet_below a b c lt (inl h) (inr i) = inr (Joined a b k lt h i.0, i.1)
  meet_below a b c lt (inr h) (inl i) = inr (h.0, Joined k b c lt h.1 i)
  meet_below a b c lt (inr h) (inr i) = inr (h.0, i.1)

  -- a chain to k goes there without k
  to_k : (a : ℕ) → Split a k → Through near k a k
  to_k a (inl h) = h
  to_k a (inr h) = h.0

  -- a chain from k goes on without k
  from_k : (b : ℕ) → Split k b → Through near k k b
  from_k b (inl h) = h
  from_k b (inr h) = h.1

  -- two such chains that meet at k or below
  meet : (a b c : ℕ) → b < k + 1 → Split a b → Split b c → Split a c
  meet a b c lt h i =
      ⊎_elim
      (λ less. meet_below a b c less h i)
      (λ more.
      let e : b ≡ k = omega arith in
      let P : ℕ → Type 0 = λ m. Split a m in
      let Q : ℕ → Type 0 = λ m. Split m c in
      inr (to_k a (subst P e h), from_k c (subst Q e i)))
      (cases_lt b k)

  split : (a b : ℕ) → Through near (k + 1) a b → Split a b
  split _ _ (Near a b h) = inl (Near a b h)
  split _ _ (Joined a b c lt h i) = meet a b c lt (split a b h) (split b c i)

-- one more message between
pub through_more : (near old new : ℕ → ℕ → Bool) (k : ℕ) → ((a b : ℕ) → (IsTrue (old a b) ↔ Through near k a b))
    → ((a b : ℕ) → new a b ≡ (old a b || (old a k && old k b))) → (a b : ℕ) → (IsTrue (new a b) ↔ Through near (k + 1) a b)
through_more near old new k h step a b = (
  λ t. ⊎_elim
      (λ direct. longer near k a b ((h a b).0 direct))
      (λ both.
      let parts = and_parts (old a k) (old k b) both in
      Joined a k b (omega arith) (longer near k a k ((h a k).0 parts.0)) (longer near k k b ((h k b).0 parts.1)))
      (or_cases (old a b) (old a k && old k b) (sym (step a b) ∙ t)),
  λ t. step a b ∙ ⊎_elim
      (λ direct. or_left (old a b) (old a k && old k b) ((h a b).1 direct))
      (λ both. or_right (old a b) (old a k && old k b) (and_from (old a k) (old k b) ((h a k).1 both.0) ((h k b).1 both.1)))
      (split near k a b t),
)
