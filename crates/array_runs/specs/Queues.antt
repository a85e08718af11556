-- Queues, as parts of all that was ever written.
use Rattle.std.specs.Prelude.{ℕ, suc, ◌≡◌, ◌<◌, ◌≤◌, ◌-◌, List, [], ◌∷◌, ◌++◌, length, take, drop, get_or}

-- the elements of a list from one place up to another
abbrev pub slice : {W : Type 0} → List W → ℕ → ℕ → List W
slice xs from to = take (to - from) (drop from xs)

-- What becomes of a queue, which is a slice of all that was written to its message: a word that is written comes in
-- at its end, and so does one that moves on to it; the oldest one leaves it at its front; it stays while its message
-- grows; and its length is the distance of its ends.
pub record SlicesMove (W : Type 0) : Type 0 where
  pub written : (xs : List W) (i : ℕ) (w : W) → i ≤ length xs
      → slice (xs ++ w ∷ []) i (suc (length xs)) ≡ slice xs i (length xs) ++ w ∷ []
  pub comes : (xs : List W) (i j : ℕ) (blank : W) → i ≤ j → j < length xs
      → slice xs i (suc j) ≡ slice xs i j ++ get_or xs j blank ∷ []
  pub leaves : (xs : List W) (i j : ℕ) (blank : W) → i < j → j ≤ length xs
      → slice xs i j ≡ get_or xs i blank ∷ slice xs (suc i) j
  pub stays : (xs : List W) (i j : ℕ) (w : W) → i ≤ j → j ≤ length xs → slice (xs ++ w ∷ []) i j ≡ slice xs i j
  pub long : (xs : List W) (i j : ℕ) → j ≤ length xs → length (slice xs i j) ≡ j - i
