-- What the readers of a line ask of its bytes.
use Rattle.std.specs.Prelude.{ℕ, ◌≡◌, ◌<◌, ◌≤◌, List, length, slice_index}

-- The byte stands at this place, and at none before it.
pub record IsFirstByte (bytes : List ℕ) (place byte : ℕ) : Type 0 where
  pub inside : place < length bytes
  pub here : slice_index bytes place ≡ byte
  pub first : (k : ℕ) → k < place → slice_index bytes k ≡ byte → ⊥

-- The first byte is a digit, and a first 0 stands alone.
pub record BeginsPlainly (bytes : List ℕ) : Type 0 where
  pub low : 48 ≤ slice_index bytes 0
  pub high : slice_index bytes 0 ≤ 57
  pub alone : slice_index bytes 0 ≡ 48 → length bytes ≡ 1
