-- What may stand between tokens.
use Rattle.std.specs.Prelude.{ℕ, ◌≡◌, List, [], ◌∷◌, IsTrue}
use Rattle.sys_base.specs.Bytes.{is_space}

-- The bytes of a comment after its `#` stand before the rest, which is a newline and more, or nothing.
pub data Comment : List ℕ → List ℕ → Type 0 where
  at_end : Comment [] []
  at_line : {b : ℕ} {bytes : List ℕ} → b ≡ 10 → Comment (b ∷ bytes) (b ∷ bytes)
  inside : {b : ℕ} {bytes rest : List ℕ} → (b ≡ 10 → ⊥) → Comment bytes rest → Comment (b ∷ bytes) rest

-- Only separators and comments stand before the rest.
pub data Gap : List ℕ → List ℕ → Type 0 where
  none : {bytes : List ℕ} → Gap bytes bytes
  space : {b : ℕ} {bytes rest : List ℕ} → IsTrue (is_space b) → Gap bytes rest → Gap (b ∷ bytes) rest
  comment : {b : ℕ} {bytes between rest : List ℕ} → b ≡ 35 → Comment bytes between → Gap between rest
      → Gap (b ∷ bytes) rest
