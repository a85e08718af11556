-- The names of the source language.
use Rattle.std.specs.Prelude.{ℕ, ◌≡◌, ◌≤◌, List, length, IsTrue, slice_index, EachIndex}
use Rattle.sys_base.specs.declared.key.Key.{Key}
use Rattle.sys_base.specs.declared.limits.TheConstants.{NAME_BYTES}
use Rattle.sys_base.specs.Bytes.{is_letter, is_word_byte}
use Rattle.sys_base.specs.Key.{key_text}

-- The bytes are a letter and then letters, digits and underscores.
pub record IsWord (bytes : List ℕ) : Type 0 where
  pub first : IsTrue (is_letter (slice_index bytes 0))
  pub each : EachIndex bytes (λ k. IsTrue (is_word_byte (slice_index bytes k)))

-- The bytes are a word of at most 32 bytes that is no keyword.
pub record IsName (bytes : List ℕ) : Type 0 where
  pub word : IsWord bytes
  pub short : length bytes ≤ NAME_BYTES
  pub free : (key : Key) → bytes ≡ key_text key → ⊥
