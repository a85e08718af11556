-- The sorts of bytes that the source language tells apart.
use Rattle.std.specs.Prelude.{ℕ, Bool, ◌&&◌, ◌||◌, nat_le, ◌==◌}

-- the byte is from low to high, both ends included
abbrev pub is_within : ℕ → ℕ → ℕ → Bool
is_within low high b = nat_le low b && nat_le b high

-- a letter A to Z or a to z, or an underscore
abbrev pub is_letter : ℕ → Bool
is_letter b = is_within 65 90 b || is_within 97 122 b || b == 95

-- a digit 0 to 9
abbrev pub is_digit : ℕ → Bool
is_digit b = is_within 48 57 b

-- a byte that may stand inside a word
abbrev pub is_word_byte : ℕ → Bool
is_word_byte b = is_letter b || is_digit b

-- a space, a tab, a carriage return or a newline
abbrev pub is_space : ℕ → Bool
is_space b = b == 32 || b == 9 || b == 13 || b == 10
