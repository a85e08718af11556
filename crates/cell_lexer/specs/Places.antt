-- The lines and columns of a text.
use Rattle.std.specs.Prelude.{ℕ, ◌+◌, ◌==◌, List, [], ◌∷◌, take, reverse, count_by, if◌then◌else◌}

-- the line of a place: one more than the newlines before it
abbrev pub line_at : List ℕ → ℕ → ℕ
line_at text at = 1 + count_by (λ b. b == 10) (take at text)

-- how many bytes stand before the first newline
abbrev pub before_newline : List ℕ → ℕ
before_newline [] = 0
before_newline (b ∷ bytes) = if b == 10 then 0 else (1 + before_newline bytes)

-- the column of a place: one more than the bytes from the last newline before it up to it
abbrev pub column_at : List ℕ → ℕ → ℕ
column_at text at = 1 + before_newline (reverse (take at text))
