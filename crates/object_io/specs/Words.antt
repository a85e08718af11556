-- The words of a line.
use Rattle.std.specs.Prelude.{ℕ, ◌<◌, List, All}

-- No byte of a word is a space, a newline or below one.
abbrev pub IsWord : List ℕ → Type 0
IsWord = All (λ b. 32 < b)
