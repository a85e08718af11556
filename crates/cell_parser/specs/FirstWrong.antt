-- The first word that can't stand where it stands.
use Rattle.std.specs.Prelude.{ℕ, ◌≡◌, ◌+◌, ◌<◌, ◌≤◌, ◌++◌, List, length, take}
use Rattle.cell_tree.specs.declared.source.Source.{Source}
use Rattle.cell_parser.specs.Grammar.{Reads}
use Rattle.cell_parser.specs.Lexeme.{Lexeme}

-- Some source begins with these words.
abbrev pub Begins : List Lexeme → Type 0
Begins ts = (us : List Lexeme) × (s : Source) × Reads (ts ++ us) s

-- The words before a place begin a source, and the words up to and with the one at the place do not; the place after
-- the last word is wrong where the words are no source.
pub record FirstWrong (ts : List Lexeme) (at : ℕ) : Type 0 where
  pub within : at ≤ length ts
  pub before : Begins (take at ts)
  pub wrong : at < length ts → Begins (take (at + 1) ts) → ⊥
  pub short : at ≡ length ts → (s : Source) → Reads ts s → ⊥
