-- The tokens of a text.
use Rattle.std.specs.Prelude.{ℕ, ◌≡◌, ◌+◌, List, [], ◌∷◌, length, take, drop}
use Rattle.cell_lexer.specs.declared.token.Token.{Token}
use Rattle.cell_lexer.specs.Forms.{Longest, Says}
use Rattle.cell_lexer.specs.Gaps.{Gap}
use Rattle.cell_lexer.specs.Places.{line_at, column_at}

-- The token has the longest form at its place, says what its bytes say, and has its place's line and column.
pub record IsToken (text : List ℕ) (t : Token) : Type 0 where
  pub longest : Longest (drop t.at text) t.len
  pub says : Says (take t.len (drop t.at text)) t.sort
  pub line : t.line ≡ line_at text t.at
  pub column : t.column ≡ column_at text t.at

-- Between two places of the text stand just these tokens, with gaps before, between and after them.
abbrev pub Stand : List ℕ → ℕ → List Token → ℕ → Type 0
Stand text from [] to = Gap (drop from text) (drop to text)
Stand text from (t ∷ ts) to = Gap (drop from text) (drop t.at text) × IsToken text t × Stand text (t.at + t.len) ts to

-- These are the tokens of the whole text.
abbrev pub TokensOf : List ℕ → List Token → Type 0
TokensOf text ts = Stand text 0 ts (length text)
