-- What can be wrong in a text.
use Rattle.std.specs.Prelude.{ℕ, ◌≡◌, ◌<◌, List, length, take, drop, false, slice_index}
use Rattle.sys_base.specs.Bytes.{is_space}
use Rattle.sys_base.specs.Name.{IsWord}
use Rattle.sys_base.specs.declared.limits.TheConstants.{NAME_BYTES}
use Rattle.cell_lexer.specs.declared.error.LexError.{LexError}
use Rattle.cell_lexer.specs.declared.error.LexError.TheVariants as E
use Rattle.cell_lexer.specs.declared.token.Token.{Token}
use Rattle.cell_lexer.specs.Forms.{Form, Longest, IsDigits, value, greatest}
use Rattle.cell_lexer.specs.Places.{line_at}
use Rattle.cell_lexer.specs.Tokens.{Stand}

-- The first byte separates no tokens, begins no comment, and begins no token.
pub record IsBad (bytes : List ℕ) : Type 0 where
  pub no_space : is_space (slice_index bytes 0) ≡ false
  pub no_comment : slice_index bytes 0 ≡ 35 → ⊥
  pub no_token : (k : ℕ) → Form (take k bytes) → ⊥

-- The longest token here is a number above the greatest.
pub record IsBig (bytes : List ℕ) (len : ℕ) : Type 0 where
  pub longest : Longest bytes len
  pub digits : IsDigits (take len bytes)
  pub big : greatest < value (take len bytes)

-- The longest token here is a word of more bytes than a name has.
pub record IsLong (bytes : List ℕ) (len : ℕ) : Type 0 where
  pub longest : Longest bytes len
  pub word : IsWord (take len bytes)
  pub long : NAME_BYTES < len

-- This is what is wrong at a place of the text.
abbrev pub FaultAt : List ℕ → ℕ → LexError → Type 0
FaultAt text at (E.BadByte place) = (place ≡ at) × IsBad (drop at text)
FaultAt text at (E.BigNumber line) = (line ≡ line_at text at) × (len : ℕ) × IsBig (drop at text) len
FaultAt text at (E.LongName line) = (line ≡ line_at text at) × (len : ℕ) × IsLong (drop at text) len
FaultAt text at E.Memory = ⊥

-- Up to some place the text has tokens, and there this is wrong.
abbrev pub FirstFault : List ℕ → LexError → Type 0
FirstFault text e = (ts : List Token) × (at : ℕ) × (at < length text) × Stand text 0 ts at × FaultAt text at e
