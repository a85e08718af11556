-- The forms of tokens, and what their bytes say.
use Rattle.std.specs.Prelude.{ℕ, ◌≡◌, ◌+◌, ◌-◌, ◌*◌, ◌<◌, ◌≤◌, List, [], ◌∷◌, length, take, codes, IsTrue, slice_index, EachIndex}
use Rattle.sys_base.specs.Bytes.{is_digit}
use Rattle.sys_base.specs.Key.{key_text}
use Rattle.sys_base.specs.Name.{IsWord, IsName}
use Rattle.cell_lexer.specs.declared.limits.TheConstants.{GREATEST_NUMBER}
use Rattle.cell_lexer.specs.declared.token.Mark.{Mark}
use Rattle.cell_lexer.specs.declared.token.Mark.TheVariants as M
use Rattle.cell_lexer.specs.declared.token.Sort.{Sort}
use Rattle.cell_lexer.specs.declared.token.Sort.TheVariants as S

-- how a mark is spelt
abbrev pub mark_text : Mark → List ℕ
mark_text M.OpenBrace = codes "{"
mark_text M.CloseBrace = codes "}"
mark_text M.OpenBracket = codes "["
mark_text M.CloseBracket = codes "]"
mark_text M.OpenParen = codes "("
mark_text M.CloseParen = codes ")"
mark_text M.Semicolon = codes ";"
mark_text M.Dot = codes "."
mark_text M.Assign = codes "="
mark_text M.Same = codes "=="
mark_text M.Differ = codes "!="
mark_text M.Less = codes "<"
mark_text M.AtMost = codes "<="
mark_text M.Plus = codes "+"
mark_text M.Minus = codes "-"
mark_text M.Star = codes "*"
mark_text M.Slash = codes "/"
mark_text M.Percent = codes "%"

-- The bytes are digits 0 to 9, at least one.
pub record IsDigits (bytes : List ℕ) : Type 0 where
  pub some : 0 < length bytes
  pub each : EachIndex bytes (λ k. IsTrue (is_digit (slice_index bytes k)))

-- the number that digits go on to spell after a number
abbrev pub value_after : ℕ → List ℕ → ℕ
value_after n [] = n
value_after n (b ∷ bytes) = value_after (10 * n + (b - 48)) bytes

-- the number that digits spell
abbrev pub value : List ℕ → ℕ
value bytes = value_after 0 bytes

-- the greatest number of the language
abbrev pub greatest : ℕ
greatest = GREATEST_NUMBER

-- The bytes have the form of a token: a word, digits or a mark.
pub data Form : List ℕ → Type 0 where
  word : {bytes : List ℕ} → IsWord bytes → Form bytes
  digits : {bytes : List ℕ} → IsDigits bytes → Form bytes
  mark : {bytes : List ℕ} (m : Mark) → bytes ≡ mark_text m → Form bytes

-- The first bytes, as many as this number, have the form of a token, and no longer front of the bytes has.
pub record Longest (bytes : List ℕ) (len : ℕ) : Type 0 where
  pub inside : len ≤ length bytes
  pub form : Form (take len bytes)
  pub longest : (k : ℕ) → len < k → k ≤ length bytes → Form (take k bytes) → ⊥

-- The bytes of a token say this: a name, a number by its value, a keyword or a mark.
abbrev pub Says : List ℕ → Sort → Type 0
Says bytes S.Name = IsName bytes
Says bytes (S.Number n) = IsDigits bytes × (value bytes ≡ n) × (n ≤ greatest)
Says bytes (S.Key key) = bytes ≡ key_text key
Says bytes (S.Mark m) = bytes ≡ mark_text m
