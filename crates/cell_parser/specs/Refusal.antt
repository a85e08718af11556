-- Why the tokens of a text are no source, or are refused.
use Rattle.std.specs.Prelude.{ℕ, ◌≡◌, List, length, Option, Some, None, slice_get}
use Rattle.cell_lexer.specs.declared.token.Token.{Token}
use Rattle.cell_lexer.specs.Places.{line_at, column_at}
use Rattle.cell_parser.specs.FirstWrong.{FirstWrong}
use Rattle.cell_parser.specs.Lexeme.{lexemes}
use Rattle.cell_parser.specs.Limits.{KeepLimits, FirstOver}
use Rattle.cell_parser.specs.declared.error.ParseError.{ParseError}
use Rattle.cell_parser.specs.declared.error.ParseError.TheVariants as E

-- The line and the column are those of the token, or of the end of the text where there is none.
abbrev pub HasPlace : List ℕ → Option Token → ℕ → ℕ → Type 0
HasPlace text (Some t) line column = (line ≡ t.line) × (column ≡ t.column)
HasPlace text None line column = (line ≡ line_at text (length text)) × (column ≡ column_at text (length text))

-- No token breaks a limit, and the first one that can't stand where it stands, or the end, has this line and this
-- column.
pub record WrongAt (text : List ℕ) (ts : List Token) (line column : ℕ) : Type 0 where
  pub kept : KeepLimits ts
  pub at : ℕ
  pub wrong : FirstWrong (lexemes text ts) at
  pub stands : HasPlace text (slice_get ts at) line column

-- The error is what is wrong with the tokens of the text, or memory ran out.
abbrev pub IsRefused : List ℕ → List Token → ParseError → Type 0
IsRefused text ts (E.LongPiece line) = FirstOver ts (E.LongPiece line)
IsRefused text ts (E.Braces line) = FirstOver ts (E.Braces line)
IsRefused text ts (E.Unexpected line column) = WrongAt text ts line column
IsRefused text ts E.Memory = Unit {0}
