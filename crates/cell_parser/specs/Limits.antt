-- The limits on the tokens of a text: how long a piece is, and how many braces are open.
--
-- A piece is a longest run of tokens without `;`, `{` and `}`.
use Rattle.std.specs.Prelude.{ℕ, ◌≡◌, ◌+◌, ◌-◌, ◌<◌, Bool, true, false, List, [], ◌∷◌, take, reverse, slice_get, MatchOption, if◌then◌else◌}
use Rattle.cell_lexer.specs.declared.limits.TheConstants.{PIECE_TOKENS, OPEN_BRACES}
use Rattle.cell_lexer.specs.declared.token.Mark.TheVariants as M
use Rattle.cell_lexer.specs.declared.token.Sort.{Sort}
use Rattle.cell_lexer.specs.declared.token.Sort.TheVariants as S
use Rattle.cell_lexer.specs.declared.token.Token.{Token}
use Rattle.cell_parser.specs.declared.error.ParseError.{ParseError}
use Rattle.cell_parser.specs.declared.error.ParseError.TheVariants as E

-- whether a token of this sort stands in no piece
abbrev pub parts : Sort → Bool
parts (S.Mark M.Semicolon) = true
parts (S.Mark M.OpenBrace) = true
parts (S.Mark M.CloseBrace) = true
parts _ = false

-- how many tokens stand before the first one that stands in no piece
abbrev pub unparted : List Token → ℕ
unparted [] = 0
unparted (t ∷ ts) = if parts t.sort then 0 else (1 + unparted ts)

-- how many tokens at the end of these are of one piece
abbrev pub in_piece : List Token → ℕ
in_piece ts = unparted (reverse ts)

-- how many they are after one more token, where there are this many before it
abbrev pub piece_after : Sort → ℕ → ℕ
piece_after sort n = if parts sort then 0 else (1 + n)

-- the open braces after a token, where this many are open before it: a closing one where none is open counts for
-- nothing
abbrev pub braces_after : Sort → ℕ → ℕ
braces_after (S.Mark M.OpenBrace) n = n + 1
braces_after (S.Mark M.CloseBrace) n = n - 1
braces_after _ n = n

-- the open braces after tokens, the last of which comes first
abbrev pub open_back : List Token → ℕ
open_back [] = 0
open_back (t ∷ before) = braces_after t.sort (open_back before)

-- the open braces after tokens
abbrev pub open_in : List Token → ℕ
open_in ts = open_back (reverse ts)

-- The token is one too many in its piece, or an opening brace where the most braces are open, and is refused so: this
-- many tokens of its piece stand before it, and this many braces are open.
abbrev pub Over : ℕ → ℕ → Token → ParseError → Type 0
Over piece open_braces t (E.LongPiece line) = (line ≡ t.line) × (parts t.sort ≡ false) × (piece ≡ PIECE_TOKENS)
Over piece open_braces t (E.Braces line) = (line ≡ t.line) × (t.sort ≡ S.Mark M.OpenBrace) × (open_braces ≡ OPEN_BRACES)
Over piece open_braces t _ = ⊥

-- The token at a place breaks a limit, and is refused so.
abbrev pub OverAt : List Token → ℕ → ParseError → Type 0
OverAt ts at e = MatchOption (slice_get ts at) ⊥ (λ t. Over (in_piece (take at ts)) (open_in (take at ts)) t e)

-- No token breaks a limit.
abbrev pub KeepLimits : List Token → Type 0
KeepLimits ts = (at : ℕ) (e : ParseError) → OverAt ts at e → ⊥

-- The first token that breaks a limit is refused so.
pub record FirstOver (ts : List Token) (e : ParseError) : Type 0 where
  pub at : ℕ
  pub over : OverAt ts at e
  pub first : (k : ℕ) (f : ParseError) → k < at → OverAt ts k f → ⊥
