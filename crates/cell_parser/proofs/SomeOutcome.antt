-- Tokens keep the limits or one is the first that breaks one, and they read to a source or have a first wrong place.
use Rattle.std.proofs.Common.{ℕ, ◌≡◌, ◌-◌, ◌<◌, ◌⊎◌, Bool, true, false, List, length, zero, suc, inl, inr, take, refl, sym, ap, ◌∙◌, subst, arith, None, Some, Option, Result, Ok, Err, slice_get, MatchOption}
use Rattle.std.proofs.lemmas.Bool.{cases_order}
use Rattle.cell_lexer.specs.Places.{line_at, column_at}
use Rattle.cell_lexer.specs.declared.token.Mark.TheVariants as M
use Rattle.cell_lexer.specs.declared.token.Sort.{Sort}
use Rattle.cell_lexer.specs.declared.token.Sort.TheVariants as S
use Rattle.cell_lexer.specs.declared.token.Token.{Token}
use Rattle.cell_tree.specs.declared.source.Source.{Source}
use Rattle.cell_parser.specs.FirstWrong.{FirstWrong}
use Rattle.cell_parser.specs.Grammar.{Reads}
use Rattle.cell_parser.specs.Lexeme.{lexemes}
use Rattle.cell_parser.specs.Limits.{parts, in_piece, open_in, Over, OverAt, KeepLimits, FirstOver}
use Rattle.cell_parser.specs.Inner.Machine.{run, start}
use Rattle.cell_parser.specs.Refusal.{HasPlace, WrongAt}
use Rattle.cell_parser.specs.declared.error.ParseError.{ParseError}
use Rattle.cell_parser.specs.declared.error.ParseError.TheVariants as E
use Rattle.cell_parser.proofs.Outcomes.{given_is_read, refused_is_first_wrong}
use Rattle.cell_parser.proofs.Overs.{all_kept}

-- The token is over one of the limits, or over none.
abbrev Limited : ℕ → ℕ → Token → Type 0
Limited piece braces t = ((e : ParseError) × Over piece braces t e) ⊎ ((e : ParseError) → Over piece braces t e → ⊥)

none_over : (piece braces : ℕ) (t : Token) → (parts t.sort ≡ false → piece ≡ 256 → ⊥) → (t.sort ≡ S.Mark M.OpenBrace → braces ≡ 17 → ⊥)
    → (e : ParseError) → Over piece braces t e → ⊥
none_over piece braces t f g (E.LongPiece l) o = f o.1 o.2
none_over piece braces t f g (E.Braces l) o = g o.1 o.2
none_over piece braces t f g (E.Unexpected l c) o = o
none_over piece braces t f g E.Memory o = o

tested : (b : Bool) → (b ≡ true) ⊎ (b ≡ false)
tested true = inl refl
tested false = inr refl

same_or_not : (m n : ℕ) → (m ≡ n) ⊎ (m ≡ n → ⊥)
same_or_not m n = elim (cases_order m n) as (λ _. (m ≡ n) ⊎ (m ≡ n → ⊥)) [
  | inl same ↦ inl same
  | inr (inl less) ↦ inr (λ e. omega (arith, e, less))
  | inr (inr more) ↦ inr (λ e. omega (arith, e, more))
]

opens : (s : Sort) → (s ≡ S.Mark M.OpenBrace) ⊎ (s ≡ S.Mark M.OpenBrace → ⊥)
opens (S.Mark M.OpenBrace) = inl refl
opens (S.Mark m) = inr (λ e. cc)
opens S.Name = inr (λ e. cc)
opens (S.Number n) = inr (λ e. cc)
opens (S.Key key) = inr (λ e. cc)

brace_no_piece : (s : Sort) → s ≡ S.Mark M.OpenBrace → parts s ≡ false → ⊥
brace_no_piece s e h = let yes : parts s ≡ true = ap parts e in cc

over_braces : (piece braces : ℕ) (t : Token) → parts t.sort ≡ true → (t.sort ≡ S.Mark M.OpenBrace) ⊎ (t.sort ≡ S.Mark M.OpenBrace → ⊥)
    → (braces ≡ 17) ⊎ (braces ≡ 17 → ⊥) → Limited piece braces t
over_braces piece braces t p (inl open_brace) (inl full) = inl (E.Braces t.line, (refl, open_brace, full))
over_braces piece braces t p (inl open_brace) (inr room) = inr (none_over piece braces t (λ h _. let x : true ≡ false = sym p ∙ h in cc) (λ _ full. room full))
over_braces piece braces t p (inr other) _ = inr (none_over piece braces t (λ h _. let x : true ≡ false = sym p ∙ h in cc) (λ e _. other e))

over_piece : (piece braces : ℕ) (t : Token) → parts t.sort ≡ false → (piece ≡ 256) ⊎ (piece ≡ 256 → ⊥) → Limited piece braces t
over_piece piece braces t p (inl full) = inl (E.LongPiece t.line, (refl, p, full))
over_piece piece braces t p (inr room) = inr (none_over piece braces t (λ _ full. room full) (λ e _. brace_no_piece t.sort e p))

over_or_not : (piece braces : ℕ) (t : Token) → Limited piece braces t
over_or_not piece braces t = elim (tested (parts t.sort)) as (λ _. Limited piece braces t) [
  | inl no_piece ↦ over_braces piece braces t no_piece (opens t.sort) (same_or_not braces 17)
  | inr in_one ↦ over_piece piece braces t in_one (same_or_not piece 256)
]

-- Where a token stands, if any does, it is over a limit or over none.
abbrev LimitedIn : Option Token → ℕ → ℕ → Type 0
LimitedIn o piece braces =
    ((e : ParseError) × MatchOption o ⊥ (λ t. Over piece braces t e)) ⊎ ((e : ParseError) → MatchOption o ⊥ (λ t. Over piece braces t e) → ⊥)

over_in : (o : Option Token) (piece braces : ℕ) → LimitedIn o piece braces
over_in None piece braces = inr (λ e h. h)
over_in (Some t) piece braces = over_or_not piece braces t

over_at : (ts : List Token) (at : ℕ) → ((e : ParseError) × OverAt ts at e) ⊎ ((e : ParseError) → OverAt ts at e → ⊥)
over_at ts at = over_in (slice_get ts at) (in_piece (take at ts)) (open_in (take at ts))

-- Before a place no token breaks a limit.
abbrev KeptBefore : List Token → ℕ → Type 0
KeptBefore ts n = (k : ℕ) (e : ParseError) → k < n → OverAt ts k e → ⊥

kept_one_more : (ts : List Token) (n : ℕ) → KeptBefore ts n → ((e : ParseError) → OverAt ts n e → ⊥) → KeptBefore ts (suc n)
kept_one_more ts n kept here k e less over = elim (cases_order k n) as (λ _. ⊥) [
  | inl same ↦ here e (subst (λ j. OverAt ts j e) same over)
  | inr (inl before) ↦ kept k e before over
  | inr (inr past) ↦ omega (arith, less, past)
]

one_more : (ts : List Token) (n : ℕ) → KeptBefore ts n ⊎ ((e : ParseError) × FirstOver ts e)
    → ((e : ParseError) × OverAt ts n e) ⊎ ((e : ParseError) → OverAt ts n e → ⊥) → KeptBefore ts (suc n) ⊎ ((e : ParseError) × FirstOver ts e)
one_more ts n (inr found) _ = inr found
one_more ts n (inl kept) (inl over) = inr (over.0, record { at = n; over = over.1; first = kept })
one_more ts n (inl kept) (inr here) = inl (kept_one_more ts n kept here)

first_over : (ts : List Token) (n : ℕ) → KeptBefore ts n ⊎ ((e : ParseError) × FirstOver ts e)
first_over ts zero = inl (λ k e less over. omega (arith, less))
first_over ts (suc n) = one_more ts n (first_over ts n) (over_at ts n)

-- Tokens keep the limits, or one is the first that breaks one.
pub kept_or_over : (ts : List Token) → KeepLimits ts ⊎ ((e : ParseError) × FirstOver ts e)
kept_or_over ts = elim (first_over ts (length ts)) as (λ _. KeepLimits ts ⊎ ((e : ParseError) × FirstOver ts e)) [
  | inl kept ↦ inl (all_kept ts (length ts) (omega arith) kept)
  | inr found ↦ inr found
]

-- A token, or the end of the text, has a place.
record Placed (text : List ℕ) (o : Option Token) : Type 0 where
  line : ℕ
  column : ℕ
  stands : HasPlace text o line column

placed : (text : List ℕ) (o : Option Token) → Placed text o
placed text (Some t) = record { line = t.line; column = t.column; stands = (refl, refl) }
placed text None = record { line = line_at text (length text); column = column_at text (length text); stands = (refl, refl) }

-- What tokens come to.
abbrev Ends : List ℕ → List Token → Type 0
Ends text ts = ((s : Source) × Reads (lexemes text ts) s) ⊎ ((line : ℕ) × (column : ℕ) × WrongAt text ts line column)

wrong_at : (text : List ℕ) (ts : List Token) (at : ℕ) → KeepLimits ts → FirstWrong (lexemes text ts) at → Placed text (slice_get ts at) → Ends text ts
wrong_at text ts at kept wrong place = inr (place.line, place.column, record { kept = kept; at = at; wrong = wrong; stands = place.stands })

run_ends : (text : List ℕ) (ts : List Token) → KeepLimits ts → (r : Result Source ℕ) → run start (lexemes text ts) ≡ r → Ends text ts
run_ends text ts kept (Ok s) e = inl (s, given_is_read text ts s e)
run_ends text ts kept (Err left) e =
    wrong_at text ts (length ts - left) kept (refused_is_first_wrong text ts left e) (placed text (slice_get ts (length ts - left)))

-- Tokens that keep the limits read to a source or have a first wrong place.
pub read_or_wrong : (text : List ℕ) (ts : List Token) → KeepLimits ts → Ends text ts
read_or_wrong text ts kept = run_ends text ts kept (run start (lexemes text ts)) refl
