-- The first token that breaks a limit.
use Rattle.std.proofs.Common.{ℕ, ◌≡◌, ◌+◌, ◌<◌, ◌≤◌, inl, inr, true, false, List, ◌∷◌, None, Some, length, take, reverse, slice_get, MatchOption, sym, ap, subst, ◌∙◌, arith}
use Rattle.std.proofs.Math.Nat.{eq-or-lt_of_le}
use Rattle.std.proofs.lemmas.Bool.{cases_order}
use Rattle.std.proofs.lemmas.List.{take_more, reverse-append}
use Rattle.std.proofs.lemmas.Option.{slice_get_within, get_or_from_slice_get, slice_get_past}
use Rattle.cell_lexer.specs.declared.token.Token.{Token}
use Rattle.cell_parser.specs.declared.error.ParseError.{ParseError}
use Rattle.cell_parser.specs.declared.error.ParseError.TheVariants as E
use Rattle.cell_parser.specs.Limits.{parts, piece_after, unparted, in_piece, braces_after, open_back, open_in, Over, OverAt, KeepLimits, FirstOver}

turned : (ts : List Token) (at : ℕ) (t : Token) → slice_get ts at ≡ Some t → reverse (take (at + 1) ts) ≡ t ∷ reverse (take at ts)
turned ts at t e =
    let lt = slice_get_within ts at t e in
    ap reverse (take_more ts at t lt) ∙ reverse-append (take at ts) _ ∙ ap (λ u. u ∷ reverse (take at ts)) (get_or_from_slice_get ts at t t e)

-- the counts after one more token
pub piece_more : (ts : List Token) (at : ℕ) (t : Token) → slice_get ts at ≡ Some t → in_piece (take (at + 1) ts) ≡ piece_after t.sort (in_piece (take at ts))
piece_more ts at t e = ap unparted (turned ts at t e)

pub open_more : (ts : List Token) (at : ℕ) (t : Token) → slice_get ts at ≡ Some t → open_in (take (at + 1) ts) ≡ braces_after t.sort (open_in (take at ts))
open_more ts at t e = ap open_back (turned ts at t e)

-- one more token breaks no limit
pub kept_more : (ts : List Token) (at : ℕ) (t : Token) → slice_get ts at ≡ Some t → ((k : ℕ) (e : ParseError) → k < at → OverAt ts k e → ⊥)
    → ((e : ParseError) → Over (in_piece (take at ts)) (open_in (take at ts)) t e → ⊥)
    → (k : ℕ) (e : ParseError) → k < at + 1 → OverAt ts k e → ⊥
kept_more ts at t is before here k e lt over =
    let le : k ≤ at = omega arith in
    elim (eq-or-lt_of_le le) as (λ _. ⊥) [
      | inl same ↦ here e (subst (λ o. MatchOption o ⊥ (λ u. Over (in_piece (take at ts)) (open_in (take at ts)) u e)) is (subst (λ n. OverAt ts n e) same over))
      | inr less ↦ before k e less over
    ]

past : (ts : List Token) (at : ℕ) (e : ParseError) → length ts ≤ at → OverAt ts at e → ⊥
past ts at e le over = subst (λ o. MatchOption o ⊥ (λ u. Over (in_piece (take at ts)) (open_in (take at ts)) u e)) (slice_get_past ts at le) over

-- where no place in the list breaks a limit, none does
pub all_kept : (ts : List Token) (n : ℕ) → length ts ≤ n → ((k : ℕ) (e : ParseError) → k < n → OverAt ts k e → ⊥) → KeepLimits ts
all_kept ts n le kept at e over = elim (cases_order at n) as (λ _. ⊥) [
  | inl same ↦ past ts at e (omega arith) over
  | inr (inl less) ↦ kept at e less over
  | inr (inr more) ↦ past ts at e (omega arith) over
]

-- a token breaks one limit
one_over : (piece braces : ℕ) (t : Token) (e f : ParseError) → Over piece braces t e → Over piece braces t f → e ≡ f
one_over piece braces t (E.LongPiece l) (E.LongPiece m) a b = ap (λ n. E.LongPiece n) (a.0 ∙ sym b.0)
one_over piece braces t (E.Braces l) (E.Braces m) a b = ap (λ n. E.Braces n) (a.0 ∙ sym b.0)
one_over piece braces t (E.LongPiece l) (E.Braces m) a b = let x : true ≡ false = sym (ap parts b.1) ∙ a.1 in cc
one_over piece braces t (E.Braces l) (E.LongPiece m) a b = let x : true ≡ false = sym (ap parts a.1) ∙ b.1 in cc
one_over piece braces t (E.Unexpected l c) f a b = absurd a
one_over piece braces t E.Memory f a b = absurd a
one_over piece braces t e (E.Unexpected l c) a b = absurd b
one_over piece braces t e E.Memory a b = absurd b

one_over_at : (ts : List Token) (at : ℕ) (e f : ParseError) → OverAt ts at e → OverAt ts at f → e ≡ f
one_over_at ts at e f a b =
    elim (slice_get ts at) as (λ o. MatchOption o ⊥ (λ u. Over (in_piece (take at ts)) (open_in (take at ts)) u e) → MatchOption o ⊥ (λ u. Over (in_piece (take at ts)) (open_in (take at ts)) u f) → e ≡ f) [
      | None ↦ λ x y. absurd x
      | Some t ↦ λ x y. one_over (in_piece (take at ts)) (open_in (take at ts)) t e f x y
    ] a b

-- one token at most is the first that breaks a limit
pub one_first_over : (ts : List Token) (e f : ParseError) → FirstOver ts e → FirstOver ts f → e ≡ f
one_first_over ts e f a b = elim (cases_order a.at b.at) as (λ _. e ≡ f) [
  | inl same ↦ one_over_at ts b.at e f (subst (λ n. OverAt ts n e) same a.over) b.over
  | inr (inl less) ↦ absurd (b.first a.at e less a.over)
  | inr (inr more) ↦ absurd (a.first b.at f more b.over)
]
