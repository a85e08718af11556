-- What the parser answers, and nothing else, is right.
use Rattle.std.proofs.Common.{ℕ, ◌≡◌, ◌+◌, ◌≤◌, length, None, Some, take, MatchOption, Option, ◌⊎◌, inl, inr, List, [], ◌∷◌, Result, Ok, Err, IfOk, IfErr, MatchResult, sym, refl, subst, ◌∙◌, slice_get}
use Rattle.std.specs.List.{All}
use Rattle.std.proofs.lemmas.List.Elements.{All-head, All-tail}
use Rattle.cell_lexer.specs.declared.token.Token.{Token}
use Rattle.cell_lexer.specs.Tokens.{Stand}
use Rattle.cell_tree.specs.declared.source.Source.{Source}
use Rattle.cell_parser.specs.Grammar.{Reads}
use Rattle.cell_parser.specs.Lexeme.{lexemes}
use Rattle.cell_parser.specs.Limits.{Over, OverAt, KeepLimits, FirstOver, in_piece, open_in}
use Rattle.cell_parser.specs.Inner.Reading.{AreTokens}
use Rattle.cell_parser.specs.Refusal.{HasPlace, WrongAt, IsRefused}
use Rattle.cell_parser.specs.declared.error.ParseError.{ParseError}
use Rattle.cell_parser.specs.declared.error.ParseError.TheVariants as E
use Rattle.cell_parser.proofs.FirstWrongs.{one_first, none_wrong, one_source}
use Rattle.cell_parser.proofs.Overs.{one_first_over}

-- the token ends inside the text
abbrev pub Inside : List ℕ → Token → Type 0
Inside text t = t.at + t.len ≤ length text

-- each token stands in its text
pub each_stands : (text : List ℕ) (from to : ℕ) (ts : List Token) → All (Inside text) ts → Stand text from ts to → AreTokens text ts
unfolding AreTokens
each_stands text from to [] inside s = tt
each_stands text from to (t ∷ ts) inside s = (
  record { inside = All-head (Inside text) t ts inside; says = s.1.says },
  each_stands text (t.at + t.len) to ts (All-tail (Inside text) t ts inside) s.2,
)

-- No token is refused as one that can't stand where it stands for breaking a limit.
no_unexpected : (ts : List Token) (at l c : ℕ) → OverAt ts at (E.Unexpected l c) → ⊥
no_unexpected ts at l c =
    elim (slice_get ts at) as (λ o. MatchOption o ⊥ (λ t. Over (in_piece (take at ts)) (open_in (take at ts)) t (E.Unexpected l c)) → ⊥) [
      | None ↦ λ over. over
      | Some t ↦ λ over. over
    ]

-- A token, or the end of the text, has one place.
one_place : (text : List ℕ) (o : Option Token) (l c m d : ℕ) → HasPlace text o l c → HasPlace text o m d → E.Unexpected l c ≡ E.Unexpected m d
one_place text (Some t) l c m d p q = λ i. E.Unexpected ((p.0 ∙ sym q.0) i) ((p.1 ∙ sym q.1) i)
one_place text None l c m d p q = λ i. E.Unexpected ((p.0 ∙ sym q.0) i) ((p.1 ∙ sym q.1) i)

one_wrong : (text : List ℕ) (ts : List Token) (l c m d : ℕ) → WrongAt text ts l c → WrongAt text ts m d → E.Unexpected l c ≡ E.Unexpected m d
one_wrong text ts l c m d f g =
    let at : f.at ≡ g.at = one_first (lexemes text ts) f.at g.at f.wrong g.wrong in
    one_place text (slice_get ts g.at) l c m d (subst (λ n. HasPlace text (slice_get ts n) l c) at f.stands) g.stands

module _ (text : List ℕ) (ts : List Token) where
  -- A first token that breaks a limit refuses the tokens.
  pub over_refused : (e : ParseError) → FirstOver ts e → IsRefused text ts e
  over_refused (E.LongPiece l) f = f
  over_refused (E.Braces l) f = f
  over_refused (E.Unexpected l c) f = absurd (no_unexpected ts f.at l c f.over)
  over_refused E.Memory f = tt

  -- A source is given where there is one.
  pub only_read : (r : Result Source ParseError) → IfOk r (λ s. Reads (lexemes text ts) s × KeepLimits ts) → IfErr r (IsRefused text ts) → (s : Source) → Reads (lexemes text ts) s → KeepLimits ts → MatchResult r (λ t. t ≡ s) (λ e. e ≡ E.Memory)
  only_read (Ok t) read refused s r k = one_source (lexemes text ts) t s read.0 r
  only_read (Err (E.LongPiece l)) read f s r k = absurd (k f.at (E.LongPiece l) f.over)
  only_read (Err (E.Braces l)) read f s r k = absurd (k f.at (E.Braces l) f.over)
  only_read (Err (E.Unexpected l c)) read f s r k = absurd (none_wrong (lexemes text ts) s f.at r f.wrong)
  only_read (Err E.Memory) read f s r k = refl

  -- The first token that breaks a limit is found where there is one.
  pub only_over : (r : Result Source ParseError) → IfOk r (λ s. Reads (lexemes text ts) s × KeepLimits ts) → IfErr r (IsRefused text ts) → (f : ParseError) → FirstOver ts f → MatchResult r (λ _. ⊥) (λ e. (e ≡ f) ⊎ (e ≡ E.Memory))
  only_over (Ok t) read refused f o = read.1 o.at f o.over
  only_over (Err (E.LongPiece l)) read g f o = inl (one_first_over ts (E.LongPiece l) f g o)
  only_over (Err (E.Braces l)) read g f o = inl (one_first_over ts (E.Braces l) f g o)
  only_over (Err (E.Unexpected l c)) read g f o = absurd (g.kept o.at f o.over)
  only_over (Err E.Memory) read g f o = inr refl

  -- The first wrong place is found where there is one.
  pub only_wrong : (r : Result Source ParseError) → IfOk r (λ s. Reads (lexemes text ts) s × KeepLimits ts) → IfErr r (IsRefused text ts) → (l c : ℕ) → WrongAt text ts l c
      → MatchResult r (λ _. ⊥) (λ e. (e ≡ E.Unexpected l c) ⊎ (e ≡ E.Memory))
  only_wrong (Ok s) read refused l c w = none_wrong (lexemes text ts) s w.at read.0 w.wrong
  only_wrong (Err (E.LongPiece m)) read f l c w = absurd (w.kept f.at (E.LongPiece m) f.over)
  only_wrong (Err (E.Braces m)) read f l c w = absurd (w.kept f.at (E.Braces m) f.over)
  only_wrong (Err (E.Unexpected m d)) read f l c w = inl (one_wrong text ts m d l c f w)
  only_wrong (Err E.Memory) read f l c w = inr refl
