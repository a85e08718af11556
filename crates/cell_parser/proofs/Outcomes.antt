-- What the answer of a run over the tokens of a text says of the grammar.
use Rattle.std.proofs.Common.{◌≡◌, ℕ, ◌-◌, ◌≤◌, List, [], ◌∷◌, length, suc, Ok, Err, refl, ap, subst}
use Rattle.cell_lexer.specs.declared.token.Token.{Token}
use Rattle.cell_tree.specs.declared.source.Source.{Source}
use Rattle.cell_parser.specs.FirstWrong.{FirstWrong}
use Rattle.cell_parser.specs.Grammar.{Reads}
use Rattle.cell_parser.specs.Lexeme.{lexemes}
use Rattle.cell_parser.specs.Inner.Machine.{run, start}
use Rattle.cell_parser.proofs.Backward.{backward}
use Rattle.cell_parser.proofs.FirstWrongs.{first_wrong, left_within, no_source, one_source}

-- A text has as many lexemes as tokens.
pub lexemes_length : (text : List ℕ) (tokens : List Token) → length (lexemes text tokens) ≡ length tokens
lexemes_length text [] = refl
lexemes_length text (t ∷ tokens) = ap suc (lexemes_length text tokens)

module _ (text : List ℕ) (tokens : List Token) where
  -- A source that the run gives is read from the tokens.
  pub given_is_read : (s : Source) → run start (lexemes text tokens) ≡ Ok s → Reads (lexemes text tokens) s
  given_is_read s h = backward (lexemes text tokens) s h

  -- It is the only one.
  pub given_is_only : (s t : Source) → run start (lexemes text tokens) ≡ Ok s → Reads (lexemes text tokens) t → s ≡ t
  given_is_only s t h r = one_source (lexemes text tokens) s t (given_is_read s h) r

  -- Where the run gives none, none is read from the tokens.
  pub refused_is_none : (left : ℕ) (s : Source) → run start (lexemes text tokens) ≡ Err left → Reads (lexemes text tokens) s → ⊥
  refused_is_none left s h r = no_source (lexemes text tokens) left h s r

  -- The tokens that the run leaves are some of them.
  pub refused_within : (left : ℕ) → run start (lexemes text tokens) ≡ Err left → left ≤ length tokens
  refused_within left h = subst (λ n. left ≤ n) (lexemes_length text tokens) (left_within (lexemes text tokens) left h)

  -- The first of them, or the end, is the first wrong place.
  pub refused_is_first_wrong : (left : ℕ) → run start (lexemes text tokens) ≡ Err left
      → FirstWrong (lexemes text tokens) (length tokens - left)
  refused_is_first_wrong left h =
      subst (λ n. FirstWrong (lexemes text tokens) (n - left)) (lexemes_length text tokens) (first_wrong (lexemes text tokens) left h)
