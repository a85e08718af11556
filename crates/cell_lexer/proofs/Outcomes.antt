-- What follows where the answer is the outcome of the text.
use Rattle.std.proofs.Common.{ℕ, ◌≡◌, ◌+◌, ◌<◌, ◌≤◌, ◌⊎◌, List, length, inl, inr, refl, Result, Ok, Err}
use Rattle.std.specs.Prelude.{IfOk, IfErr, MatchResult, All}
use Rattle.std.proofs.lemmas.List.Elements.{All-weaker}
use Rattle.cell_lexer.specs.declared.error.LexError.{LexError}
use Rattle.cell_lexer.specs.declared.error.LexError.TheVariants as E
use Rattle.cell_lexer.specs.declared.token.Token.{Token}
use Rattle.cell_lexer.specs.Faults.{FirstFault}
use Rattle.cell_lexer.specs.Inner.Scanning.{IsFirst}
use Rattle.cell_lexer.specs.Tokens.{IsToken, TokensOf}
use Rattle.cell_lexer.proofs.OneOutcome.{one_tokens, one_first_fault, tokens_no_fault}
use Rattle.cell_lexer.proofs.Standing.{stand_each, token_some, token_inside}

pub first_cases : (text : List ℕ) (e : LexError) → IsFirst text e → FirstFault text e ⊎ (e ≡ E.Memory)
first_cases text (E.BadByte at) h = inl h
first_cases text (E.BigNumber line) h = inl h
first_cases text (E.LongName line) h = inl h
first_cases text E.Memory h = inr refl

-- V is what holds the tokens
module _ {V : Type 0} (items : V → List Token) (text : List ℕ) where
  pub only_tokens : (r : Result V LexError) → IfOk r (λ v. TokensOf text (items v)) → IfErr r (λ e. IsFirst text e) → (ts : List Token) → TokensOf text ts → MatchResult r (λ v. items v ≡ ts) (λ e. e ≡ E.Memory)
  only_tokens (Ok v) h g ts k = one_tokens text (items v) ts h k
  only_tokens (Err e) h g ts k = only_memory e (first_cases text e g)
    where
      only_memory : (e : LexError) → FirstFault text e ⊎ (e ≡ E.Memory) → e ≡ E.Memory
      only_memory e (inl f) = absurd (tokens_no_fault text ts e k f)
      only_memory e (inr m) = m

  pub only_fault : (r : Result V LexError) → IfOk r (λ v. TokensOf text (items v)) → IfErr r (λ e. IsFirst text e) → (f : LexError) → FirstFault text f → MatchResult r (λ _. ⊥) (λ e. (e ≡ f) ⊎ (e ≡ E.Memory))
  only_fault (Ok v) h g f k = tokens_no_fault text (items v) f h k
  only_fault (Err e) h g f k = same (first_cases text e g)
    where
      same : FirstFault text e ⊎ (e ≡ E.Memory) → (e ≡ f) ⊎ (e ≡ E.Memory)
      same (inl p) = inl (one_first_fault text e f p k)
      same (inr m) = inr m

pub each_token : (text : List ℕ) (ts : List Token) → TokensOf text ts → All (IsToken text) ts
each_token text ts h = stand_each text 0 (length text) ts h

pub each_some : (text : List ℕ) (ts : List Token) → TokensOf text ts → All (λ t. 0 < t.len) ts
each_some text ts h = All-weaker (IsToken text) (λ t. 0 < t.len) (token_some text) ts (each_token text ts h)

pub each_inside : (text : List ℕ) (ts : List Token) → TokensOf text ts → All (λ t. t.at + t.len ≤ length text) ts
each_inside text ts h = All-weaker (IsToken text) (λ t. t.at + t.len ≤ length text) (token_inside text) ts (each_token text ts h)
