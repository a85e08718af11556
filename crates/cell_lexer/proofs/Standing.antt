-- One more token.
use Rattle.std.proofs.Common.{ℕ, ◌+◌, ◌<◌, ◌≤◌, List, [], ◌∷◌, ◌++◌, length, drop}
use Rattle.std.specs.List.{All}
use Rattle.std.proofs.lemmas.List.Elements.{All-nil, All-cons}
use Rattle.cell_lexer.specs.declared.token.Token.{Token}
use Rattle.cell_lexer.specs.Gaps.{Gap}
use Rattle.cell_lexer.specs.Tokens.{IsToken, Stand}
use Rattle.cell_lexer.proofs.OneForm.{front_of}
use Rattle.cell_lexer.proofs.TextLines.{token_within}

pub stand_more : (text : List ℕ) (from to : ℕ) (ts : List Token) (t : Token) → Stand text from ts t.at → IsToken text t → Gap (drop (t.at + t.len) text) (drop to text) → Stand text from (ts ++ t ∷ []) to
stand_more text from to [] t h k g = (h, k, g)
stand_more text from to (u ∷ us) t h k g = (h.0, h.1, stand_more text (u.at + u.len) to us t h.2 k g)

-- each of the tokens that stand between two places is one
pub stand_each : (text : List ℕ) (from to : ℕ) (ts : List Token) → Stand text from ts to → All (IsToken text) ts
stand_each text from to [] h = All-nil (IsToken text)
stand_each text from to (t ∷ ts) h = All-cons (IsToken text) t ts h.1 (stand_each text (t.at + t.len) to ts h.2)

pub token_some : (text : List ℕ) (t : Token) → IsToken text t → 0 < t.len
token_some text t k = (front_of _ _ k.longest).some

pub token_inside : (text : List ℕ) (t : Token) → IsToken text t → t.at + t.len ≤ length text
token_inside text t k = token_within text t.at t.len k.longest
