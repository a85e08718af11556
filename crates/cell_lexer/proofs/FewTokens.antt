-- The tokens of a text are no more than its bytes.
use Rattle.std.proofs.Common.{ℕ, ◌+◌, ◌≤◌, List, [], ◌∷◌, length, drop, arith, length-drop}
use Rattle.cell_lexer.specs.Gaps.{Comment, at_end, at_line, inside, Gap, none, space, comment}
use Rattle.cell_lexer.specs.declared.token.Token.{Token}
use Rattle.cell_lexer.specs.Tokens.{Stand, TokensOf}
use Rattle.cell_lexer.proofs.Standing.{token_some, token_inside}

comment_shorter : (bs rest : List ℕ) → Comment bs rest → length rest ≤ length bs
comment_shorter bs rest at_end = omega arith
comment_shorter bs rest (at_line e) = omega arith
comment_shorter bs rest (inside {bytes = more} n c) = omega (arith, comment_shorter more rest c)

gap_shorter : (bs rest : List ℕ) → Gap bs rest → length rest ≤ length bs
gap_shorter bs rest none = omega arith
gap_shorter bs rest (space {bytes = more} s g) = omega (arith, gap_shorter more rest g)
gap_shorter bs rest (comment {bytes = more} {between = between} e c g) = omega (arith, comment_shorter more between c, gap_shorter between rest g)

stand_few : (text : List ℕ) (from to : ℕ) (ts : List Token) → from ≤ length text → to ≤ length text → Stand text from ts to → from + length ts ≤ to
stand_few text from to [] le le' g = omega (arith, gap_shorter (drop from text) (drop to text) g, length-drop from text, length-drop to text, le, le')
stand_few text from to (t ∷ ts) le le' (g, is, rest) =
    let inside = token_inside text t is in
    let later = stand_few text (t.at + t.len) to ts inside le' rest in
    let gap = gap_shorter (drop from text) (drop t.at text) g in
    omega (arith, later, gap, token_some text t is, inside, length-drop from text, length-drop t.at text, le, le')

pub few_tokens : (text : List ℕ) (ts : List Token) → TokensOf text ts → length ts ≤ length text
few_tokens text ts stand = omega (arith, stand_few text 0 (length text) ts (omega arith) (omega arith) stand)
