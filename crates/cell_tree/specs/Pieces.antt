-- A text as a list of tokens, each with the white space before it.
use Rattle.std.specs.Prelude.{ℕ, ◌*◌, List, [], ◌∷◌, ◌++◌, codes, map, replicate}
use Rattle.std.specs.List.{flat_map}
use Rattle.cell_lexer.specs.Forms.{mark_text}
use Rattle.cell_lexer.specs.declared.token.Mark.TheVariants as M

-- a token and the white space before it
pub record Piece : Type 0 where
  pub gap : List ℕ
  pub word : List ℕ

-- the text of some pieces
abbrev pub joined : List Piece → List ℕ
joined = flat_map (λ piece. piece.gap ++ piece.word)

-- the tokens of some pieces
abbrev pub words_of : List Piece → List (List ℕ)
words_of = map (λ piece. piece.word)

-- one token after this white space
abbrev pub after : List ℕ → List ℕ → List Piece
after gap word = record { gap = gap; word = word } ∷ []

-- nothing between two tokens
abbrev pub none : List ℕ
none = []

-- one space between two tokens
abbrev pub space : List ℕ
space = codes " "

-- some pieces in brackets
abbrev pub bracketed : List Piece → List Piece
bracketed inner = after none (mark_text M.OpenBracket) ++ inner ++ after none (mark_text M.CloseBracket)

-- a new line, indented by two spaces for each open block
abbrev pub line : ℕ → List ℕ
line depth = codes "\n" ++ replicate (2 * depth) 32
