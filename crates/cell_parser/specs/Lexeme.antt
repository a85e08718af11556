-- What the grammar sees of tokens.
use Rattle.std.specs.Prelude.{ℕ, List, [], ◌∷◌, take, drop}
use Rattle.sys_base.specs.declared.key.Key.{Key}
use Rattle.cell_lexer.specs.declared.token.Mark.{Mark}
use Rattle.cell_lexer.specs.declared.token.Sort.{Sort}
use Rattle.cell_lexer.specs.declared.token.Sort.TheVariants as S
use Rattle.cell_lexer.specs.declared.token.Token.{Token}

-- what a token says: a name by its bytes, a number by its value, a keyword or a mark
pub data Word : Type 0 where
  Named : List ℕ → Word
  Numeral : ℕ → Word
  Keyword : Key → Word
  Marked : Mark → Word

-- a word and its line
pub data Lexeme : Type 0 where
  At : ℕ → Word → Lexeme

-- what a token of this sort says, where these are its bytes
abbrev pub word_of : List ℕ → Sort → Word
word_of bytes S.Name = Named bytes
word_of bytes (S.Number n) = Numeral n
word_of bytes (S.Key key) = Keyword key
word_of bytes (S.Mark mark) = Marked mark

-- what a token of a text says, and its line
abbrev pub lexeme : List ℕ → Token → Lexeme
lexeme text t = At t.line (word_of (take t.len (drop t.at text)) t.sort)

-- what the tokens of a text say, and their lines
abbrev pub lexemes : List ℕ → List Token → List Lexeme
lexemes text [] = []
lexemes text (t ∷ tokens) = lexeme text t ∷ lexemes text tokens
