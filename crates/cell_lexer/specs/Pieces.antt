-- Texts that are joined of words and of the gaps before them.
use Rattle.std.specs.Prelude.{ℕ, ◌≡◌, ◌+◌, ◌==◌, ◌++◌, Bool, false, List, [], ◌∷◌, length, take, drop, map, count_by, IsTrue}
use Rattle.sys_base.specs.Bytes.{is_digit, is_word_byte, is_space}
use Rattle.cell_lexer.specs.declared.token.Mark.{Mark}
use Rattle.cell_lexer.specs.declared.token.Mark.TheVariants as M
use Rattle.cell_lexer.specs.declared.token.Sort.{Sort}
use Rattle.cell_lexer.specs.declared.token.Sort.TheVariants as S
use Rattle.cell_lexer.specs.declared.token.Token.{Token}
use Rattle.cell_lexer.specs.Forms.{Says}
use Rattle.cell_lexer.specs.Places.{line_at, column_at}

-- a word of a text, the gap before it, and what the word says
pub record Piece : Type 0 where
  pub gap : List ℕ
  pub word : List ℕ
  pub sort : Sort

-- the text of the pieces and of what stands after them
abbrev pub text_of : List Piece → List ℕ → List ℕ
text_of [] last = last
text_of (p ∷ ps) last = p.gap ++ (p.word ++ text_of ps last)

-- whether a byte after a mark makes another mark of it
abbrev pub prolongs_mark : Mark → ℕ → Bool
prolongs_mark M.Assign b = b == 61
prolongs_mark M.Less b = b == 61
prolongs_mark _ b = false

-- whether a byte after a word may make the word longer
abbrev pub prolongs : Sort → ℕ → Bool
prolongs S.Name b = is_word_byte b
prolongs (S.Number n) b = is_digit b
prolongs (S.Key key) b = is_word_byte b
prolongs (S.Mark m) b = prolongs_mark m b

-- No byte follows, or the byte that follows does not make the word longer.
abbrev pub Separate : Sort → List ℕ → Type 0
Separate sort [] = Unit {0}
Separate sort (b ∷ bytes) = prolongs sort b ≡ false

-- Each byte is a separator.
abbrev pub Blank : List ℕ → Type 0
Blank [] = Unit {0}
Blank (b ∷ bytes) = IsTrue (is_space b) × Blank bytes

-- Each gap is blank, each word says its sort, and nothing after a word makes it longer.
abbrev pub Legible : List Piece → List ℕ → Type 0
Legible [] last = Blank last
Legible (p ∷ ps) last = Blank p.gap × Says p.word p.sort × Separate p.sort (text_of ps last) × Legible ps last

-- the token of a word at a place of a text
abbrev pub token_of : List ℕ → ℕ → Piece → Token
token_of text at p =
    record { sort = p.sort; at = at; len = length p.word; line = line_at text at; column = column_at text at }

-- the tokens of pieces, where the first piece begins with its gap at a place of the text
abbrev pub placed : List ℕ → ℕ → List Piece → List Token
placed text from [] = []
placed text from (p ∷ ps) = token_of text (from + length p.gap) p ∷ placed text (from + length p.gap + length p.word) ps

-- what tokens are, and their bytes
pub record Word : Type 0 where
  pub sort : Sort
  pub bytes : List ℕ

abbrev pub words_of : List ℕ → List Token → List Word
words_of text ts = map (λ (t : Token). record { sort = t.sort; bytes = take t.len (drop t.at text) }) ts

-- what pieces are, and their words
abbrev pub words_in : List Piece → List Word
words_in ps = map (λ (p : Piece). record { sort = p.sort; bytes = p.word }) ps

-- the lines of the words of pieces, where the first piece begins with its gap on a line
abbrev pub lines_from : ℕ → List Piece → List ℕ
lines_from line [] = []
lines_from line (p ∷ ps) = (line + count_by (λ b. b == 10) p.gap) ∷ lines_from (line + count_by (λ b. b == 10) p.gap) ps
