-- When the words of a text, each with its white space, are legible, and that its tokens then say them.
use Rattle.std.proofs.Common.{◌≡◌, ℕ, ◌*◌, ◌≤◌, ◌++◌, ◌==◌, Bool, true, false, ◌||◌, IsTrue, List, [], ◌∷◌, map, refl, sym, subst, ap, ◌∙◌, append_assoc}
use Rattle.std.specs.Fmt.{decimal}
use Rattle.std.specs.Prelude.{codes, zero, suc, if◌then◌else◌}
use Rattle.std.proofs.Math.ListN.{replicate}
use Rattle.sys_base.specs.Bytes.{is_space, is_digit, is_word_byte}
use Rattle.sys_base.specs.Name.{IsName}
use Rattle.cell_lexer.specs.Forms.{Says, greatest}
use Rattle.cell_lexer.specs.Pieces.{Piece as LexedPiece, Word as LexedWord, text_of, prolongs, prolongs_mark, Separate, Blank, Legible, placed, words_of, words_in}
use Rattle.cell_lexer.specs.declared.token.Mark.{Mark}
use Rattle.cell_lexer.specs.declared.token.Mark.TheVariants as M
use Rattle.cell_lexer.specs.declared.token.Sort.{Sort}
use Rattle.cell_lexer.specs.declared.token.Sort.TheVariants as S
use Rattle.cell_lexer.specs.declared.token.Token.{Token}
use Rattle.cell_tree.specs.Pieces.{joined, line}
use Rattle.cell_parser.specs.Lexeme.{Word, Named, Numeral, Keyword, Marked, word_of, lexemes}
use Rattle.cell_parser.specs.Printed.{Covers, covers_none, covers_next}
use Rattle.cell_parser.specs.Inner.Told.{Told, Tell, spelling, told_word, told_piece}

-- the sort of a word
abbrev pub told_sort : Word → Sort
told_sort (Named n) = S.Name
told_sort (Numeral n) = S.Number n
told_sort (Keyword key) = S.Key key
told_sort (Marked m) = S.Mark m

-- the lexer's piece that a word is
abbrev pub lexed : Told → LexedPiece
lexed (Tell gap word) = record { gap = gap; word = spelling word; sort = told_sort word }

-- no byte after the word makes it longer
abbrev pub opens : Word → Bool
opens (Marked M.OpenParen) = true
opens (Marked M.OpenBracket) = true
opens (Marked M.Minus) = true
opens (Marked M.Dot) = true
opens _ = false

-- the word makes no word before it longer
abbrev pub closes : Word → Bool
closes (Marked M.Semicolon) = true
closes (Marked M.OpenBracket) = true
closes (Marked M.CloseBracket) = true
closes (Marked M.CloseParen) = true
closes (Marked M.Dot) = true
closes _ = false

-- white space stands there
abbrev pub gapped : List ℕ → Bool
gapped [] = false
gapped (b ∷ bytes) = true

-- The word is one of the language.
abbrev pub Fine : Word → Type 0
Fine (Named n) = IsName n
Fine (Numeral n) = n ≤ greatest
Fine (Keyword key) = Unit {0}
Fine (Marked m) = Unit {0}

-- Each word is fine and apart from the one before it; whether the words before and the last one open is told apart.
abbrev pub Clear : Bool → List Told → Bool → Type 0
Clear before [] last = before ≡ last
Clear before (Tell gap word ∷ ps) last =
    Blank gap × Fine word × IsTrue (gapped gap || (closes word || before)) × Clear (opens word) ps last

pub join : (b : Bool) (xs ys : List Told) (c d : Bool) → Clear b xs c → Clear c ys d → Clear b (xs ++ ys) d
join b [] ys c d p q = subst (λ (x : Bool). Clear x ys d) (sym p) q
join b (Tell gap word ∷ xs) ys c d (p, f, h, r) q = (p, f, h, join (opens word) xs ys c d r q)

pub choose : (t b c : Bool) (xs ys : List Told) → Clear b xs c → Clear b ys c → Clear b (if t then xs else ys) c
choose true b c xs ys p q = p
choose false b c xs ys p q = q

spaces_blank : (n : ℕ) → Blank (replicate {A = ℕ} n 32)
spaces_blank zero = tt
spaces_blank (suc n) = (refl, spaces_blank n)

pub line_blank : (depth : ℕ) → Blank (line depth)
line_blank depth = (refl, spaces_blank (2 * depth))

plain_mark : (m : Mark) (b : ℕ) → (b == 61) ≡ false → prolongs_mark m b ≡ false
plain_mark M.Assign b h = h
plain_mark M.Less b h = h
plain_mark _ b h = refl

plain : (sort : Sort) (b : ℕ) → is_word_byte b ≡ false → is_digit b ≡ false → (b == 61) ≡ false → prolongs sort b ≡ false
plain S.Name b w d e = w
plain (S.Number n) b w d e = d
plain (S.Key key) b w d e = w
plain (S.Mark m) b w d e = plain_mark m b e

closing : (v : Word) → closes v ≡ true → (sort : Sort) (rest : List ℕ) → Separate sort (spelling v ++ rest)
closing (Marked M.Semicolon) h sort rest = plain sort 59 refl refl refl
closing (Marked M.OpenBracket) h sort rest = plain sort 91 refl refl refl
closing (Marked M.CloseBracket) h sort rest = plain sort 93 refl refl refl
closing (Marked M.CloseParen) h sort rest = plain sort 41 refl refl refl
closing (Marked M.Dot) h sort rest = plain sort 46 refl refl refl
closing (Marked m) h sort rest = cc
closing (Named n) h sort rest = cc
closing (Numeral n) h sort rest = cc
closing (Keyword key) h sort rest = cc

opening : (w : Word) → IsTrue (opens w) → (bytes : List ℕ) → Separate (told_sort w) bytes
opening w h [] = tt
opening (Marked M.OpenParen) h (b ∷ bytes) = refl
opening (Marked M.OpenBracket) h (b ∷ bytes) = refl
opening (Marked M.Minus) h (b ∷ bytes) = refl
opening (Marked M.Dot) h (b ∷ bytes) = refl
opening (Marked m) h (b ∷ bytes) = cc
opening (Named n) h (b ∷ bytes) = cc
opening (Numeral n) h (b ∷ bytes) = cc
opening (Keyword key) h (b ∷ bytes) = cc

gapless : (w v : Word) (rest : List ℕ) → IsTrue (closes v || opens w) → Separate (told_sort w) (spelling v ++ rest)
gapless w v rest =
    elim (closes v) as (λ b. closes v ≡ b → IsTrue (b || opens w) → Separate (told_sort w) (spelling v ++ rest)) [
      | true ↦ λ e h. closing v e (told_sort w) rest
      | false ↦ λ e h. opening w h (spelling v ++ rest)
    ] refl

-- the word and the bytes of a token, as what it says
abbrev pub heard_word : LexedWord → Word
heard_word w = word_of w.bytes w.sort

heard_same : (w : Word) → word_of (spelling w) (told_sort w) ≡ w
heard_same (Named n) = refl
heard_same (Numeral n) = refl
heard_same (Keyword key) = refl
heard_same (Marked m) = refl

heard_all : (ps : List Told) → map heard_word (words_in (map lexed ps)) ≡ map told_word ps
heard_all [] = refl
heard_all (Tell gap w ∷ ps) =
    ap (λ v. v ∷ map heard_word (words_in (map lexed ps))) (heard_same w) ∙ ap (λ ws. w ∷ ws) (heard_all ps)

heard_tokens : (text : List ℕ) (ts : List Token) → Covers (map heard_word (words_of text ts)) (lexemes text ts) []
heard_tokens text [] = covers_none
heard_tokens text (t ∷ ts) = covers_next (heard_tokens text ts)

-- the text of the lexer's pieces is that of the tree's
pub told_text : (ps : List Told) (last : List ℕ) → text_of (map lexed ps) last ≡ joined (map told_piece ps) ++ last
told_text [] last = refl
told_text (Tell gap w ∷ ps) last =
    let rest : List ℕ = joined (map told_piece ps) in
    ap (λ t. gap ++ (spelling w ++ t)) (told_text ps last) ∙ sym (append_assoc gap (spelling w) (rest ++ last))
    ∙ sym (append_assoc (gap ++ spelling w) rest last)

-- What the lexer's laws say.
module _ (separators : (sort : Sort) (b : ℕ) → IsTrue (is_space b) → prolongs sort b ≡ false)
    (decimals : (n : ℕ) → n ≤ greatest → Says (decimal n) (S.Number n)) where
  pub fine_says : (w : Word) → Fine w → Says (spelling w) (told_sort w)
  fine_says (Named n) h = h
  fine_says (Numeral n) h = decimals n h
  fine_says (Keyword key) h = refl
  fine_says (Marked m) h = refl

  separate : (w : Word) (ps : List Told) → Clear (opens w) ps false
      → Separate (told_sort w) (text_of (map lexed ps) (codes "\n"))
  separate w [] c = separators (told_sort w) 10 refl
  separate w (Tell [] v ∷ ps) (p, f, h, r) = gapless w v (text_of (map lexed ps) (codes "\n")) h
  separate w (Tell (b ∷ gap) v ∷ ps) (p, f, h, r) = separators (told_sort w) b p.0

  -- clear words are legible
  pub clear_legible : (ps : List Told) (b : Bool) → Clear b ps false → Legible (map lexed ps) (codes "\n")
  clear_legible [] b c = (refl, tt)
  clear_legible (Tell gap w ∷ ps) b (p, f, h, r) = (p, fine_says w f, separate w ps r, clear_legible ps (opens w) r)

-- the tokens of pieces of the lexer's say their words
pub placed_heard : (ps : List Told) (text : List ℕ)
    → words_of text (placed text 0 (map lexed ps)) ≡ words_in (map lexed ps)
    → Covers (map told_word ps) (lexemes text (placed text 0 (map lexed ps))) []
placed_heard ps text e =
    let ts : List Token = placed text 0 (map lexed ps) in
    subst (λ (ws : List Word). Covers ws (lexemes text ts) []) (ap (λ ws. map heard_word ws) e ∙ heard_all ps) (heard_tokens text ts)
