-- Lexemes that say words with the white space before them, and how they come apart.
use Rattle.std.proofs.Common.{ℕ, List, [], ◌∷◌, ◌++◌, map}
use Rattle.cell_parser.specs.Lexeme.{Word, Lexeme, At}
use Rattle.cell_parser.specs.Printed.{Covers, covers_none, covers_next}
use Rattle.cell_parser.specs.Inner.Told.{Told, Tell, tell, told_word}

-- The first list of lexemes, up to the second one, says just these words, on any lines.
pub data Said : List Told → List Lexeme → List Lexeme → Type 0 where
  said_none : {us : List Lexeme} → Said [] us us
  said_next : {l : ℕ} {g : List ℕ} {w : Word} {ps : List Told} {ts us : List Lexeme} → Said ps ts us
      → Said (Tell g w ∷ ps) (At l w ∷ ts) us

pub said_of : (ps : List Told) {ts us : List Lexeme} → Covers (map told_word ps) ts us → Said ps ts us
said_of [] covers_none = said_none
said_of (Tell g w ∷ ps) (covers_next r) = said_next (said_of ps r)

pub split : (xs ys : List Told) {ts us : List Lexeme} → Said (xs ++ ys) ts us
    → (mid : List Lexeme) × Said xs ts mid × Said ys mid us
split [] ys {ts} r = (ts, said_none, r)
split (Tell g w ∷ xs) ys (said_next r) = let (mid, a, b) = split xs ys r in (mid, said_next a, b)

pub split_end : (xs : List Told) (g : List ℕ) (w : Word) {ts us : List Lexeme} → Said (xs ++ tell g w) ts us
    → (j : ℕ) × Said xs ts (At j w ∷ us)
split_end [] g w (said_next {l = l} said_none) = (l, said_none)
split_end (Tell h v ∷ xs) g w (said_next r) = let (j, a) = split_end xs g w r in (j, said_next a)
