-- Words that are those of lexemes but for some parentheses and a `buffer` line, and lexemes with the names and numbers of the language.
use Rattle.std.proofs.Common.{ℕ, ◌≤◌, ◌++◌, List, [], ◌∷◌, subst}
use Rattle.std.specs.List.{AllByRecursion}
use Rattle.std.proofs.lemmas.List.{append-nil}
use Rattle.sys_base.specs.Name.{IsName}
use Rattle.sys_base.specs.declared.key.Key.TheVariants as K
use Rattle.cell_lexer.specs.declared.token.Mark.TheVariants as M
use Rattle.cell_parser.specs.Lexeme.{Word, Numeral, Keyword, Marked, Lexeme, At}
use Rattle.cell_parser.specs.Inner.Told.{Told, Tell}
use Rattle.cell_parser.proofs.ToldClear.{Names, Numbers}
use Rattle.cell_parser.proofs.ToldLegible.{Fine}

-- The words are those of the first lexemes, up to the second ones, but for some parentheses and for a `buffer` line
-- that stands after a semicolon.
pub data Fewer : List Told → List Lexeme → List Lexeme → Type 0 where
  fewer_none : {us : List Lexeme} → Fewer [] us us
  fewer_same : {l : ℕ} {g : List ℕ} {w : Word} {ps : List Told} {ts us : List Lexeme} → Fewer ps ts us
      → Fewer (Tell g w ∷ ps) (At l w ∷ ts) us
  fewer_open : {l : ℕ} {ps : List Told} {ts us : List Lexeme} → Fewer ps ts us → Fewer ps (At l (Marked M.OpenParen) ∷ ts) us
  fewer_close : {l : ℕ} {ps : List Told} {ts us : List Lexeme} → Fewer ps ts us → Fewer ps (At l (Marked M.CloseParen) ∷ ts) us
  fewer_line : {l k j i n : ℕ} {g : List ℕ} {ps : List Told} {ts us : List Lexeme} → Fewer ps ts us
      → Fewer (Tell g (Marked M.Semicolon) ∷ ps)
      (At l (Marked M.Semicolon) ∷ At k (Keyword K.Buffer) ∷ At j (Numeral n) ∷ At i (Marked M.Semicolon) ∷ ts) us

pub fewer_join : {xs ys : List Told} {ts us vs : List Lexeme} → Fewer xs ts us → Fewer ys us vs → Fewer (xs ++ ys) ts vs
fewer_join fewer_none q = q
fewer_join (fewer_same p) q = fewer_same (fewer_join p q)
fewer_join (fewer_open p) q = fewer_open (fewer_join p q)
fewer_join (fewer_close p) q = fewer_close (fewer_join p q)
fewer_join (fewer_line p) q = fewer_line (fewer_join p q)

-- one more word at the end
pub fewer_end : {ps : List Told} {ts us : List Lexeme} {l : ℕ} {w : Word} → (g : List ℕ) → Fewer ps ts (At l w ∷ us)
    → Fewer (ps ++ Tell g w ∷ []) ts us
fewer_end g p = fewer_join p (fewer_same fewer_none)

-- one more closing parenthesis that is left out
pub fewer_closed : {ps : List Told} {ts us : List Lexeme} {l : ℕ} → Fewer ps ts (At l (Marked M.CloseParen) ∷ us) → Fewer ps ts us
fewer_closed {ps} {ts} {us} p =
    subst (λ (xs : List Told). Fewer xs ts us) (append-nil ps) (fewer_join p (fewer_close fewer_none))

-- Each of the lexemes says a word of the language.
abbrev pub Sound : List Lexeme → Type 0
Sound [] = Unit {0}
Sound (At l w ∷ ts) = Fine w × Sound ts

all_join : {X : Type 0} (P : X → Type 0) (xs ys : List X) → AllByRecursion P xs → AllByRecursion P ys → AllByRecursion P (xs ++ ys)
all_join P [] ys p q = q
all_join P (x ∷ xs) ys p q = (p.0, all_join P xs ys p.1 q)

pub names_join : (xs ys : List (List ℕ)) → Names xs → Names ys → Names (xs ++ ys)
names_join = all_join IsName

pub numbers_join : (xs ys : List ℕ) → Numbers xs → Numbers ys → Numbers (xs ++ ys)
numbers_join = all_join (λ n. n ≤ 9223372036854775807)
