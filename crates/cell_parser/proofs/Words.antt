-- The tests of words and of directions mean what they say.
use Rattle.std.proofs.Common.{◌≡◌, ℕ, ◌==◌, Bool, true, false, List, Option, Some, None, bytes_eq, if◌then◌else◌, sym, refl, ap, subst, arith}
use Rattle.std.proofs.lemmas.Slice.Eq.{bytes_eq-Decides}
use Rattle.std.proofs.lemmas.Bool.Decides.{nat_tests}
use Rattle.sys_base.specs.Key.{key_text}
use Rattle.sys_base.specs.declared.kinds.Dir.{Dir}
use Rattle.sys_base.specs.declared.kinds.Dir.TheVariants as D
use Rattle.cell_lexer.specs.Forms.{mark_text}
use Rattle.cell_tree.specs.Canonical.{dir_text}
use Rattle.cell_parser.specs.Lexeme.{Word, Named, Numeral, Keyword, Marked}
use Rattle.cell_parser.specs.Inner.Machine.{same_word, dir_of}
use Rattle.cell_parser.proofs.Spellings.{one_mark, one_key}

abbrev IsYes : Bool → Type 0
IsYes true = Unit {0}
IsYes false = ⊥

no_yes : {A : Type 0} → false ≡ true → A
no_yes e = absurd (subst IsYes (sym e) tt)

same_numbers : (m n : ℕ) → (m == n) ≡ true → m ≡ n
same_numbers m n e = grind (arith, nat_tests)

equal_numbers : (n : ℕ) → (n == n) ≡ true
equal_numbers n = grind (arith, nat_tests)

pub equal_bytes : (a : List ℕ) → bytes_eq a a ≡ true
equal_bytes a = (bytes_eq-Decides a a).1 refl

pub same_bytes : (a b : List ℕ) → bytes_eq a b ≡ true → a ≡ b
same_bytes a b e = (bytes_eq-Decides a b).0 e

-- Words that pass the test are equal.
pub same_words : (a b : Word) → same_word a b ≡ true → a ≡ b
same_words (Named a) (Named b) e = ap Named (same_bytes a b e)
same_words (Numeral m) (Numeral n) e = ap Numeral (same_numbers m n e)
same_words (Keyword a) (Keyword b) e = ap Keyword (one_key a b (same_bytes _ _ e))
same_words (Marked a) (Marked b) e = ap Marked (one_mark a b (same_bytes _ _ e))
same_words (Named a) (Numeral n) e = no_yes e
same_words (Named a) (Keyword b) e = no_yes e
same_words (Named a) (Marked b) e = no_yes e
same_words (Numeral m) (Named b) e = no_yes e
same_words (Numeral m) (Keyword b) e = no_yes e
same_words (Numeral m) (Marked b) e = no_yes e
same_words (Keyword a) (Named b) e = no_yes e
same_words (Keyword a) (Numeral n) e = no_yes e
same_words (Keyword a) (Marked b) e = no_yes e
same_words (Marked a) (Named b) e = no_yes e
same_words (Marked a) (Numeral n) e = no_yes e
same_words (Marked a) (Keyword b) e = no_yes e

-- A word passes the test with itself.
pub equal_words : (w : Word) → same_word w w ≡ true
equal_words (Named a) = equal_bytes a
equal_words (Numeral n) = equal_numbers n
equal_words (Keyword k) = equal_bytes (key_text k)
equal_words (Marked m) = equal_bytes (mark_text m)

-- A direction is found by its name.
pub dir_of_text : (d : Dir) → dir_of (dir_text d) ≡ Some d
dir_of_text D.N = refl
dir_of_text D.E = refl
dir_of_text D.S = refl
dir_of_text D.W = refl

-- This name has been found to be that of the direction, if any has.
abbrev IsFor : List ℕ → Option Dir → Type 0
IsFor n None = Unit {0}
IsFor n (Some d) = n ≡ dir_text d

tried : (n : List ℕ) (d : Dir) (b : Bool) (o : Option Dir) → bytes_eq n (dir_text d) ≡ b → IsFor n o → IsFor n (if b then Some d else o)
tried n d true o e rest = same_bytes n (dir_text d) e
tried n d false o e rest = rest

all_tried : (n : List ℕ) → IsFor n (dir_of n)
all_tried n = tried n D.N _ _ refl (tried n D.E _ _ refl (tried n D.S _ _ refl (tried n D.W _ None refl tt)))

-- What is found by a name has that name.
pub text_of_dir : (n : List ℕ) (d : Dir) → dir_of n ≡ Some d → n ≡ dir_text d
text_of_dir n d e = subst (IsFor n) e (all_tried n)
