-- Words that end no run and are no brace.
use Rattle.std.proofs.Common.{◌≡◌, ℕ, ◌+◌, ◌/◌, ◌%◌, ◌≤◌, ◌<◌, ◌++◌, true, false, ◌||◌, IsTrue, List, [], ◌∷◌, length, zero, suc, refl, subst, arith, length-append}
use Rattle.std.specs.Fmt.{decimal, digits, digit_glyph}
use Rattle.std.specs.Prelude.{if◌then◌else◌, ◌==◌, slice_index, codes}
use Rattle.std.specs.Str.{bytes_eq}
use Rattle.std.proofs.lemmas.Bool.{or_from, or_parts}
use Rattle.std.proofs.lemmas.Bool.Decides.{nat_tests}
use Rattle.std.proofs.lemmas.Slice.Eq.{bytes_eq-Decides}
use Rattle.std.specs.Fmt.{digits_onto}
use Rattle.sys_base.specs.Bytes.{is_letter, is_digit}
use Rattle.sys_base.specs.Name.{IsName}
use Rattle.sys_base.specs.declared.kinds.Dir.{Dir}
use Rattle.sys_base.specs.declared.kinds.Dir.TheVariants as D
use Rattle.sys_base.specs.declared.kinds.Op.{Op}
use Rattle.sys_base.specs.declared.kinds.Op.TheVariants as O
use Rattle.cell_tree.specs.Canonical.{dir_text}
use Rattle.cell_tree.specs.Operator.{op_text}
use Rattle.cell_tree.specs.Pieces.{Piece, after}
use Rattle.cell_tree.specs.Printable.{ends_run, is_opening, is_closing}

-- The word ends no run, so that it is no brace either.
pub record IsPlain (word : List ℕ) : Type 0 where
  pub ends : ends_run word ≡ false

-- a plain word opens no block, and closes none
pub no_opening : (word : List ℕ) → IsPlain word → is_opening word ≡ false
no_opening word p =
    (or_parts (bytes_eq word (codes ";")) (is_opening word) (or_parts (bytes_eq word (codes ";") || is_opening word) (is_closing word) p.ends).0).1

pub no_closing : (word : List ℕ) → IsPlain word → is_closing word ≡ false
no_closing word p = (or_parts (bytes_eq word (codes ";") || is_opening word) (is_closing word) p.ends).1

-- the test of bytes says no where they differ
differs : (xs ys : List ℕ) → (xs ≡ ys → ⊥) → bytes_eq xs ys ≡ false
differs xs ys f =
    elim (bytes_eq xs ys) as (λ b. bytes_eq xs ys ≡ b → b ≡ false) [
      | true ↦ λ e. absurd (f ((bytes_eq-Decides xs ys).0 e))
      | false ↦ λ e. refl
    ] refl

-- a word is plain where it is none of the three marks
no_mark : (word : List ℕ) → (word ≡ codes ";" → ⊥) → (word ≡ codes "{" → ⊥) → (word ≡ codes "}" → ⊥) → IsPlain word
no_mark word f g h = record {
  ends = or_from (bytes_eq word (codes ";") || is_opening word) (is_closing word)
      (or_from (bytes_eq word (codes ";")) (is_opening word) (differs word (codes ";") f) (differs word (codes "{") g))
      (differs word (codes "}") h);
}

never : IsTrue false → ⊥
never h = cc

-- a name begins with a letter
pub name_plain : (word : List ℕ) → IsName word → IsPlain word
name_plain word n =
    let P : List ℕ → Type 0 = λ bytes. IsTrue (is_letter (slice_index bytes 0)) in
    no_mark word (λ e. never (subst P e n.word.first)) (λ e. never (subst P e n.word.first)) (λ e. never (subst P e n.word.first))

-- The bytes begin with a digit.
abbrev BeginsWithDigit : List ℕ → Type 0
BeginsWithDigit bytes = IsTrue (is_digit (slice_index bytes 0))

-- each digit that is written is one
glyph_digit : (n : ℕ) → n < 10 → IsTrue (is_digit (digit_glyph false n))
glyph_digit n few = grind (arith, nat_tests)

-- digits before bytes that begin with one
digits_digit : (k n : ℕ) (bytes : List ℕ) → BeginsWithDigit bytes → BeginsWithDigit (digits_onto k 10 false n bytes)
digits_digit zero n bytes h = h
digits_digit (suc k) n bytes h =
    let glyph : ℕ = digit_glyph false (n % 10) in
    let first : BeginsWithDigit (glyph ∷ bytes) = glyph_digit (n % 10) (omega arith) in
    elim (n / 10 == 0) as (λ b. BeginsWithDigit (if b then glyph ∷ bytes else digits_onto k 10 false (n / 10) (glyph ∷ bytes))) [
      | true ↦ first
      | false ↦ digits_digit k (n / 10) (glyph ∷ bytes) first
    ]

-- a number in decimal begins with a digit
decimal_digit : (n : ℕ) → BeginsWithDigit (decimal n)
unfolding digits
decimal_digit n =
    let glyph : ℕ = digit_glyph false (n % 10) in
    let first : BeginsWithDigit (glyph ∷ []) = glyph_digit (n % 10) (omega arith) in
    elim (n / 10 == 0) as (λ b. BeginsWithDigit (if b then glyph ∷ [] else digits_onto 63 10 false (n / 10) (glyph ∷ []))) [
      | true ↦ first
      | false ↦ digits_digit 63 (n / 10) (glyph ∷ []) first
    ]

-- so a number is plain
pub decimal_plain : (n : ℕ) → IsPlain (decimal n)
decimal_plain n =
    no_mark (decimal n) (λ e. never (subst BeginsWithDigit e (decimal_digit n))) (λ e. never (subst BeginsWithDigit e (decimal_digit n)))
    (λ e. never (subst BeginsWithDigit e (decimal_digit n)))

-- an operator is plain, and so is a direction
pub op_plain : (op : Op) → IsPlain (op_text op)
op_plain O.Add = record { ends = refl }
op_plain O.Sub = record { ends = refl }
op_plain O.Mul = record { ends = refl }
op_plain O.Div = record { ends = refl }
op_plain O.Rem = record { ends = refl }
op_plain O.Less = record { ends = refl }
op_plain O.AtMost = record { ends = refl }
op_plain O.Same = record { ends = refl }
op_plain O.Differ = record { ends = refl }

pub dir_plain : (dir : Dir) → IsPlain (dir_text dir)
dir_plain D.N = record { ends = refl }
dir_plain D.E = record { ends = refl }
dir_plain D.S = record { ends = refl }
dir_plain D.W = record { ends = refl }

-- Each of the pieces' words is plain.
pub data AllPlain : List Piece → Type 0 where
  plain_none : AllPlain []
  plain_next : {gap word : List ℕ} {pieces : List Piece} → IsPlain word → AllPlain pieces
      → AllPlain (record { gap = gap; word = word } ∷ pieces)

-- The pieces are this many at least, and all plain.
pub record Stretch (few : ℕ) (pieces : List Piece) : Type 0 where
  pub plain : AllPlain pieces
  pub count : few ≤ length pieces

-- plain pieces after plain ones
pub all_join : {xs ys : List Piece} → AllPlain xs → AllPlain ys → AllPlain (xs ++ ys)
all_join plain_none q = q
all_join (plain_next w p) q = plain_next w (all_join p q)

-- plain pieces, where nothing is counted
pub stretch_plain : {pieces : List Piece} → AllPlain pieces → Stretch 0 pieces
stretch_plain p = record { plain = p; count = omega arith }

-- one plain word
pub stretch_one : {gap word : List ℕ} → IsPlain word → Stretch 1 (after gap word)
stretch_one w = record { plain = plain_next w plain_none; count = omega arith }

-- a stretch after another, which is as long as both
pub stretch_join : {m n : ℕ} {xs ys : List Piece} → Stretch m xs → Stretch n ys → Stretch (m + n) (xs ++ ys)
stretch_join {m} {n} {xs} {ys} p q =
    record { plain = all_join p.plain q.plain; count = let a = p.count in let b = q.count in omega (arith, length-append xs ys, a, b) }

-- a stretch of which fewer are counted
pub stretch_less : {m n : ℕ} {xs : List Piece} → m ≤ n → Stretch n xs → Stretch m xs
stretch_less {m} {n} {xs} le p = record { plain = p.plain; count = let a = p.count in omega (arith, le, a) }
