-- Words, and what operators give for them: arithmetic on whole numbers, with a fault where there is no 64-bit result.
use Rattle.std.specs.Prelude.{ℕ, ◌^◌, Bool, not, nat_lt, if◌then◌else◌, ℤ, pos, negsuc, neg_ℤ, ◌+ℤ◌, ◌-ℤ◌, ◌*ℤ◌, int_lt, int_le, int_div, int_rem}
use Rattle.std.specs.Ordering.{int_eq}
use Rattle.sys_base.specs.declared.kinds.Kind.{Kind}
use Rattle.sys_base.specs.declared.kinds.Kind.TheVariants as K
use Rattle.sys_base.specs.declared.kinds.Op.{Op}
use Rattle.sys_base.specs.declared.kinds.Op.TheVariants.{Add, Sub, Mul, Div, Rem, Less, AtMost, Same, Differ}
use Rattle.sys_base.specs.declared.word.Word.{Word}
use Rattle.sys_base.specs.declared.word.Word.TheVariants.{Num, Fault as Faulty}

-- the word that says that this went wrong in a cell at a line
abbrev pub fault_at : Kind → ℕ → ℕ → Word
fault_at kind cell line = Faulty (record { kind = kind; cell = cell; line = line })

-- whether a whole number is a 64-bit signed one: from -2^63 to 2^63 - 1
abbrev pub is_64bit : ℤ → Bool
is_64bit (pos n) = nat_lt n (2 ^ 63)
is_64bit (negsuc n) = nat_lt n (2 ^ 63)

-- a whole number as a word: itself, or the fault O where it is no 64-bit signed number
abbrev pub word_of : ℤ → ℕ → ℕ → Word
word_of number cell line = if is_64bit number then Num number else fault_at K.O cell line

-- 1 where a comparison holds, and 0 where it does not
abbrev pub truth : Bool → Word
truth test = if test then Num (pos 1) else Num (pos 0)

-- the remainder of a number by one that is not 0, with the sign of the dividend; where the quotient is no 64-bit number,
-- as for the least number by -1, the remainder is the fault O too
abbrev pub remainder : ℤ → ℤ → ℕ → ℕ → Word
remainder a b cell line = if is_64bit (int_div a b) then Num (int_rem a b) else fault_at K.O cell line

-- what an operator gives for two numbers, in a cell at a line
abbrev pub number_applied : Op → ℤ → ℤ → ℕ → ℕ → Word
number_applied Add a b cell line = word_of (a +ℤ b) cell line
number_applied Sub a b cell line = word_of (a -ℤ b) cell line
number_applied Mul a b cell line = word_of (a *ℤ b) cell line
number_applied Div a b cell line =
    if int_eq b (pos 0) then fault_at K.Z cell line else word_of (int_div a b) cell line
number_applied Rem a b cell line = if int_eq b (pos 0) then fault_at K.Z cell line else remainder a b cell line
number_applied Less a b cell line = truth (int_lt a b)
number_applied AtMost a b cell line = truth (int_le a b)
number_applied Same a b cell line = truth (int_eq a b)
number_applied Differ a b cell line = truth (not (int_eq a b))

-- what an operator gives for two words: the left fault, or the right one, or what it gives for the two numbers
abbrev pub applied : Op → Word → Word → ℕ → ℕ → Word
applied op (Faulty left) right cell line = Faulty left
applied op (Num a) (Faulty right) cell line = Faulty right
applied op (Num a) (Num b) cell line = number_applied op a b cell line

-- a word with the other sign: its fault, or the negated number
abbrev pub negated : Word → ℕ → ℕ → Word
negated (Faulty fault) cell line = Faulty fault
negated (Num a) cell line = word_of (neg_ℤ a) cell line
