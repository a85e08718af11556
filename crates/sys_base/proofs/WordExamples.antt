-- Words at the edges of their numbers, and which fault is passed on.
use Rattle.std.proofs.Common.{◌≡◌, pos, negsuc, refl}
use Rattle.sys_base.specs.declared.kinds.Kind.TheVariants as K
use Rattle.sys_base.specs.declared.kinds.Op.TheVariants.{Add, Sub, Mul, Div, Rem}
use Rattle.sys_base.specs.declared.word.Word.TheVariants.{Num}
use Rattle.sys_base.specs.Words.{applied, negated, fault_at}

greatest_plus_one : applied Add (Num (pos 9223372036854775807)) (Num (pos 1)) 0 3 ≡ fault_at K.O 0 3
greatest_plus_one = refl

least_less_one : applied Sub (Num (negsuc 9223372036854775807)) (Num (pos 1)) 0 3 ≡ fault_at K.O 0 3
least_less_one = refl

greatest_plus_least : applied Add (Num (pos 9223372036854775807)) (Num (negsuc 9223372036854775807)) 0 3 ≡ Num (negsuc 0)
greatest_plus_least = refl

least_by_minus_one : applied Div (Num (negsuc 9223372036854775807)) (Num (negsuc 0)) 0 4 ≡ fault_at K.O 0 4
least_by_minus_one = refl

remainder_of_least_by_minus_one : applied Rem (Num (negsuc 9223372036854775807)) (Num (negsuc 0)) 0 4 ≡ fault_at K.O 0 4
remainder_of_least_by_minus_one = refl

remainder_of_least_by_one : applied Rem (Num (negsuc 9223372036854775807)) (Num (pos 1)) 0 4 ≡ Num (pos 0)
remainder_of_least_by_one = refl

least_by_zero : applied Rem (Num (negsuc 9223372036854775807)) (Num (pos 0)) 0 4 ≡ fault_at K.Z 0 4
least_by_zero = refl

quotient_truncates : applied Div (Num (negsuc 6)) (Num (pos 2)) 0 4 ≡ Num (negsuc 2)
quotient_truncates = refl

remainder_has_the_sign_of_the_dividend : applied Rem (Num (negsuc 6)) (Num (pos 2)) 0 4 ≡ Num (negsuc 0)
remainder_has_the_sign_of_the_dividend = refl

left_fault_wins : applied Mul (fault_at K.Z 1 2) (fault_at K.X 3 4) 0 9 ≡ fault_at K.Z 1 2
left_fault_wins = refl

right_fault_counts_beside_zero : applied Mul (Num (pos 0)) (fault_at K.Z 0 1) 0 1 ≡ fault_at K.Z 0 1
right_fault_counts_beside_zero = refl

least_negated : negated (Num (negsuc 9223372036854775807)) 0 5 ≡ fault_at K.O 0 5
least_negated = refl
