-- Decimals, and the texts that are read as decimals.
use Rattle.std.proofs.Common.{◌≡◌, ◌≢◌, ℕ, zero, suc, ◌+◌, ◌-◌, ◌<◌, ◌≤◌, ◌^◌, List, [], ◌∷◌, ◌++◌, length, get_or, Result, Ok, Err, eqb, false, decimal, lit<, lit≤, refl, sym, subst, ap, ◌∙◌, arith, rules}
use Rattle.std.proofs.lemmas.Fmt.{decimal-digits_value, decimal_digit, digits_decimal, decimal_nonempty, decimal_injective, first_decimal, parse-decimal, IsAscii-decimal}
use Rattle.std.proofs.lemmas.Str.Parse.{IsNumeralModel, numerals_by_value, tells_digits, without_leading_plus_none, digit_at}
use Rattle.std.specs.Str.Parse.{AllDigits, ParsesUnsigned, digits_value, without_leading_plus}
use Rattle.std.proofs.lemmas.Str.{IsUtf8-from_ascii}
use Rattle.std.specs.Option.{IfSome, IfNone}
use Rattle.std.specs.Result.{OkIff, result_ok}
use Rattle.std.specs.Str.{IsUtf8}
use Rattle.schedules.specs.Bytes.{BeginsPlainly}
use Rattle.schedules.proofs.Lines.{Lacks, lacks_by_index}

own : IsNumeralModel (AllDigits 10) (digits_value 10)
own = numerals_by_value (AllDigits 10) tells_digits

digit_of_decimal : (n : ℕ) → n < 2 ^ 64 → (i : ℕ) → i < length (decimal n) → (48 ≤ get_or (decimal n) i 0) × (get_or (decimal n) i 0 ≤ 57)
digit_of_decimal n small i inside = digit_at (decimal n) i (digits_decimal own n small) inside

-- a decimal has no byte below its digits
pub lacks_decimal : (c n : ℕ) → c < 48 → n < 2 ^ 64 → Lacks c (decimal n)
lacks_decimal c n low small = lacks_by_index c (decimal n) (λ k inside same. let d = digit_of_decimal n small k inside in omega (arith, d.0))

pub begins_decimal : (n : ℕ) → n < 2 ^ 64 → BeginsPlainly (decimal n)
begins_decimal zero small =
    subst BeginsPlainly (sym (decimal_digit 0 (lit< tt))) (record { low = lit≤ tt; high = lit≤ tt; alone = λ h. refl })
begins_decimal (suc n) small = record {
  low = (digit_of_decimal (suc n) small 0 (decimal_nonempty (suc n) small)).0;
  high = (digit_of_decimal (suc n) small 0 (decimal_nonempty (suc n) small)).1;
  alone = λ h. let above : 48 < get_or (decimal (suc n)) 0 0 = first_decimal (suc n) (omega arith) small in absurd (omega (arith, h));
}

no_plus : (ds : List ℕ) → BeginsPlainly ds → without_leading_plus ds ≡ ds
no_plus ds plain = without_leading_plus_none ds (λ plus. omega (arith, plain.low))

-- what parses is the decimal of what it parses to
pub parsed : (E : Type 0) (ds : List ℕ) (n : ℕ) → BeginsPlainly ds → ParsesUnsigned {E = E} 64 10 ds (Ok n) → ds ≡ decimal n
parsed E ds n plain h =
    let read = rw (no_plus ds plain) at h in
    let small : digits_value 10 ds < 2 ^ 64 = omega (arith, read.0.1) in
    sym (ap decimal read.1 ∙ decimal-digits_value own ds read.0.0.1 read.0.0.0 plain.alone small)

-- what does not parse is no decimal
pub unparsed : (E : Type 0) (ds : List ℕ) (r : Result ℕ E) (e : E) → ParsesUnsigned {E = E} 64 10 ds r → r ≡ Err e → (n : ℕ) → n < 2 ^ 64
    → ds ≡ decimal n → ⊥
unparsed E ds r e h failed n small same =
    let ok : r ≡ Ok n = parse-decimal 64 n ds r small (omega arith) same h in cc

pub utf8_decimal : (n : ℕ) (ds : List ℕ) → ds ≡ decimal n → n < 2 ^ 64 → IsUtf8 ds
utf8_decimal n ds same small = subst IsUtf8 (sym same) (IsUtf8-from_ascii (decimal n) (IsAscii-decimal n small))

pub parsed_some : (E : Type 0) (ds text : List ℕ) (r : Result ℕ E) → BeginsPlainly ds → text ≡ ds → ParsesUnsigned {E = E} 64 10 text r
    → IfSome (result_ok r) (λ n. ds ≡ decimal n)
parsed_some E ds text (Ok n) plain same h = sym same ∙ parsed E text n (subst BeginsPlainly (sym same) plain) h
parsed_some E ds text (Err e) plain same h = tt

pub parsed_none : (E : Type 0) (ds text : List ℕ) (r : Result ℕ E) → text ≡ ds → ParsesUnsigned {E = E} 64 10 text r
    → IfNone (result_ok r) ((n : ℕ) → n < 2 ^ 64 → ds ≡ decimal n → ⊥)
parsed_none E ds text (Ok n) same h = tt
parsed_none E ds text (Err e) same h = λ n small decimal_is. unparsed E text (Err e) e h refl n small (same ∙ decimal_is)

-- what is out of range is no decimal of a number in range
pub narrow_none : (E : Type 0) (P : Type 0) (ds : List ℕ) (m v : ℕ) (r : Result ℕ E) → (m < 2 ^ 16 → P) → m < 2 ^ 64 → ds ≡ decimal m → OkIff r P v
    → IfNone (result_ok r) ((n : ℕ) → n < 2 ^ 16 → ds ≡ decimal n → ⊥)
narrow_none E P ds m v (Ok x) in_range small same h = tt
narrow_none E P ds m v (Err e) in_range small same h = λ n narrow decimal_is.
    let equal : m ≡ n = decimal_injective m n small (omega arith) (sym same ∙ decimal_is) in
    h (in_range (omega arith))
