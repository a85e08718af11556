-- The number that a word spells.
use Rattle.std.proofs.Common.{◌≡◌, ◌≤◌, ◌<◌, ◌^◌, ℕ, Bool, true, false, ◌&&◌, if◌then◌else◌, List, Option, None, Some, nat_le, decimal, bytes_eq, refl, sym, ap, ◌∙◌, arith}
use Rattle.std.proofs.lemmas.Bool.{leb-true, le-leb}
use Rattle.std.proofs.lemmas.Fmt.{digits_value-decimal}
use Rattle.std.proofs.lemmas.Slice.Eq.{bytes_eq-Decides}
use Rattle.std.proofs.lemmas.Str.Parse.{IsNumeralModel, numerals_by_value, tells_digits}
use Rattle.std.specs.Str.Parse.{AllDigits, digits_value}
use Rattle.systole_top.specs.Shape.{number_in}

own : IsNumeralModel (AllDigits 10) (digits_value 10)
own = numerals_by_value (AllDigits 10) tells_digits

-- where all three hold
when_all : (a b c : Bool) (n : ℕ) → a ≡ true → b ≡ true → c ≡ true → Some n ≡ (if a && b && c then Some n else None)
when_all true true true n p q r = refl
when_all true true false n p q r = absurd (cc)
when_all true false c n p q r = absurd (cc)
when_all false b c n p q r = absurd (cc)

-- where they don't
when_not : (a b c : Bool) (n : ℕ) → (a ≡ true → b ≡ true → c ≡ true → ⊥) → None ≡ (if a && b && c then Some n else None)
when_not true true true n never = absurd (never refl refl refl)
when_not true true false n never = refl
when_not true false c n never = refl
when_not false b c n never = refl

module _ (least most : ℕ) (word : List ℕ) where
  abbrev spelled : ℕ → Option ℕ
  spelled n = if bytes_eq (decimal n) word && nat_le least n && nat_le n most then Some n else None

  value_is : (n : ℕ) → n < 2 ^ 64 → word ≡ decimal n → spelled n ≡ number_in least most word
  value_is n small is = ap spelled (sym (ap (digits_value 10) is ∙ digits_value-decimal own n small))

  pub number_some : (n : ℕ) → n < 2 ^ 64 → word ≡ decimal n → least ≤ n → n ≤ most → Some n ≡ number_in least most word
  number_some n small is above below =
      when_all (bytes_eq (decimal n) word) (nat_le least n) (nat_le n most) n
      ((bytes_eq-Decides (decimal n) word).1 (sym is)) (le-leb least n above) (le-leb n most below)
      ∙ value_is n small is

  pub number_out : (n : ℕ) → n < 2 ^ 64 → word ≡ decimal n → (least ≤ n → n ≤ most → ⊥) → None ≡ number_in least most word
  number_out n small is outside =
      when_not (bytes_eq (decimal n) word) (nat_le least n) (nat_le n most) n
      (λ a b c. outside (leb-true least n b) (leb-true n most c))
      ∙ value_is n small is
