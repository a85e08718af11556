-- Decimals are words, and are read back.
use Rattle.std.proofs.Common.{◌≡◌, ℕ, suc, ◌-◌, ◌<◌, ◌≤◌, ◌^◌, Bool, true, false, cond, eqb, List, [], ◌∷◌, length, decimal, ℤ, pos, negsuc, refl, sym, ap, ◌∙◌, arith, lit<, true≢false}
use Rattle.std.specs.Fmt.{signed_decimal}
use Rattle.std.specs.Int.Signed.{mag}
use Rattle.std.specs.Prelude.{nat_lt}
use Rattle.std.proofs.lemmas.Bool.{ltb-true, ne_eqb}
use Rattle.std.proofs.lemmas.Fmt.{digits_decimal, digits_value-decimal, decimal_nonempty}
use Rattle.std.proofs.lemmas.List.Elements.{All-cons, All-nil}
use Rattle.std.proofs.lemmas.Str.Parse.{IsNumeralModel, numerals_by_value, tells_digits}
use Rattle.std.specs.Str.Parse.{AllDigits, digits_value}
use Rattle.object_io.specs.Words.{IsWord}

own : IsNumeralModel (AllDigits 10) (digits_value 10)
own = numerals_by_value (AllDigits 10) tells_digits

pub number_back : (n : ℕ) → n < 2 ^ 64 → digits_value 10 (decimal n) ≡ n
number_back n small = digits_value-decimal own n small

-- digits are above the space
digits_are_word : (xs : List ℕ) → AllDigits 10 xs → IsWord xs
digits_are_word [] h = All-nil (λ b. 32 < b)
digits_are_word (x ∷ xs) h =
    let parts = tells_digits.parts x xs h in
    let low = parts.0 in
    All-cons (λ b. 32 < b) x xs (omega (arith, low)) (digits_are_word xs parts.1)

pub decimal_is_word : (n : ℕ) → n < 2 ^ 64 → IsWord (decimal n)
decimal_is_word n small = digits_are_word (decimal n) (digits_decimal own n small)

pub signed_is_word : (z : ℤ) → mag z < 2 ^ 63 → IsWord (signed_decimal z)
signed_is_word (pos n) small = decimal_is_word n (omega (arith, small))
signed_is_word (negsuc n) small =
    All-cons (λ b. 32 < b) 45 (decimal (suc n)) (lit< tt) (decimal_is_word (suc n) (omega (arith, small)))

-- words that are given: each byte is tested
abbrev pub are_above : List ℕ → Bool
are_above [] = true
are_above (x ∷ xs) = cond (nat_lt 32 x) (are_above xs) false

both : (b c : Bool) → cond b c false ≡ true → (b ≡ true) × (c ≡ true)
both true c h = (refl, h)
both false c h = absurd (true≢false (sym h))

pub given_is_word : (xs : List ℕ) → are_above xs ≡ true → IsWord xs
given_is_word [] t = All-nil (λ b. 32 < b)
given_is_word (x ∷ xs) t =
    let two = both (nat_lt 32 x) (are_above xs) t in
    All-cons (λ b. 32 < b) x xs (ltb-true 32 x two.0) (given_is_word xs two.1)

-- a signed decimal
abbrev pub signed_of : List ℕ → ℤ
signed_of [] = pos 0
signed_of (b ∷ ds) = cond (eqb b 45) (negsuc (digits_value 10 ds - 1)) (pos (digits_value 10 (b ∷ ds)))

other : (x : ℕ) → 48 ≤ x → eqb x 45 ≡ false
other x low = ne_eqb x 45 (λ e. omega (arith, low, e))

unsigned : (xs : List ℕ) → AllDigits 10 xs → 0 < length xs → signed_of xs ≡ pos (digits_value 10 xs)
unsigned [] h some = absurd (omega (arith, some))
unsigned (x ∷ xs) h some =
    let low = (tells_digits.parts x xs h).0 in
    let apart : eqb x 45 ≡ false = other x (omega (arith, low)) in
    ap (λ b. cond b (negsuc (digits_value 10 xs - 1)) (pos (digits_value 10 (x ∷ xs)))) apart

pub signed_back : (z : ℤ) → mag z < 2 ^ 63 → signed_of (signed_decimal z) ≡ z
signed_back (pos n) small =
    let fits : n < 2 ^ 64 = omega (arith, small) in
    unsigned (decimal n) (digits_decimal own n fits) (decimal_nonempty n fits) ∙ ap pos (number_back n fits)
signed_back (negsuc n) small =
    let back = number_back (suc n) (omega (arith, small)) in
    let e : digits_value 10 (decimal (suc n)) - 1 ≡ n = omega (arith, back) in
    ap negsuc e
