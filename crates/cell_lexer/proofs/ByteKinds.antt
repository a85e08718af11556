-- Letters, digits, spaces, `#` and newlines are different bytes.
use Rattle.std.proofs.Common.{ℕ, ◌≡◌, true, arith}
use Rattle.std.proofs.lemmas.Bool.{false≢true}
use Rattle.std.proofs.lemmas.Bool.Decides.{nat_tests}
use Rattle.sys_base.specs.Bytes.{is_letter, is_digit, is_word_byte, is_space}

pub letter_no_digit : (b : ℕ) → is_letter b ≡ true → is_digit b ≡ true → ⊥
letter_no_digit b l d = grind (arith, nat_tests)

pub letter_no_space : (b : ℕ) → is_letter b ≡ true → is_space b ≡ true → ⊥
letter_no_space b l s = grind (arith, nat_tests)

pub digit_no_space : (b : ℕ) → is_digit b ≡ true → is_space b ≡ true → ⊥
digit_no_space b d s = grind (arith, nat_tests)

pub letter_no_hash : (b : ℕ) → is_letter b ≡ true → b ≡ 35 → ⊥
letter_no_hash b l e = false≢true (rw e at l)

pub digit_no_hash : (b : ℕ) → is_digit b ≡ true → b ≡ 35 → ⊥
digit_no_hash b d e = false≢true (rw e at d)

pub hash_no_space : (b : ℕ) → b ≡ 35 → is_space b ≡ true → ⊥
hash_no_space b e s = false≢true (rw e at s)

pub digit_no_newline : (b : ℕ) → is_digit b ≡ true → b ≡ 10 → ⊥
digit_no_newline b d e = false≢true (rw e at d)

pub word_byte_no_newline : (b : ℕ) → is_word_byte b ≡ true → b ≡ 10 → ⊥
word_byte_no_newline b w e = false≢true (rw e at w)
