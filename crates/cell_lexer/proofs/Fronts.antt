-- What counting the bytes of a word or of a number gives.
use Rattle.std.proofs.Common.{ℕ, ◌≡◌, ◌<◌, ◌≤◌, Bool, true, false, List, [], ◌∷◌, length, get_or, take, sym, ap, ◌∙◌, subst, ⊎_elim, arith, length-take-le, get_or-take}
use Rattle.std.proofs.lemmas.Bool.{both_ways, false≢true, or_left, cases_lt}
use Rattle.sys_base.specs.Bytes.{is_letter, is_digit, is_word_byte}
use Rattle.sys_base.specs.Name.{IsWord}
use Rattle.cell_lexer.specs.Forms.{IsDigits, Longest}
use Rattle.cell_lexer.proofs.LongestForm.{longest_word, longest_digits}

-- the first n bytes pass a test, and the next one, if there is one, does not
pub record Run (test : ℕ → Bool) (bs : List ℕ) (n : ℕ) : Type 0 where
  pub inside : n ≤ length bs
  pub each : (k : ℕ) → k < n → test (get_or bs k 0) ≡ true
  pub stop : n < length bs → test (get_or bs n 0) ≡ false

run_some : (test : ℕ → Bool) (bs : List ℕ) (n : ℕ) → Run test bs n → test (get_or bs 0 0) ≡ true → 0 < length bs → 0 < n
run_some test bs n r t lt =
    ⊎_elim (λ some. some) (λ none. let zero : n ≡ 0 = omega arith in absurd (both_ways _ (r.stop (omega arith)) (subst (λ k. test (get_or bs k 0) ≡ true) (sym zero) t))) (cases_lt 0 n)

run_each : (test : ℕ → Bool) (bs : List ℕ) (n : ℕ) → Run test bs n → (k : ℕ) → k < length (take n bs) → test (get_or (take n bs) k 0) ≡ true
run_each test bs n r k lt =
    let lt' : k < n = omega (arith, length-take-le n bs r.inside) in
    ap test (get_or-take n bs k 0 lt') ∙ r.each k lt'

letter_some : (bs : List ℕ) → is_letter (get_or bs 0 0) ≡ true → 0 < length bs
letter_some [] l = absurd (false≢true l)
letter_some (b ∷ bs) l = omega arith

digit_some : (bs : List ℕ) → is_digit (get_or bs 0 0) ≡ true → 0 < length bs
digit_some [] l = absurd (false≢true l)
digit_some (b ∷ bs) l = omega arith

pub run_word : (bs : List ℕ) (n : ℕ) → Run is_word_byte bs n → is_letter (get_or bs 0 0) ≡ true → IsWord (take n bs)
run_word bs n r l =
    let some = run_some is_word_byte bs n r (or_left _ _ l) (letter_some bs l) in
    record { first = ap is_letter (get_or-take n bs 0 0 some) ∙ l; each = run_each is_word_byte bs n r }

pub run_longest_word : (bs : List ℕ) (n : ℕ) → Run is_word_byte bs n → is_letter (get_or bs 0 0) ≡ true → Longest bs n
run_longest_word bs n r l = longest_word bs n r.inside (run_word bs n r l) r.stop

pub run_digits : (bs : List ℕ) (n : ℕ) → Run is_digit bs n → is_digit (get_or bs 0 0) ≡ true → IsDigits (take n bs)
run_digits bs n r d =
    let some = run_some is_digit bs n r d (digit_some bs d) in
    record { some = omega (arith, length-take-le n bs r.inside); each = run_each is_digit bs n r }

pub run_longest_digits : (bs : List ℕ) (n : ℕ) → Run is_digit bs n → is_digit (get_or bs 0 0) ≡ true → Longest bs n
run_longest_digits bs n r d = longest_digits bs n r.inside (run_digits bs n r d) r.stop
