-- When the first bytes of a list are its longest token.
use Rattle.std.proofs.Common.{ℕ, ◌≡◌, ◌<◌, ◌≤◌, true, false, List, [], ◌∷◌, length, get_or, take, sym, refl, ap, ◌∙◌, subst, ⊎_elim, arith, length-take-le, get_or-take, take_all}
use Rattle.std.proofs.lemmas.Bool.{both_ways, cases_lt}
use Rattle.sys_base.specs.Bytes.{is_letter, is_digit, is_word_byte}
use Rattle.sys_base.specs.Name.{IsWord}
use Rattle.cell_lexer.specs.declared.token.Mark.{Mark}
use Rattle.cell_lexer.specs.Inner.Scanning.{IsSolid}
use Rattle.cell_lexer.specs.Faults.{IsBad}
use Rattle.cell_lexer.specs.Forms.{mark_text, IsDigits, Form, word, digits, mark, Longest}
use Rattle.cell_lexer.proofs.ByteKinds.{letter_no_digit, digit_no_newline, word_byte_no_newline}
use Rattle.cell_lexer.proofs.Spellings.{IsSign, mark_signs, mark_some, mark_short}
use Rattle.cell_lexer.proofs.OneForm.{first_sign, form_some}

-- a form that begins with a letter has only bytes of a word
word_bytes : (bs : List ℕ) → Form bs → is_letter (get_or bs 0 0) ≡ true → (i : ℕ) → i < length bs → is_word_byte (get_or bs i 0) ≡ true
word_bytes bs (word w) l = w.each
word_bytes bs (digits d) l = absurd (letter_no_digit (get_or bs 0 0) l (d.each 0 d.some))
word_bytes bs (mark m e) l = absurd (both_ways _ (first_sign bs m e).no_letter l)

-- a form that begins with a digit has only digits
digit_bytes : (bs : List ℕ) → Form bs → is_digit (get_or bs 0 0) ≡ true → (i : ℕ) → i < length bs → is_digit (get_or bs i 0) ≡ true
digit_bytes bs (word w) d = absurd (letter_no_digit (get_or bs 0 0) w.first d)
digit_bytes bs (digits e) d = e.each
digit_bytes bs (mark m e) d = absurd (both_ways _ (first_sign bs m e).no_digit d)

-- a form that begins with neither is a mark
mark_bytes : (bs : List ℕ) → Form bs → is_letter (get_or bs 0 0) ≡ false → is_digit (get_or bs 0 0) ≡ false → (m : Mark) × (bs ≡ mark_text m)
mark_bytes bs (word w) l d = absurd (both_ways _ l w.first)
mark_bytes bs (digits e) l d = absurd (both_ways _ d (e.each 0 e.some))
mark_bytes bs (mark m e) l d = (m, e)

-- no form has a newline
pub form_no_newline : (bs : List ℕ) → Form bs → (i : ℕ) → i < length bs → get_or bs i 0 ≡ 10 → ⊥
form_no_newline bs (word w) i lt e = word_byte_no_newline _ (w.each i lt) e
form_no_newline bs (digits d) i lt e = digit_no_newline _ (d.each i lt) e
form_no_newline bs (mark m q) i lt e =
    let s = subst (λ x. IsSign (get_or x i 0)) (sym q) (mark_signs m i (omega (arith, ap length q))) in
    both_ways _ s.no_newline (rw e refl)

-- the first byte, and a byte further on, in a front of the bytes
front_first : (bs : List ℕ) (k : ℕ) → 0 < k → get_or (take k bs) 0 0 ≡ get_or bs 0 0
front_first bs k lt = get_or-take k bs 0 0 lt

same_first : (bs : List ℕ) (n k : ℕ) → 0 < n → 0 < k → get_or (take k bs) 0 0 ≡ get_or (take n bs) 0 0
same_first bs n k lt lt' = front_first bs k lt' ∙ sym (front_first bs n lt)

pub longest_word : (bs : List ℕ) (n : ℕ) → n ≤ length bs → IsWord (take n bs) → (n < length bs → is_word_byte (get_or bs n 0) ≡ false) → Longest bs n
longest_word bs n le w stop =
    let len = length-take-le n bs le in
    let some : 0 < n = omega (arith, len, form_some (take n bs) (word w)) in
    record {
      inside = le;
      form = word w;
      longest = λ k lt le' f.
          let first : is_letter (get_or (take k bs) 0 0) ≡ true = ap is_letter (same_first bs n k some (omega arith)) ∙ w.first in
          let passes = word_bytes (take k bs) f first n (omega (arith, length-take-le k bs le')) in
          both_ways _ (stop (omega arith)) (ap is_word_byte (sym (get_or-take k bs n 0 lt)) ∙ passes);
    }

pub longest_digits : (bs : List ℕ) (n : ℕ) → n ≤ length bs → IsDigits (take n bs) → (n < length bs → is_digit (get_or bs n 0) ≡ false) → Longest bs n
longest_digits bs n le d stop =
    let len = length-take-le n bs le in
    let some : 0 < n = omega (arith, len, d.some) in
    record {
      inside = le;
      form = digits d;
      longest = λ k lt le' f.
          let first : is_digit (get_or (take k bs) 0 0) ≡ true = ap is_digit (same_first bs n k some (omega arith)) ∙ d.each 0 d.some in
          let passes = digit_bytes (take k bs) f first n (omega (arith, length-take-le k bs le')) in
          both_ways _ (stop (omega arith)) (ap is_digit (sym (get_or-take k bs n 0 lt)) ∙ passes);
    }

-- no longer front is a mark
abbrev pub NoLongerMark : List ℕ → ℕ → Type 0
NoLongerMark bs n = (k : ℕ) (m : Mark) → n < k → k ≤ length bs → take k bs ≡ mark_text m → ⊥

pub longest_mark : (bs : List ℕ) (n : ℕ) (m : Mark) → n ≤ length bs → take n bs ≡ mark_text m → NoLongerMark bs n → Longest bs n
longest_mark bs n m le e none =
    let len = length-take-le n bs le in
    let some : 0 < n = omega (arith, len, ap length e, mark_some m) in
    let sign = first_sign (take n bs) m e in
    record {
      inside = le;
      form = mark m e;
      longest = λ k lt le' f.
          let same = same_first bs n k some (omega arith) in
          let found = mark_bytes (take k bs) f (ap is_letter same ∙ sign.no_letter) (ap is_digit same ∙ sign.no_digit) in
          none k found.0 lt le' found.1;
    }

pub two_bytes_longest : (bs : List ℕ) (m : Mark) → 1 < length bs → take 2 bs ≡ mark_text m → Longest bs 2
two_bytes_longest bs m lt e =
    longest_mark bs 2 m (omega arith) e (λ k p lt' le e'. omega (arith, length-take-le k bs le, ap length e', mark_short p))

-- no mark of two bytes stands at the front
abbrev pub NoPair : List ℕ → Type 0
NoPair bs = 1 < length bs → (m : Mark) → take 2 bs ≡ mark_text m → ⊥

no_longer_single : (bs : List ℕ) → NoPair bs → NoLongerMark bs 1
no_longer_single bs none k m lt le e =
    let short : k ≡ 2 = omega (arith, length-take-le k bs le, ap length e, mark_short m) in
    none (omega arith) m (subst (λ j. take j bs ≡ mark_text m) short e)

first_byte : (bs : List ℕ) → 0 < length bs → take 1 bs ≡ get_or bs 0 0 ∷ []
first_byte [] lt = absurd (omega arith)
first_byte (b ∷ bs) lt = refl

pub one_byte_longest : (bs : List ℕ) (m : Mark) → 0 < length bs → get_or bs 0 0 ∷ [] ≡ mark_text m → NoPair bs → Longest bs 1
one_byte_longest bs m lt e none = longest_mark bs 1 m (omega arith) (first_byte bs lt ∙ e) (no_longer_single bs none)

-- no form stands at all
no_form : (bs : List ℕ) (k : ℕ) → k ≤ length bs → is_letter (get_or bs 0 0) ≡ false → is_digit (get_or bs 0 0) ≡ false → ((m : Mark) → get_or bs 0 0 ∷ [] ≡ mark_text m → ⊥) → NoPair bs → Form (take k bs) → ⊥
no_form bs k le letter digit single pair f =
    let len = length-take-le k bs le in
    let some : 0 < k = omega (arith, len, form_some (take k bs) f) in
    let first = front_first bs k some in
    let found = mark_bytes (take k bs) f (ap is_letter first ∙ letter) (ap is_digit first ∙ digit) in
    ⊎_elim
    (λ lt. no_longer_single bs pair k found.0 lt le found.1)
    (λ ge. let one : k ≡ 1 = omega arith in single found.0 (sym (first_byte bs (omega arith)) ∙ subst (λ j. take j bs ≡ mark_text found.0) one found.1))
    (cases_lt 1 k)

-- a front past the end is the whole
within_front : (bs : List ℕ) (k : ℕ) → (j : ℕ) × (j ≤ length bs) × (take k bs ≡ take j bs)
within_front bs k = ⊎_elim (λ lt. (k, omega arith, refl)) (λ ge. (length bs, omega arith, take_all k bs ge ∙ sym (take_all (length bs) bs (omega arith)))) (cases_lt k (length bs))

-- a byte that begins no word, no number and no mark is bad
pub bad_byte : (bs : List ℕ) → 0 < length bs → IsSolid (get_or bs 0 0) → is_letter (get_or bs 0 0) ≡ false → is_digit (get_or bs 0 0) ≡ false → ((m : Mark) → get_or bs 0 0 ∷ [] ≡ mark_text m → ⊥) → NoPair bs → IsBad bs
bad_byte bs some solid letter digit single pair = record {
  no_space = solid.no_space;
  no_comment = solid.no_hash;
  no_token = λ k f. let w = within_front bs k in no_form bs w.0 w.1 letter digit single pair (subst Form w.2 f);
}
