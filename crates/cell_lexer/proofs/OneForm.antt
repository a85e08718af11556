-- Bytes have one longest token, which says one thing.
use Rattle.std.proofs.Common.{ℕ, ◌≡◌, ◌<◌, ◌≤◌, true, List, [], ◌∷◌, length, get_or, take, sym, refl, ap, ◌∙◌, subst, ⊎_elim, arith, length-take-le, get_or-take}
use Rattle.std.proofs.lemmas.Bool.{both_ways, cases_order, false_from_ne_true, false≢true}
use Rattle.sys_base.specs.Bytes.{is_letter, is_digit}
use Rattle.sys_base.specs.Key.{key_text}
use Rattle.sys_base.specs.Name.{IsWord}
use Rattle.sys_base.specs.declared.key.Key.{Key}
use Rattle.cell_lexer.specs.declared.token.Mark.{Mark}
use Rattle.cell_lexer.specs.declared.token.Sort.{Sort}
use Rattle.cell_lexer.specs.declared.token.Sort.TheVariants as S
use Rattle.cell_lexer.specs.Forms.{mark_text, IsDigits, value, greatest, Form, word, digits, mark, Longest, Says}
use Rattle.cell_lexer.specs.Faults.{IsBad, IsBig, IsLong}
use Rattle.cell_lexer.specs.Inner.Scanning.{IsSolid}
use Rattle.cell_lexer.proofs.ByteKinds.{letter_no_digit, letter_no_space, digit_no_space, letter_no_hash, digit_no_hash}
use Rattle.cell_lexer.proofs.Spellings.{IsSign, mark_signs, mark_some, one_mark, key_word, key_short, one_key}

-- a word, digits and a mark are different by their first bytes
pub word_no_digits : (bs : List ℕ) → IsWord bs → IsDigits bs → ⊥
word_no_digits bs w d = letter_no_digit (get_or bs 0 0) w.first (d.each 0 d.some)

pub first_sign : (bs : List ℕ) (m : Mark) → bs ≡ mark_text m → IsSign (get_or bs 0 0)
first_sign bs m e = let some = mark_some m in subst (λ x. IsSign (get_or x 0 0)) (sym e) (mark_signs m 0 (omega arith))

pub word_no_mark : (bs : List ℕ) (m : Mark) → IsWord bs → bs ≡ mark_text m → ⊥
word_no_mark bs m w e = both_ways _ (first_sign bs m e).no_letter w.first

pub digits_no_mark : (bs : List ℕ) (m : Mark) → IsDigits bs → bs ≡ mark_text m → ⊥
digits_no_mark bs m d e = both_ways _ (first_sign bs m e).no_digit (d.each 0 d.some)

word_from_key : (bs : List ℕ) (k : Key) → bs ≡ key_text k → IsWord bs
word_from_key bs k e = subst IsWord (sym e) (key_word k)

word_some : (bs : List ℕ) → IsWord bs → 0 < length bs
word_some [] w = absurd (false≢true w.first)
word_some (b ∷ bs) w = omega arith

-- no form is empty
pub form_some : (bs : List ℕ) → Form bs → 0 < length bs
form_some bs (word w) = word_some bs w
form_some bs (digits d) = d.some
form_some bs (mark m e) = let some = mark_some m in omega (arith, ap length e)

letter_solid : (b : ℕ) → is_letter b ≡ true → IsSolid b
letter_solid b l = record { no_space = false_from_ne_true _ (letter_no_space b l); no_hash = letter_no_hash b l }

digit_solid : (b : ℕ) → is_digit b ≡ true → IsSolid b
digit_solid b d = record { no_space = false_from_ne_true _ (digit_no_space b d); no_hash = digit_no_hash b d }

sign_solid : (b : ℕ) → IsSign b → IsSolid b
sign_solid b s = record { no_space = s.no_space; no_hash = λ e. both_ways _ s.no_hash (rw e refl) }

-- a form begins with a byte at which no gap goes on
pub form_first : (bs : List ℕ) → Form bs → IsSolid (get_or bs 0 0)
form_first bs (word w) = letter_solid _ w.first
form_first bs (digits d) = digit_solid _ (d.each 0 d.some)
form_first bs (mark m e) = sign_solid _ (first_sign bs m e)

-- what the first bytes of a longest form give
pub record Front (bs : List ℕ) (n : ℕ) : Type 0 where
  pub some : 0 < n
  pub inside : n ≤ length bs
  pub len : length (take n bs) ≡ n
  pub solid : IsSolid (get_or bs 0 0)

pub front_of : (bs : List ℕ) (n : ℕ) → Longest bs n → Front bs n
front_of bs n l =
    let len : length (take n bs) ≡ n = length-take-le n bs l.inside in
    let some : 0 < n = omega (arith, len, form_some _ l.form) in
    record { some = some; inside = l.inside; len = len; solid = subst IsSolid (get_or-take n bs 0 0 some) (form_first _ l.form) }

pub one_longest : (bs : List ℕ) (m n : ℕ) → Longest bs m → Longest bs n → m ≡ n
one_longest bs m n a b =
    ⊎_elim (λ e. e) (λ o. ⊎_elim (λ lt. absurd (a.longest n lt b.inside b.form)) (λ gt. absurd (b.longest m gt a.inside a.form)) o) (cases_order m n)

-- what bytes say is one thing
pub one_sort : (bs : List ℕ) (s t : Sort) → Says bs s → Says bs t → s ≡ t
one_sort bs S.Name S.Name a b = refl
one_sort bs S.Name (S.Number n) a b = absurd (word_no_digits bs a.word b.0)
one_sort bs S.Name (S.Key k) a b = absurd (a.free k b)
one_sort bs S.Name (S.Mark m) a b = absurd (word_no_mark bs m a.word b)
one_sort bs (S.Number n) S.Name a b = absurd (word_no_digits bs b.word a.0)
one_sort bs (S.Number m) (S.Number n) a b = ap S.Number (sym a.1 ∙ b.1)
one_sort bs (S.Number n) (S.Key k) a b = absurd (word_no_digits bs (word_from_key bs k b) a.0)
one_sort bs (S.Number n) (S.Mark m) a b = absurd (digits_no_mark bs m a.0 b)
one_sort bs (S.Key k) S.Name a b = absurd (b.free k a)
one_sort bs (S.Key k) (S.Number n) a b = absurd (word_no_digits bs (word_from_key bs k a) b.0)
one_sort bs (S.Key j) (S.Key k) a b = ap S.Key (one_key j k (sym a ∙ b))
one_sort bs (S.Key k) (S.Mark m) a b = absurd (word_no_mark bs m (word_from_key bs k a) b)
one_sort bs (S.Mark m) S.Name a b = absurd (word_no_mark bs m b.word a)
one_sort bs (S.Mark m) (S.Number n) a b = absurd (digits_no_mark bs m b.0 a)
one_sort bs (S.Mark m) (S.Key k) a b = absurd (word_no_mark bs m (word_from_key bs k b) a)
one_sort bs (S.Mark m) (S.Mark n) a b = ap S.Mark (one_mark m n (sym a ∙ b))

-- digits above the greatest number say nothing
big_dumb : (bs : List ℕ) (s : Sort) → IsDigits bs → greatest < value bs → Says bs s → ⊥
big_dumb bs S.Name d big a = word_no_digits bs a.word d
big_dumb bs (S.Number n) d big a = omega (arith, a.1, a.2)
big_dumb bs (S.Key k) d big a = word_no_digits bs (word_from_key bs k a) d
big_dumb bs (S.Mark m) d big a = digits_no_mark bs m d a

-- a word of more than 32 bytes says nothing
long_dumb : (bs : List ℕ) (s : Sort) → IsWord bs → 32 < length bs → Says bs s → ⊥
long_dumb bs S.Name w long a = omega (arith, a.short)
long_dumb bs (S.Number n) w long a = word_no_digits bs w a.0
long_dumb bs (S.Key k) w long a = omega (arith, ap length a, key_short k)
long_dumb bs (S.Mark m) w long a = word_no_mark bs m w a

-- no token stands here that says anything
abbrev pub IsDumb : List ℕ → Type 0
IsDumb bs = (n : ℕ) (s : Sort) → Longest bs n → Says (take n bs) s → ⊥

pub bad_is_dumb : (bs : List ℕ) → IsBad bs → IsDumb bs
bad_is_dumb bs bad n s l a = bad.no_token n l.form

pub big_is_dumb : (bs : List ℕ) (len : ℕ) → IsBig bs len → IsDumb bs
big_is_dumb bs len b n s l a = big_dumb (take len bs) s b.digits b.big (subst (λ k. Says (take k bs) s) (one_longest bs n len l b.longest) a)

pub long_is_dumb : (bs : List ℕ) (len : ℕ) → IsLong bs len → IsDumb bs
long_is_dumb bs len b n s l a = long_dumb (take len bs) s b.word (omega (arith, (front_of bs len b.longest).len, b.long)) (subst (λ k. Says (take k bs) s) (one_longest bs n len l b.longest) a)
