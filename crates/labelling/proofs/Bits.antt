-- The bits of a set of messages: one is read, one is set, and those of another set are added.
use Rattle.std.proofs.Common.{◌≡◌, ℕ, ◌*◌, ◌/◌, ◌%◌, ◌^◌, ◌<◌, ◌≤◌, Bool, true, false, ◌||◌, nat_eq, List, [], length, get_or, set, max, bit_and, bit_or, w64, sym, ◌∙◌, ap, refl, zero, suc, ◌∷◌, ⊎_elim, arith}
use Rattle.std.specs.Int.{bit_at}
use Rattle.std.proofs.lemmas.Bool.{cases_eq, eq-eqb, ne_eqb}
use Rattle.std.proofs.lemmas.List.{get_or-set_same, get_or-set_other, get_or_past}
use Rattle.std.proofs.lemmas.Nat.Bits.{shr_and_one, bit_at_set_same, bit_at_set_other, bit_at_or, bit_at-zero, bit_at-lt}
use Rattle.labelling.specs.bodies.Sets.{has}

-- the bit that is read
pub read : (words : List ℕ) (word message : ℕ) → word ≡ message / 64
    → nat_eq (bit_and (get_or words word 0 / 2 ^ (message % 64)) 1) 1 ≡ has words message
unfolding has
read words word message e =
    ap (λ v. nat_eq v 1) (shr_and_one (get_or words word 0) (message % 64) ∙ ap (λ i. bit_at (get_or words i 0) (message % 64)) e)

-- one bit is set
pub inserted : (words : List ℕ) (word message m : ℕ) → word ≡ message / 64 → word < length words
    → has (set words word (bit_or (get_or words word 0) (1 * 2 ^ (message % 64) % 2 ^ 64))) m ≡ (nat_eq m message || has words m)
unfolding has
inserted words word message m e lt =
    let k = message % 64 in
    let new = bit_or (get_or words word 0) (1 * 2 ^ k % 2 ^ 64) in
    ⊎_elim
    (λ here.
    let at : get_or (set words word new) (m / 64) 0 ≡ new = ap (λ i. get_or (set words word new) i 0) here ∙ get_or-set_same words word new 0 lt in
    let old : get_or words (m / 64) 0 ≡ get_or words word 0 = ap (λ i. get_or words i 0) here in
    ⊎_elim
    (λ same.
    ap (λ v. nat_eq v 1) (ap (λ v. bit_at v (m % 64)) at ∙ ap (bit_at new) same ∙ bit_at_set_same w64 (get_or words word 0) k (omega arith))
    ∙ sym (ap (λ b. b || nat_eq (bit_at (get_or words (m / 64) 0) (m % 64)) 1) (eq-eqb m message (omega arith))))
    (λ other.
    ap (λ v. nat_eq v 1)
    (ap (λ v. bit_at v (m % 64)) at ∙ bit_at_set_other w64 (get_or words word 0) k (omega arith) (m % 64) other
    ∙ sym (ap (λ v. bit_at v (m % 64)) old))
    ∙ sym (ap (λ b. b || nat_eq (bit_at (get_or words (m / 64) 0) (m % 64)) 1) (ne_eqb m message (λ q. other (ap (λ v. v % 64) q)))))
    (cases_eq (m % 64) k))
    (λ elsewhere.
    ap (λ v. nat_eq (bit_at v (m % 64)) 1) (get_or-set_other words word (m / 64) new 0 elsewhere)
    ∙ sym (ap (λ b. b || nat_eq (bit_at (get_or words (m / 64) 0) (m % 64)) 1) (ne_eqb m message (λ q. elsewhere (ap (λ v. v / 64) q ∙ sym e)))))
    (cases_eq (m / 64) word)

-- no message is in the set with no words
pub none_in_no_words : (m : ℕ) → has [] m ≡ false
unfolding has
none_in_no_words m = ap (λ v. nat_eq v 1) (bit_at-zero (m % 64))

-- no message is in the set with no bits
pub none_in_zeros : (words : List ℕ) (m : ℕ) → get_or words (m / 64) 0 ≡ 0 → has words m ≡ false
unfolding has
none_in_zeros words m e = ap (λ v. nat_eq v 1) (ap (λ v. bit_at v (m % 64)) e ∙ bit_at-zero (m % 64))

-- the greater one of two bits is 1 where one of them is
greater_bit : (x y : ℕ) → x < 2 → y < 2 → nat_eq (max x y) 1 ≡ (nat_eq x 1 || nat_eq y 1)
greater_bit x y lx ly =
    ⊎_elim
    (λ a. ⊎_elim
    (λ b. ap (λ v. nat_eq v 1) (let g : max x y ≡ 0 = omega arith in g) ∙ sym (ap (λ v. nat_eq v 1 || nat_eq y 1) a ∙ ap (λ v. nat_eq v 1) b))
    (λ b. ap (λ v. nat_eq v 1) (let g : max x y ≡ 1 = omega arith in g) ∙ sym (ap (λ v. nat_eq v 1 || nat_eq y 1) a ∙ ap (λ v. nat_eq v 1) (let g : y ≡ 1 = omega arith in g)))
    (cases_eq y 0))
    (λ a. ap (λ v. nat_eq v 1) (let g : max x y ≡ 1 = omega arith in g) ∙ sym (ap (λ v. nat_eq v 1 || nat_eq y 1) (let g : x ≡ 1 = omega arith in g)))
    (cases_eq x 0)

-- the bits of another set are added, where each word has been joined with the other one's
pub added : (old other new : List ℕ) (m : ℕ) → get_or new (m / 64) 0 ≡ bit_or (get_or old (m / 64) 0) (get_or other (m / 64) 0)
    → has new m ≡ (has old m || has other m)
unfolding has
added old other new m e =
    let x = get_or old (m / 64) 0 in
    let y = get_or other (m / 64) 0 in
    ap (λ v. nat_eq v 1) (ap (λ v. bit_at v (m % 64)) e ∙ bit_at_or x y (m % 64))
    ∙ greater_bit (bit_at x (m % 64)) (bit_at y (m % 64)) (bit_at-lt x (m % 64)) (bit_at-lt y (m % 64))

-- past the end of three lists of words all bits are 0
pub no_bits : (old other new : List ℕ) (i : ℕ) → length old ≤ i → length other ≤ i → length new ≤ i
    → get_or new i 0 ≡ bit_or (get_or old i 0) (get_or other i 0)
no_bits old other new i a b c =
    get_or_past new i 0 c ∙ sym (ap (λ x. bit_or x (get_or other i 0)) (get_or_past old i 0 a) ∙ ap (bit_or 0) (get_or_past other i 0 b))

-- each word of the set with no bits is 0
pub zero_word : (i : ℕ) → ◌≡◌ {A = ℕ} (get_or (0 ∷ 0 ∷ 0 ∷ 0 ∷ 0 ∷ 0 ∷ 0 ∷ 0 ∷ []) i 0) 0
zero_word zero = refl
zero_word (suc zero) = refl
zero_word (suc (suc zero)) = refl
zero_word (suc (suc (suc zero))) = refl
zero_word (suc (suc (suc (suc zero)))) = refl
zero_word (suc (suc (suc (suc (suc zero))))) = refl
zero_word (suc (suc (suc (suc (suc (suc zero)))))) = refl
zero_word (suc (suc (suc (suc (suc (suc (suc zero))))))) = refl
zero_word (suc (suc (suc (suc (suc (suc (suc (suc i)))))))) = refl

-- nothing is changed by what is false
pub or_false : (b : Bool) → (b || false) ≡ b
or_false true = refl
or_false false = refl
