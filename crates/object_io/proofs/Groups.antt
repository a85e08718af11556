-- The text of a group is read back.
use Rattle.std.proofs.Common.{◌≡◌, ℕ, ◌<◌, ◌≤◌, ◌^◌, List, [], ◌∷◌, ◌++◌, All, length, get_or, drop, decimal, refl, sym, ap, subst, ◌∙◌, arith, lit<, append_assoc}
use Rattle.std.proofs.lemmas.Fmt.{digits_decimal, decimal_nonempty}
use Rattle.std.proofs.lemmas.List.Elements.{All-append, All-cons, All-head, All-nil, All-tail}
use Rattle.std.proofs.lemmas.Str.Parse.{IsNumeralModel, numerals_by_value, tells_digits}
use Rattle.std.specs.Str.Parse.{AllDigits, digits_value}
use Rattle.cell_code.specs.declared.image.Group.{Group}
use Rattle.object_io.specs.Objects.{behind_commas, group_text, with_commas}
use Rattle.object_io.specs.Words.{IsWord}
use Rattle.object_io.proofs.Numbers.{decimal_is_word, number_back}

abbrev Digit : ℕ → Type 0
Digit b = (48 ≤ b) × (b ≤ 57)

own : IsNumeralModel (AllDigits 10) (digits_value 10)
own = numerals_by_value (AllDigits 10) tells_digits

digits_are : (xs : List ℕ) → AllDigits 10 xs → All Digit xs
digits_are [] h = All-nil Digit
digits_are (x ∷ xs) h =
    let parts = tells_digits.parts x xs h in
    let low = parts.0 in
    All-cons Digit x xs (omega (arith, low), omega (arith, low)) (digits_are xs parts.1)

decimal_digits : (n : ℕ) → n < 2 ^ 64 → All Digit (decimal n)
decimal_digits n small = digits_are (decimal n) (digits_decimal own n small)

digits_cut : (xs us ys vs : List ℕ) → All Digit xs → All Digit us → (Digit (get_or ys 0 0) → ⊥) → (Digit (get_or vs 0 0) → ⊥)
    → xs ++ ys ≡ us ++ vs → (xs ≡ us) × (ys ≡ vs)
digits_cut [] [] ys vs h k stop stop_too e = (refl, e)
digits_cut [] (u ∷ us) ys vs h k stop stop_too e =
    absurd (stop (subst Digit (sym (ap (λ (l : List ℕ). get_or l 0 0) e)) (All-head Digit u us k)))
digits_cut (x ∷ xs) [] ys vs h k stop stop_too e =
    absurd (stop_too (subst Digit (ap (λ (l : List ℕ). get_or l 0 0) e) (All-head Digit x xs h)))
digits_cut (x ∷ xs) (u ∷ us) ys vs h k stop stop_too e =
    let same : x ≡ u = ap (λ (l : List ℕ). get_or l 0 0) e in
    let tail : xs ++ ys ≡ us ++ vs = ap (drop 1) e in
    let rest = digits_cut xs us ys vs (All-tail Digit x xs h) (All-tail Digit u us k) stop stop_too tail in
    (ap (λ b. b ∷ xs) same ∙ ap (λ l. u ∷ l) rest.0, rest.1)

-- a number before what is no digit
pub decimal_cut : (m n : ℕ) (ys vs : List ℕ) → m < 2 ^ 64 → n < 2 ^ 64 → (Digit (get_or ys 0 0) → ⊥) → (Digit (get_or vs 0 0) → ⊥)
    → decimal m ++ ys ≡ decimal n ++ vs → (m ≡ n) × (ys ≡ vs)
decimal_cut m n ys vs h k stop stop_too e =
    let cut = digits_cut (decimal m) (decimal n) ys vs (decimal_digits m h) (decimal_digits n k) stop stop_too e in
    (sym (number_back m h) ∙ ap (digits_value 10) cut.0 ∙ number_back n k, cut.1)

abbrev pub Small : ℕ → Type 0
Small n = n < 2 ^ 16

commas_stop : (ns : List ℕ) → Digit (get_or (behind_commas ns) 0 0) → ⊥
commas_stop [] d = let low = d.0 in omega (arith, low)
commas_stop (n ∷ ns) d = let low = d.0 in omega (arith, low)

behind_same : (ms ns : List ℕ) → All Small ms → All Small ns → behind_commas ms ≡ behind_commas ns → ms ≡ ns
behind_same [] [] h k e = refl
behind_same [] (n ∷ ns) h k e = absurd (cc)
behind_same (m ∷ ms) [] h k e = absurd (cc)
behind_same (m ∷ ms) (n ∷ ns) h k e =
    let tail : decimal m ++ behind_commas ms ≡ decimal n ++ behind_commas ns = ap (drop 1) e in
    let one = All-head Small m ms h in
    let two = All-head Small n ns k in
    let cut = decimal_cut m n (behind_commas ms) (behind_commas ns) (omega (arith, one)) (omega (arith, two)) (commas_stop ms) (commas_stop ns) tail in
    ap (λ b. b ∷ ms) cut.0 ∙ ap (λ l. n ∷ l) (behind_same ms ns (All-tail Small m ms h) (All-tail Small n ns k) cut.1)

filled : (n : ℕ) (ys : List ℕ) → n < 2 ^ 64 → [] ≡ decimal n ++ ys → ⊥
filled n ys small e = go (decimal n) (decimal_nonempty n small) e
  where
    go : (xs : List ℕ) → 0 < length xs → [] ≡ xs ++ ys → ⊥
    go [] some e = omega (arith, some)
    go (x ∷ xs) some e = absurd (cc)

commas_same : (ms ns : List ℕ) → All Small ms → All Small ns → with_commas ms ≡ with_commas ns → ms ≡ ns
commas_same [] [] h k e = refl
commas_same [] (n ∷ ns) h k e =
    let two = All-head Small n ns k in absurd (filled n (behind_commas ns) (omega (arith, two)) e)
commas_same (m ∷ ms) [] h k e =
    let one = All-head Small m ms h in absurd (filled m (behind_commas ms) (omega (arith, one)) (sym e))
commas_same (m ∷ ms) (n ∷ ns) h k e =
    let one = All-head Small m ms h in
    let two = All-head Small n ns k in
    let cut = decimal_cut m n (behind_commas ms) (behind_commas ns) (omega (arith, one)) (omega (arith, two)) (commas_stop ms) (commas_stop ns) e in
    ap (λ b. b ∷ ms) cut.0 ∙ ap (λ l. n ∷ l) (behind_same ms ns (All-tail Small m ms h) (All-tail Small n ns k) cut.1)

-- one group
pub group_same : (g h : Group) → Small g.label → Small h.label → All Small g.members → All Small h.members
    → group_text g ≡ group_text h → g ≡ h
group_same g h s t u v e =
    let split : (x : Group) → group_text x ≡ decimal x.label ++ 58 ∷ with_commas x.members =
    λ x. append_assoc (decimal x.label) (58 ∷ []) (with_commas x.members) in
    let stop : (x : Group) → Digit (get_or (58 ∷ with_commas x.members) 0 0) → ⊥ = λ x d. let high = d.1 in omega (arith, high) in
    let cut = decimal_cut g.label h.label (58 ∷ with_commas g.members) (58 ∷ with_commas h.members) (omega (arith, s)) (omega (arith, t))
    (stop g) (stop h) (sym (split g) ∙ e ∙ split h) in
    let members = commas_same g.members h.members u v (ap (drop 1) cut.1) in
    ap (λ l. record { label = l; members = g.members }) cut.0 ∙ ap (λ ms. record { label = h.label; members = ms }) members

-- its text is a word
behind_is_word : (ns : List ℕ) → All Small ns → IsWord (behind_commas ns)
behind_is_word [] h = All-nil (λ b. 32 < b)
behind_is_word (n ∷ ns) h =
    let one = All-head Small n ns h in
    All-cons (λ b. 32 < b) 44 (decimal n ++ behind_commas ns) (lit< tt)
    (All-append (λ b. 32 < b) (decimal n) (behind_commas ns) (decimal_is_word n (omega (arith, one))) (behind_is_word ns (All-tail Small n ns h)))

commas_are_word : (ns : List ℕ) → All Small ns → IsWord (with_commas ns)
commas_are_word [] h = All-nil (λ b. 32 < b)
commas_are_word (n ∷ ns) h =
    let one = All-head Small n ns h in
    All-append (λ b. 32 < b) (decimal n) (behind_commas ns) (decimal_is_word n (omega (arith, one))) (behind_is_word ns (All-tail Small n ns h))

pub group_is_word : (g : Group) → Small g.label → All Small g.members → IsWord (group_text g)
group_is_word g s u =
    All-append (λ b. 32 < b) (decimal g.label ++ 58 ∷ []) (with_commas g.members)
    (All-append (λ b. 32 < b) (decimal g.label) (58 ∷ []) (decimal_is_word g.label (omega (arith, s)))
    (All-cons (λ b. 32 < b) 58 [] (lit< tt) (All-nil (λ b. 32 < b)))) (commas_are_word g.members u)
