-- The words of a line are read back.
use Rattle.std.proofs.Common.{◌≡◌, ℕ, ◌<◌, ◌≤◌, List, [], ◌∷◌, ◌++◌, All, get_or, drop, refl, sym, ap, ◌∙◌, arith, lit≤, append_assoc}
use Rattle.std.proofs.lemmas.List.Elements.{All-head, All-tail}
use Rattle.object_io.specs.Objects.{line, spaced}
use Rattle.object_io.specs.Words.{IsWord}

-- what stands behind a word: the other words of its line, its newline, and the rest
abbrev behind : List (List ℕ) → List ℕ → List ℕ
behind [] rest = 10 ∷ rest
behind (word ∷ words) rest = 32 ∷ (word ++ behind words rest)

behind_stops : (words : List (List ℕ)) (rest : List ℕ) → get_or (behind words rest) 0 0 ≤ 32
behind_stops [] rest = lit≤ tt
behind_stops (word ∷ words) rest = lit≤ tt

spaced_behind : (words : List (List ℕ)) (rest : List ℕ) → spaced words ++ 10 ∷ rest ≡ behind words rest
spaced_behind [] rest = refl
spaced_behind (word ∷ words) rest =
    ap (λ (t : List ℕ). 32 ∷ t)
    (append_assoc word (spaced words) (10 ∷ rest) ∙ ap (λ (t : List ℕ). word ++ t) (spaced_behind words rest))

line_behind : (first : List ℕ) (others : List (List ℕ)) (rest : List ℕ) → line first others ++ rest ≡ first ++ behind others rest
line_behind first others rest =
    append_assoc (first ++ spaced others) (10 ∷ []) rest
    ∙ append_assoc first (spaced others) (10 ∷ rest)
    ∙ ap (λ (t : List ℕ). first ++ t) (spaced_behind others rest)

above : ℕ → Type 0
above b = 32 < b

-- a word ends at the first byte that is none of its own
word_cut : (xs us ys vs : List ℕ) → IsWord xs → IsWord us → get_or ys 0 0 ≤ 32 → get_or vs 0 0 ≤ 32 → xs ++ ys ≡ us ++ vs
    → (xs ≡ us) × (ys ≡ vs)
word_cut [] [] ys vs h k low low_too e = (refl, e)
word_cut [] (u ∷ us) ys vs h k low low_too e =
    let high = All-head (λ b. 32 < b) u us k in
    let same = ap (λ (l : List ℕ). get_or l 0 0) e in absurd (omega (arith, high, same, low))
word_cut (x ∷ xs) [] ys vs h k low low_too e =
    let high = All-head (λ b. 32 < b) x xs h in
    let same = ap (λ (l : List ℕ). get_or l 0 0) e in absurd (omega (arith, high, same, low_too))
word_cut (x ∷ xs) (u ∷ us) ys vs h k low low_too e =
    let same : x ≡ u = ap (λ (l : List ℕ). get_or l 0 0) e in
    let tail : xs ++ ys ≡ us ++ vs = ap (drop 1) e in
    let rest = word_cut xs us ys vs (All-tail (λ b. 32 < b) x xs h) (All-tail (λ b. 32 < b) u us k) low low_too tail in
    (ap (λ b. b ∷ xs) same ∙ ap (λ l. u ∷ l) rest.0, rest.1)

words_cut : (os ps : List (List ℕ)) (s t : List ℕ) → All IsWord os → All IsWord ps → behind os s ≡ behind ps t
    → (os ≡ ps) × (s ≡ t)
words_cut [] [] s t h k e = (refl, ap (drop 1) e)
words_cut [] (p ∷ ps) s t h k e =
    let same : 10 ≡ 32 = ap (λ (l : List ℕ). get_or l 0 0) e in absurd (omega (arith, same))
words_cut (o ∷ os) [] s t h k e =
    let same : 32 ≡ 10 = ap (λ (l : List ℕ). get_or l 0 0) e in absurd (omega (arith, same))
words_cut (o ∷ os) (p ∷ ps) s t h k e =
    let tail : o ++ behind os s ≡ p ++ behind ps t = ap (drop 1) e in
    let one = word_cut o p (behind os s) (behind ps t) (All-head IsWord o os h) (All-head IsWord p ps k)
    (behind_stops os s) (behind_stops ps t) tail in
    let rest = words_cut os ps s t (All-tail IsWord o os h) (All-tail IsWord p ps k) one.1 in
    (ap (λ l. l ∷ os) one.0 ∙ ap (λ l. p ∷ l) rest.0, rest.1)

-- two texts that begin with lines of equal bytes have equal words there, and equal rests
pub line_cut : (f g : List ℕ) (os ps : List (List ℕ)) (s t : List ℕ) → IsWord f → IsWord g → All IsWord os → All IsWord ps
    → line f os ++ s ≡ line g ps ++ t → (f ≡ g) × (os ≡ ps) × (s ≡ t)
line_cut f g os ps s t hf hg h k e =
    let same = sym (line_behind f os s) ∙ e ∙ line_behind g ps t in
    let one = word_cut f g (behind os s) (behind ps t) hf hg (behind_stops os s) (behind_stops ps t) same in
    let rest = words_cut os ps s t h k one.1 in
    (one.0, rest.0, rest.1)
