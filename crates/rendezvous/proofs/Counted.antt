-- Communications and written words, counted.
use Rattle.std.proofs.Common.{◌≡◌, ℕ, ◌+◌, cond, nat_eq, zero-add, append-nil, true, false, List, [], ◌∷◌, ◌++◌, map, filter, refl, ap, ◌∙◌, arith}
use Rattle.std.proofs.lemmas.Bool.{eq-eqb, ne_eqb}
use Rattle.std.proofs.lemmas.List.{map-append}
use Rattle.std.proofs.lemmas.List.Elements.{filter-append}
use Rattle.std.proofs.lemmas.List.Sums.{sum_by-append, sum_by-cons, sum_by_push}
use Rattle.sys_base.specs.Communications.{Communication, Writes, Reads, Takes, Emits, same_communication, times}
use Rattle.sys_base.specs.declared.word.Word.{Word}
use Rattle.comm_sequence.specs.Sequences.{comms}

-- what is no write or read reads nothing
pub quiet_reads : (m : ℕ) (xs : List Communication) → comms xs ≡ [] → times (Reads m) xs ≡ 0
quiet_reads m [] h = refl
quiet_reads m (Writes n ∷ xs) h = absurd (cc h)
quiet_reads m (Reads n ∷ xs) h = absurd (cc h)
quiet_reads m (Takes ∷ xs) h = sum_by-cons _ Takes xs ∙ zero-add (times (Reads m) xs) ∙ quiet_reads m xs h
quiet_reads m (Emits ∷ xs) h = sum_by-cons _ Emits xs ∙ zero-add (times (Reads m) xs) ∙ quiet_reads m xs h

-- how often a communication counts as another one
abbrev pub counts : Communication → Communication → ℕ
counts x c = cond (same_communication x c) 1 0

-- one communication more, after some that read nothing
pub reads_more : (m : ℕ) (made more : List Communication) (c : Communication) → comms more ≡ []
    → times (Reads m) ((made ++ more) ++ c ∷ []) ≡ times (Reads m) made + counts (Reads m) c
reads_more m made more c quiet =
    omega (
      arith,
      sum_by_push (counts (Reads m)) (made ++ more) c,
      sum_by-append (counts (Reads m)) made more,
      quiet_reads m more quiet,
    )

pub reads_quiet : (m : ℕ) (made more : List Communication) → comms more ≡ []
    → times (Reads m) (made ++ more) ≡ times (Reads m) made
reads_quiet m made more quiet =
    omega (arith, sum_by-append (counts (Reads m)) made more, quiet_reads m more quiet)

-- ---- written words

-- the words of a message among words of messages
abbrev pub words_in : ℕ → List (ℕ × Word) → List Word
words_in m sent = map (λ (s : ℕ × Word). s.1) (filter (λ (s : ℕ × Word). nat_eq m s.0) sent)

pub words_one : (m n : ℕ) (w : Word) → words_in m ((n, w) ∷ []) ≡ cond (nat_eq m n) (w ∷ []) []
words_one m n w = elim (nat_eq m n) as (λ b. map (λ (s : ℕ × Word). s.1) (cond b ((n, w) ∷ []) []) ≡ cond b (w ∷ []) []) [
  | true ↦ refl
  | false ↦ refl
]

-- the words of a message in two parts
pub words_both : (m : ℕ) (xs ys : List (ℕ × Word)) → words_in m (xs ++ ys) ≡ words_in m xs ++ words_in m ys
words_both m xs ys =
    ap (map (λ (s : ℕ × Word). s.1)) (filter-append (λ (s : ℕ × Word). nat_eq m s.0) xs ys)
    ∙ map-append (λ (s : ℕ × Word). s.1) (filter (λ (s : ℕ × Word). nat_eq m s.0) xs)
    (filter (λ (s : ℕ × Word). nat_eq m s.0) ys)

words_push : (m n : ℕ) (w : Word) (sent : List (ℕ × Word))
    → words_in m (sent ++ (n, w) ∷ []) ≡ words_in m sent ++ cond (nat_eq m n) (w ∷ []) []
words_push m n w sent = words_both m sent ((n, w) ∷ []) ∙ ap (λ xs. words_in m sent ++ xs) (words_one m n w)

-- a word of this message more
pub words_same : (m n : ℕ) (w : Word) (sent : List (ℕ × Word)) → m ≡ n
    → words_in m (sent ++ (n, w) ∷ []) ≡ words_in m sent ++ w ∷ []
words_same m n w sent same =
    words_push m n w sent ∙ ap (λ b. words_in m sent ++ cond b (w ∷ []) []) (eq-eqb m n same)

-- a word of another message more
pub words_other : (m n : ℕ) (w : Word) (sent : List (ℕ × Word)) → (m ≡ n → ⊥)
    → words_in m (sent ++ (n, w) ∷ []) ≡ words_in m sent
words_other m n w sent other =
    words_push m n w sent ∙ ap (λ b. words_in m sent ++ cond b (w ∷ []) []) (ne_eqb m n other)
    ∙ append-nil (words_in m sent)
