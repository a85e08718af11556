-- Events of a prefix of an order.
use Rattle.std.proofs.Common.{◌≡◌, ℕ, zero, suc, ◌+◌, ◌<◌, ◌≤◌, ◌⊎◌, Bool, true, cond, nat_eq, zero-add, List, [], ◌∷◌, ◌++◌, length, take, get_or, filter, count_by, All, refl, sym, ap, ◌∙◌, inl, inr, arith}
use Rattle.std.proofs.lemmas.Bool.{cases_Bool, cases_lt, eqb-true}
use Rattle.std.proofs.lemmas.List.{take_all, take_more}
use Rattle.std.proofs.lemmas.List.Elements.{All-head, All-tail}
use Rattle.std.proofs.lemmas.List.Sums.{sum_by-cons}
use Rattle.sys_base.specs.Communications.{Communication, Writes, Reads, Takes, Emits, times}
use Rattle.comm_sequence.specs.BufferedOrder.{occurrences, same}
use Rattle.comm_sequence.specs.Sequences.{comms, message_of}
use Rattle.comm_sequence.specs.declared.comm.Comm.{Comm}
use Rattle.comm_sequence.specs.declared.comm.Comm.TheVariants as C
use Rattle.rendezvous.proofs.Events.{occurs_more}

-- the reads of a message among communications are those among their writes and reads
pub counted_reads : (m : ℕ) (xs : List Communication) → times (Reads m) xs ≡ occurrences (C.Read m) (comms xs)
counted_reads m [] = refl
counted_reads m (Reads n ∷ xs) =
    sum_by-cons _ (Reads n) xs ∙ ap (λ k. cond (nat_eq m n) 1 0 + k) (counted_reads m xs)
    ∙ sym (sum_by-cons _ (C.Read n) (comms xs))
counted_reads m (Writes n ∷ xs) =
    sum_by-cons _ (Writes n) xs ∙ ap (λ k. 0 + k) (counted_reads m xs) ∙ sym (sum_by-cons _ (C.Write n) (comms xs))
counted_reads m (Takes ∷ xs) = sum_by-cons _ Takes xs ∙ zero-add (times (Reads m) xs) ∙ counted_reads m xs
counted_reads m (Emits ∷ xs) = sum_by-cons _ Emits xs ∙ zero-add (times (Reads m) xs) ∙ counted_reads m xs

-- so many of the communications of a cell have just the first writes and reads
pub cut_comms : (xs : List Communication) (a b : List Comm) → comms xs ≡ a ++ b → (n : ℕ) × (comms (take n xs) ≡ a)
cut_comms xs [] b e = (0, refl)
cut_comms [] (x ∷ a) b e = absurd (cc e)
cut_comms (Writes m ∷ xs) (x ∷ a) b e =
    let head : C.Write m ≡ x = cc in
    let tail : comms xs ≡ a ++ b = cc in
    let more = cut_comms xs a b tail in
    (suc more.0, ap (λ ys. C.Write m ∷ ys) more.1 ∙ ap (λ y. y ∷ a) head)
cut_comms (Reads m ∷ xs) (x ∷ a) b e =
    let head : C.Read m ≡ x = cc in
    let tail : comms xs ≡ a ++ b = cc in
    let more = cut_comms xs a b tail in
    (suc more.0, ap (λ ys. C.Read m ∷ ys) more.1 ∙ ap (λ y. y ∷ a) head)
cut_comms (Takes ∷ xs) (x ∷ a) b e = let more = cut_comms xs (x ∷ a) b e in (suc more.0, more.1)
cut_comms (Emits ∷ xs) (x ∷ a) b e = let more = cut_comms xs (x ∷ a) b e in (suc more.0, more.1)

-- what passes a test counts no more often than all
pub count_filter_le : {A : Type 0} (p q : A → Bool) (xs : List A) → count_by q (filter p xs) ≤ count_by q xs
count_filter_le p q [] = omega arith
count_filter_le p q (x ∷ xs) =
    let rest = count_filter_le p q xs in
    let all = sum_by-cons (λ y. cond (q y) 1 0) x xs in
    elim (cases_Bool (p x)) as (λ _. count_by q (filter p (x ∷ xs)) ≤ count_by q (x ∷ xs)) [
      | inl holds ↦
          let is : count_by q (filter p (x ∷ xs)) ≡ cond (q x) 1 0 + count_by q (filter p xs) =
          ap (λ b. count_by q (cond b (x ∷ filter p xs) (filter p xs))) holds
          ∙ sum_by-cons (λ y. cond (q y) 1 0) x (filter p xs) in
          omega (arith, is, rest, all)
      | inr fails ↦
          let is : count_by q (filter p (x ∷ xs)) ≡ count_by q (filter p xs) =
          ap (λ b. count_by q (cond b (x ∷ filter p xs) (filter p xs))) fails in
          omega (arith, is, rest, all)
    ]

-- operations that are the same
same_message : (x y : Comm) → same x y ≡ true → message_of x ≡ message_of y
same_message (C.Write m) (C.Write n) h = eqb-true m n h
same_message (C.Write m) (C.Read n) h = absurd (cc h)
same_message (C.Read m) (C.Write n) h = absurd (cc h)
same_message (C.Read m) (C.Read n) h = eqb-true m n h

pub same_write : (m : ℕ) (y : Comm) → same (C.Write m) y ≡ true → y ≡ C.Write m
same_write m (C.Write n) h = ap (λ i. C.Write i) (sym (eqb-true m n h))
same_write m (C.Read n) h = absurd (cc h)

-- an operation that occurs among known ones is known
pub occurs_known : (count : ℕ) (x : Comm) (xs : List Comm) → All (λ y. message_of y < count) xs → 0 < occurrences x xs
    → message_of x < count
occurs_known count x [] all h = absurd (omega arith)
occurs_known count x (y ∷ ys) all h =
    let one = sum_by-cons (λ z. cond (same x z) 1 0) y ys in
    elim (cases_Bool (same x y)) as (λ _. message_of x < count) [
      | inl holds ↦
          let first : message_of y < count = All-head (λ z. message_of z < count) y ys all in
          omega (arith, first, same_message x y holds)
      | inr fails ↦
          let none : ◌≡◌ {A = ℕ} (cond (same x y) 1 0) 0 = ap (λ b. cond b 1 0) fails in
          occurs_known count x ys (All-tail (λ z. message_of z < count) y ys all) (omega (arith, h, one, none))
    ]

-- where an operation has occurred more often by one event, that event is it
pub new_event : (x : Comm) (order : List Comm) (k i : ℕ) → i < occurrences x (take (suc k) order)
    → (i < occurrences x (take k order)) ⊎ ((e : Comm) × (take (suc k) order ≡ take k order ++ e ∷ []) × (same x e ≡ true))
new_event x order k i below =
    elim (cases_lt k (length order)) [
      | inl h ↦
          let e = get_or order k x in
          let next : suc k ≡ k + 1 = omega arith in
          let last : take (suc k) order ≡ take k order ++ e ∷ [] =
          ap (λ j. take j order) next ∙ take_more order k x h in
          let more = ap (occurrences x) last ∙ occurs_more x (take k order) e in
          elim (cases_Bool (same x e)) [
            | inl holds ↦ inr (e, last, holds)
            | inr fails ↦
                let none : ◌≡◌ {A = ℕ} (cond (same x e) 1 0) 0 = ap (λ b. cond b 1 0) fails in
                inl (omega (arith, below, more, none))
          ]
      | inr h ↦
          let all : take (suc k) order ≡ take k order =
          take_all (suc k) order (omega arith) ∙ sym (take_all k order h) in
          inl (omega (arith, below, ap (occurrences x) all))
    ]

-- an operation has occurred no more often before an event
pub fewer : (x : Comm) (order : List Comm) (k : ℕ) → occurrences x (take k order) ≤ occurrences x (take (suc k) order)
fewer x [] zero = omega arith
fewer x [] (suc k) = omega arith
fewer x (y ∷ ys) zero = omega arith
fewer x (y ∷ ys) (suc k) =
    let rest = fewer x ys k in
    let before = sum_by-cons (λ z. cond (same x z) 1 0) y (take k ys) in
    let after = sum_by-cons (λ z. cond (same x z) 1 0) y (take (suc k) ys) in
    omega (arith, rest, before, after)
