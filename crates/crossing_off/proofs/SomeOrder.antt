-- The greedy rule gives a list: at each step an operation is chosen, or the rule is stuck, and each step leaves less.
use Rattle.std.proofs.Common.{◌≡◌, ℕ, zero, suc, ◌+◌, ◌<◌, ◌≤◌, ◌⊎◌, max, List, [], ◌∷◌, ◌++◌, Option, None, Some, IsSomeAnd, length, take, slice_get, sum_by, ap, subst, inl, inr, ⊎_elim, arith}
use Rattle.std.proofs.lemmas.Bool.{cases_eq, cases_lt}
use Rattle.std.proofs.lemmas.Option.{slice_get_within}
use Rattle.cell_types.specs.Groups.{below}
use Rattle.comm_sequence.specs.BufferedOrder.{occurrences}
use Rattle.comm_sequence.specs.Sequences.{Sequences, IsSequences, message_of}
use Rattle.comm_sequence.specs.declared.comm.Comm.{Comm}
use Rattle.comm_sequence.specs.declared.comm.Comm.TheVariants.{Write, Read}
use Rattle.crossing_off.specs.Greedy.{cell_of, front, left, reads_of, rest, GoesFirst, IsChosen, IsCrossed, IsFront, IsStuck, IsWanted, MayCross}
use Rattle.crossing_off.proofs.Ends.{cell_known}
use Rattle.crossing_off.proofs.Lists.{sum_by-map}
use Rattle.crossing_off.proofs.Runs.{first_of}
use Rattle.crossing_off.proofs.Turn.{greedy_push}
use Rattle.crossing_off.proofs.WhatIsLeft.{moved_less, rest_at, rests_after, rests_long, rests_of}

-- two things that hold or not
both : {P Q : Type 0} → P ⊎ (P → ⊥) → Q ⊎ (Q → ⊥) → (P × Q) ⊎ (P × Q → ⊥)
both (inl p) (inl q) = inl (p, q)
both (inl p) (inr n) = inr (λ h. n h.1)
both (inr n) q = inr (λ h. n h.0)

three : {P Q R : Type 0} → P ⊎ (P → ⊥) → Q ⊎ (Q → ⊥) → R ⊎ (R → ⊥) → (P × Q × R) ⊎ (P × Q × R → ⊥)
three (inl p) (inl q) (inl r) = inl (p, q, r)
three (inl p) (inl q) (inr n) = inr (λ h. n h.2)
three (inl p) (inr n) r = inr (λ h. n h.1)
three (inr n) q r = inr (λ h. n h.0)

-- a number is below another one, or not
less_or_not : (m n : ℕ) → (m < n) ⊎ (m < n → ⊥)
less_or_not m n = ⊎_elim (λ (less : m < n). inl less) (λ (more : n ≤ m). inr (λ h. omega arith)) (cases_lt m n)

-- what is found in a list is an operation, or not
is_comm : (o : Option Comm) (e : Comm) → (o ≡ Some e) ⊎ (o ≡ Some e → ⊥)
is_comm None e = inr (λ h. cc h)
is_comm (Some (Write m)) (Write n) = ⊎_elim (λ h. inl (ap (λ k. Some (Write k)) h)) (λ d. inr (λ h. let same : m ≡ n = cc in d same)) (cases_eq m n)
is_comm (Some (Read m)) (Read n) = ⊎_elim (λ h. inl (ap (λ k. Some (Read k)) h)) (λ d. inr (λ h. let same : m ≡ n = cc in d same)) (cases_eq m n)
is_comm (Some (Write m)) (Read n) = inr (λ h. cc h)
is_comm (Some (Read m)) (Write n) = inr (λ h. cc h)

-- an operation stands first, or not
front_or_not : (s : Sequences) (es : List Comm) (e : Comm) → IsFront s es e ⊎ (IsFront s es e → ⊥)
front_or_not s es e = at (cell_of s.ends e)
  where
    at : (o : Option ℕ) → IsSomeAnd o (λ cell. front s es cell ≡ Some e) ⊎ (IsSomeAnd o (λ cell. front s es cell ≡ Some e) → ⊥)
    at None = inr (λ h. h)
    at (Some cell) = is_comm (front s es cell) e

-- a word is wanted, or not
wanted_or_not : (s : Sequences) (buffer : ℕ) (es : List Comm) (m : ℕ) → IsWanted s buffer es m ⊎ (IsWanted s buffer es m → ⊥)
wanted_or_not s zero es m = front_or_not s es (Read m)
wanted_or_not s (suc d) es m = less_or_not (occurrences (Write m) es) (reads_of s m)

-- an operation may be crossed, or not
may_or_not : (s : Sequences) (buffer : ℕ) (es : List Comm) (e : Comm) → MayCross s buffer es e ⊎ (MayCross s buffer es e → ⊥)
may_or_not s buffer es (Read m) = both (front_or_not s es (Read m)) (less_or_not (occurrences (Read m) es) (occurrences (Write m) es))
may_or_not s buffer es (Write m) =
    three (front_or_not s es (Write m)) (wanted_or_not s buffer es m)
    (less_or_not (occurrences (Write m) es) (occurrences (Read m) es + max 1 buffer))

-- The message is the first one below a number whose operation holds.
record IsFound (P : ℕ → Type 0) (m : ℕ) : Type 0 where
  holds : P m
  none_below : (k : ℕ) → k < m → P k → ⊥

-- there is a first one, or none below this number
first_or_none : (P : ℕ → Type 0) → ((m : ℕ) → P m ⊎ (P m → ⊥)) → (n : ℕ) → ((m : ℕ) × IsFound P m) ⊎ ((k : ℕ) → k < n → P k → ⊥)
first_or_none P test zero = inr (λ k l h. absurd (omega arith))
first_or_none P test (suc n) = elim (first_or_none P test n) [
  | inl found ↦ inl found
  | inr none ↦ elim (test n) [
    | inl holds ↦ inl (n, record { holds = holds; none_below = none })
    | inr not ↦ inr (λ k l h. ⊎_elim (λ less. none k less h) (λ more. let same : k ≡ n = omega arith in not (subst P same h)) (cases_lt k n))
  ]
]

-- an operation that may be crossed is on a message
may_within : (s : Sequences) (buffer : ℕ) (es : List Comm) (e : Comm) → IsSequences s → MayCross s buffer es e → message_of e < length s.ends
may_within s buffer es e sound may =
    let f = first_of s buffer es e sound may in
    cell_known s e f.home.cell f.home.is

-- an operation is chosen, or the rule is stuck
chosen_or_stuck : (s : Sequences) (buffer : ℕ) (es : List Comm) → IsSequences s → ((e : Comm) × IsChosen s buffer es e) ⊎ IsStuck s buffer es
chosen_or_stuck s buffer es sound = elim (first_or_none (λ m. MayCross s buffer es (Read m)) (λ m. may_or_not s buffer es (Read m)) (length s.ends)) [
  | inl found ↦ inl (Read found.0, record { may = found.1.holds; first = first_read found.0 found.1 })
  | inr no_reads ↦ elim (first_or_none (λ m. MayCross s buffer es (Write m)) (λ m. may_or_not s buffer es (Write m)) (length s.ends)) [
    | inl found ↦ inl (Write found.0, record { may = found.1.holds; first = first_write found.0 found.1 no_reads })
    | inr no_writes ↦ inr (none no_reads no_writes)
  ]
]
  where
    first_read : (m : ℕ) → IsFound (λ m. MayCross s buffer es (Read m)) m → (other : Comm) → MayCross s buffer es other → GoesFirst (Read m) other
    first_read m found (Write k) may = tt
    first_read m found (Read k) may = ⊎_elim (λ less. absurd (found.none_below k less may)) (λ more. more) (cases_lt k m)

    first_write : (m : ℕ) → IsFound (λ m. MayCross s buffer es (Write m)) m → ((k : ℕ) → k < length s.ends → MayCross s buffer es (Read k) → ⊥)
        → (other : Comm) → MayCross s buffer es other → GoesFirst (Write m) other
    first_write m found no_reads (Read k) may = no_reads k (may_within s buffer es (Read k) sound may) may
    first_write m found no_reads (Write k) may = ⊎_elim (λ less. absurd (found.none_below k less may)) (λ more. more) (cases_lt k m)

    none : ((k : ℕ) → k < length s.ends → MayCross s buffer es (Read k) → ⊥) → ((k : ℕ) → k < length s.ends → MayCross s buffer es (Write k) → ⊥)
        → IsStuck s buffer es
    none no_reads no_writes (Read k) may = no_reads k (may_within s buffer es (Read k) sound may) may
    none no_reads no_writes (Write k) may = no_writes k (may_within s buffer es (Write k) sound may) may

-- less is left after an operation
less_left : (s : Sequences) (buffer : ℕ) (es : List Comm) (e : Comm) → IsSequences s → MayCross s buffer es e → left s (es ++ e ∷ []) < left s es
less_left s buffer es e sound may =
    let f = first_of s buffer es e sound may in
    let c = f.home.cell in
    let there = slice_get_within (rest s es c) 0 e f.first in
    let less = moved_less (rests_of s es) c (omega (arith, rests_long s es, f.home.within)) (omega (arith, ap length (rest_at s es c f.home.within), there)) in
    omega (
      arith,
      less,
      ap (sum_by length) (rests_after s es e f.home),
      sum_by-map length (rest s es) (below (length s.lists)),
      sum_by-map length (rest s (es ++ e ∷ [])) (below (length s.lists)),
    )

-- the operations are those of the rule so far
abbrev IsGreedy : Sequences → ℕ → List Comm → Type 0
IsGreedy s buffer es = (k : ℕ) (e : Comm) → slice_get es k ≡ Some e → IsChosen s buffer (take k es) e

-- the rule ends, since it leaves less each time
ends_with : (n : ℕ) (s : Sequences) (buffer : ℕ) (es : List Comm) → IsSequences s → IsGreedy s buffer es → left s es ≤ n
    → (order : List Comm) × IsCrossed s buffer order
ends_with zero s buffer es sound h few = elim (chosen_or_stuck s buffer es sound) [
  | inl next ↦ absurd (omega (arith, few, less_left s buffer es next.0 sound next.1.may))
  | inr stuck ↦ (es, record { greedy = h; stuck = stuck })
]
ends_with (suc n) s buffer es sound h few = elim (chosen_or_stuck s buffer es sound) [
  | inl next ↦
      ends_with n s buffer (es ++ next.0 ∷ []) sound (greedy_push s buffer es next.0 h next.1)
      (omega (arith, few, less_left s buffer es next.0 sound next.1.may))
  | inr stuck ↦ (es, record { greedy = h; stuck = stuck })
]

-- the greedy rule gives a list
pub some_order : (s : Sequences) (buffer : ℕ) → IsSequences s → (order : List Comm) × IsCrossed s buffer order
some_order s buffer sound = ends_with (left s []) s buffer [] sound (λ k e at. absurd (cc at)) (omega arith)
