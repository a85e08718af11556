-- The writes and reads of pairs, in order, are an order without a buffer.
use Rattle.std.proofs.Common.{◌≡◌, ℕ, zero, suc, ◌+◌, ◌≤◌, Bool, cond, List, [], ◌∷◌, Some, take, ap, refl, arith}
use Rattle.std.proofs.lemmas.List.Sums.{sum_by-cons}
use Rattle.comm_sequence.specs.BufferedOrder.{same, occurrences, KeepsBuffer}
use Rattle.comm_sequence.specs.declared.comm.Comm.{Comm}
use Rattle.comm_sequence.specs.declared.comm.Comm.TheVariants.{Write, Read}
use Rattle.pair_laws.specs.Crossings.{crossings}

-- a test counts one or nothing
abbrev counted : Bool → ℕ
counted b = cond b 1 0

-- how often an operation stands in a list with one more
one_more : (c d : Comm) (ds : List Comm) → occurrences c (d ∷ ds) ≡ counted (same c d) + occurrences c ds
one_more c d ds = sum_by-cons (λ e. cond (same c e) 1 0) d ds

-- each write is followed at once by its read
pub kept : (ms : List ℕ) → KeepsBuffer zero (crossings ms)
kept [] n m e = absurd (cc e)
kept (k ∷ ms) zero m e = ap (λ x. Some (Read x)) (cc e)
kept (k ∷ ms) (suc zero) m e = absurd (cc e)
kept (k ∷ ms) (suc (suc n)) m e = kept ms n m e

-- as many writes as reads of each message
pub whole : (ms : List ℕ) (m : ℕ) → occurrences (Write m) (crossings ms) ≡ occurrences (Read m) (crossings ms)
whole [] m = refl
whole (k ∷ ms) m =
    omega (
      arith,
      one_more (Write m) (Write k) (Read k ∷ crossings ms),
      one_more (Write m) (Read k) (crossings ms),
      one_more (Read m) (Write k) (Read k ∷ crossings ms),
      one_more (Read m) (Read k) (crossings ms),
      whole ms m,
    )

-- in every prefix at least as many writes
pub prefix : (ms : List ℕ) (n m : ℕ) → occurrences (Read m) (take n (crossings ms)) ≤ occurrences (Write m) (take n (crossings ms))
prefix [] zero m = omega arith
prefix [] (suc n) m = omega arith
prefix (k ∷ ms) zero m = omega arith
prefix (k ∷ ms) (suc zero) m = omega (arith, one_more (Write m) (Write k) [], one_more (Read m) (Write k) [])
prefix (k ∷ ms) (suc (suc n)) m =
    let rest : List Comm = take n (crossings ms) in
    omega (
      arith,
      one_more (Write m) (Write k) (Read k ∷ rest),
      one_more (Write m) (Read k) rest,
      one_more (Read m) (Write k) (Read k ∷ rest),
      one_more (Read m) (Read k) rest,
      prefix ms n m,
    )
