-- Orders with buffers of 0, 1 and 2: for each one that fits, and one that is one word over.
use Rattle.std.proofs.Common.{◌≡◌, ℕ, zero, suc, ◌<◌, ◌≤◌, Bool, true, false, cond, nat_eq, List, [], ◌∷◌, Some, filter, get_or, take, ap, refl, arith}
use Rattle.std.specs.List.{slice_index_or}
use Rattle.comm_sequence.specs.BufferedOrder.{is_of, occurrences, IsBufferedOrder, KeepsBuffer}
use Rattle.comm_sequence.specs.Sequences.{message_of}
use Rattle.comm_sequence.specs.declared.comm.Comm.{Comm}
use Rattle.comm_sequence.specs.declared.comm.Comm.TheVariants.{Write, Read}

-- one message from cell 0 to cell 1
abbrev ends : List (ℕ × ℕ)
ends = (0, 1) ∷ []

-- the lists of the cells, where the message has three words
abbrev lists : List (List Comm)
lists = (Write 0 ∷ Write 0 ∷ Write 0 ∷ []) ∷ (Read 0 ∷ Read 0 ∷ Read 0 ∷ []) ∷ []

-- each word is read before the next one is written
abbrev one_by_one : List Comm
one_by_one = Write 0 ∷ Read 0 ∷ Write 0 ∷ Read 0 ∷ Write 0 ∷ Read 0 ∷ []

-- two words are written before one is read
abbrev two_first : List Comm
two_first = Write 0 ∷ Write 0 ∷ Read 0 ∷ Write 0 ∷ Read 0 ∷ Read 0 ∷ []

-- three words are written before one is read
abbrev three_first : List Comm
three_first = Write 0 ∷ Write 0 ∷ Write 0 ∷ Read 0 ∷ Read 0 ∷ Read 0 ∷ []

-- a test counts once at most
once : (b : Bool) → cond b 1 0 ≤ 1
once true = omega arith
once false = omega arith

-- Without a buffer each read follows at once on its write.
at_once : KeepsBuffer 0 one_by_one
at_once zero m e = ap (λ k. Some (Read k)) (cc e)
at_once (suc zero) m e = absurd (cc e)
at_once (suc (suc zero)) m e = ap (λ k. Some (Read k)) (cc e)
at_once (suc (suc (suc zero))) m e = absurd (cc e)
at_once (suc (suc (suc (suc zero)))) m e = ap (λ k. Some (Read k)) (cc e)
at_once (suc (suc (suc (suc (suc zero))))) m e = absurd (cc e)
at_once (suc (suc (suc (suc (suc (suc n)))))) m e = absurd (cc e)

-- A word that waits is one over.
over_0 : KeepsBuffer 0 two_first → ⊥
over_0 kept = absurd (cc (kept 0 0 refl))

-- A buffer of 1 holds a word that waits, and no second one.
fits_1 : KeepsBuffer 1 one_by_one
fits_1 zero m = omega arith
fits_1 (suc zero) m = omega (arith, once (nat_eq m 0))
fits_1 (suc (suc zero)) m = omega (arith, once (nat_eq m 0))
fits_1 (suc (suc (suc zero))) m = omega (arith, once (nat_eq m 0))
fits_1 (suc (suc (suc (suc zero)))) m = omega (arith, once (nat_eq m 0))
fits_1 (suc (suc (suc (suc (suc zero))))) m = omega (arith, once (nat_eq m 0))
fits_1 (suc (suc (suc (suc (suc (suc zero)))))) m = omega (arith, once (nat_eq m 0))
fits_1 (suc (suc (suc (suc (suc (suc (suc n))))))) m = omega (arith, once (nat_eq m 0))

over_1 : KeepsBuffer 1 two_first → ⊥
over_1 kept = let h = kept 2 0 in omega arith

-- A buffer of 2 holds two, and no third one.
fits_2 : KeepsBuffer 2 two_first
fits_2 zero m = omega arith
fits_2 (suc zero) m = omega (arith, once (nat_eq m 0))
fits_2 (suc (suc zero)) m = omega (arith, once (nat_eq m 0))
fits_2 (suc (suc (suc zero))) m = omega (arith, once (nat_eq m 0))
fits_2 (suc (suc (suc (suc zero)))) m = omega (arith, once (nat_eq m 0))
fits_2 (suc (suc (suc (suc (suc zero))))) m = omega (arith, once (nat_eq m 0))
fits_2 (suc (suc (suc (suc (suc (suc zero)))))) m = omega (arith, once (nat_eq m 0))
fits_2 (suc (suc (suc (suc (suc (suc (suc n))))))) m = omega (arith, once (nat_eq m 0))

over_2 : KeepsBuffer 2 three_first → ⊥
over_2 kept = let h = kept 3 0 in omega arith

-- the messages of an order, and what each cell does in it
known : (k : ℕ) (d : Comm) → k < 6 → message_of (get_or two_first k d) < 1
known zero d l = omega arith
known (suc zero) d l = omega arith
known (suc (suc zero)) d l = omega arith
known (suc (suc (suc zero))) d l = omega arith
known (suc (suc (suc (suc zero)))) d l = omega arith
known (suc (suc (suc (suc (suc zero))))) d l = omega arith
known (suc (suc (suc (suc (suc (suc n)))))) d l = absurd (omega arith)

each : (cell : ℕ) → cell < 2 → filter (is_of ends cell) two_first ≡ slice_index_or lists cell []
each zero l = refl
each (suc zero) l = refl
each (suc (suc n)) l = absurd (omega arith)

-- in a prefix no word is read before it is written
prefix : (n m : ℕ) → occurrences (Read m) (take n two_first) ≤ occurrences (Write m) (take n two_first)
prefix zero m = omega arith
prefix (suc zero) m = omega arith
prefix (suc (suc zero)) m = omega arith
prefix (suc (suc (suc zero))) m = omega arith
prefix (suc (suc (suc (suc zero)))) m = omega arith
prefix (suc (suc (suc (suc (suc zero))))) m = omega arith
prefix (suc (suc (suc (suc (suc (suc zero)))))) m = omega arith
prefix (suc (suc (suc (suc (suc (suc (suc n))))))) m = omega arith

-- This is an order for a buffer of 2, and for no lesser one.
two_first_is_order : IsBufferedOrder lists ends 2 two_first
two_first_is_order = record { known = known; each = each; prefix = prefix; whole = λ m. omega arith; kept = fits_2 }

-- A read that comes before its write is in no order.
early : (buffer : ℕ) → IsBufferedOrder lists ends buffer (Read 0 ∷ Write 0 ∷ []) → ⊥
early buffer h = let e = h.prefix 1 0 in omega arith

-- An order that leaves out what a cell does is none.
short : (buffer : ℕ) → IsBufferedOrder lists ends buffer (Write 0 ∷ Read 0 ∷ []) → ⊥
short buffer h = absurd (cc (h.each 0 (omega arith)))
