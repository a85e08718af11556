-- The definitions, computed on small sequences.
use Rattle.std.proofs.Common.{◌≡◌, ℕ, zero, suc, List, [], ◌∷◌, Some, None, slice_get, take, subst, refl, arith}
use Rattle.comm_sequence.specs.Sequences.{Sequences}
use Rattle.comm_sequence.specs.declared.comm.Comm.{Comm}
use Rattle.comm_sequence.specs.declared.comm.Comm.TheVariants.{Write, Read}
use Rattle.crossing_off.specs.Greedy.{fronts, left, GoesFirst, IsChosen, IsCrossed, IsStuck, MayCross}
use Rattle.crossing_off.specs.Walk.{partner_of}

-- the sequences with these lists and ends
abbrev of_lists : List (List Comm) → List (ℕ × ℕ) → Sequences
of_lists lists ends = record { lists = lists; lengths = []; takes = []; emits = []; ends = ends }

-- Two messages from cell 0 to cell 1, written in one order and read in the other.
abbrev crosswise : Sequences
crosswise = of_lists ((Write 0 ∷ Write 1 ∷ []) ∷ (Read 1 ∷ Read 0 ∷ []) ∷ []) ((0, 1) ∷ (0, 1) ∷ [])

-- Without a buffer nothing can be crossed, and four operations are left.
stuck_0 : IsStuck crosswise 0 []
stuck_0 (Write zero) may = absurd (cc may.1)
stuck_0 (Write (suc zero)) may = absurd (cc may.0)
stuck_0 (Write (suc (suc m))) may = absurd may.0
stuck_0 (Read zero) may = absurd (cc may.0)
stuck_0 (Read (suc zero)) may = let less = may.1 in absurd (omega arith)
stuck_0 (Read (suc (suc m))) may = absurd may.0

nothing_crossed : IsCrossed crosswise 0 []
nothing_crossed = record { greedy = λ k e at. absurd (cc at); stuck = stuck_0 }

all_left : left crosswise [] ≡ 4
all_left = refl

crosswise_fronts : fronts crosswise [] ≡ Some (Write 0) ∷ Some (Read 1) ∷ []
crosswise_fronts = refl

-- With a buffer of 1 both are written before they are read, and nothing is left.
abbrev all_four : List Comm
all_four = Write 0 ∷ Write 1 ∷ Read 1 ∷ Read 0 ∷ []

first_1 : IsChosen crosswise 1 [] (Write 0)
first_1 = record { may = (refl, omega arith, omega arith); first = λ other may. best other may }
  where
    best : (other : Comm) → MayCross crosswise 1 [] other → GoesFirst (Write 0) other
    best (Write m) may = omega arith
    best (Read zero) may = absurd (cc may.0)
    best (Read (suc zero)) may = let less = may.1 in absurd (omega arith)
    best (Read (suc (suc m))) may = absurd may.0

second_1 : IsChosen crosswise 1 (Write 0 ∷ []) (Write 1)
second_1 = record { may = (refl, omega arith, omega arith); first = λ other may. best other may }
  where
    best : (other : Comm) → MayCross crosswise 1 (Write 0 ∷ []) other → GoesFirst (Write 1) other
    best (Write zero) may = absurd (cc may.0)
    best (Write (suc m)) may = omega arith
    best (Read zero) may = absurd (cc may.0)
    best (Read (suc zero)) may = let less = may.1 in absurd (omega arith)
    best (Read (suc (suc m))) may = absurd may.0

third_1 : IsChosen crosswise 1 (Write 0 ∷ Write 1 ∷ []) (Read 1)
third_1 = record { may = (refl, omega arith); first = λ other may. best other may }
  where
    best : (other : Comm) → MayCross crosswise 1 (Write 0 ∷ Write 1 ∷ []) other → GoesFirst (Read 1) other
    best (Write m) may = tt
    best (Read zero) may = absurd (cc may.0)
    best (Read (suc m)) may = omega arith

last_1 : IsChosen crosswise 1 (Write 0 ∷ Write 1 ∷ Read 1 ∷ []) (Read 0)
last_1 = record { may = (refl, omega arith); first = λ other may. best other may }
  where
    best : (other : Comm) → MayCross crosswise 1 (Write 0 ∷ Write 1 ∷ Read 1 ∷ []) other → GoesFirst (Read 0) other
    best (Write m) may = tt
    best (Read m) may = omega arith

all_crossed : IsCrossed crosswise 1 all_four
all_crossed = record { greedy = λ k e at. each k e at; stuck = λ e may. none e may }
  where
    each : (k : ℕ) (e : Comm) → slice_get all_four k ≡ Some e → IsChosen crosswise 1 (take k all_four) e
    each zero e at = let is : Write 0 ≡ e = cc in subst (IsChosen crosswise 1 []) is first_1
    each (suc zero) e at = let is : Write 1 ≡ e = cc in subst (IsChosen crosswise 1 (Write 0 ∷ [])) is second_1
    each (suc (suc zero)) e at = let is : Read 1 ≡ e = cc in subst (IsChosen crosswise 1 (Write 0 ∷ Write 1 ∷ [])) is third_1
    each (suc (suc (suc zero))) e at =
        let is : Read 0 ≡ e = cc in subst (IsChosen crosswise 1 (Write 0 ∷ Write 1 ∷ Read 1 ∷ [])) is last_1
    each (suc (suc (suc (suc k)))) e at = absurd (cc at)

    none : (e : Comm) → MayCross crosswise 1 all_four e → ⊥
    none (Write zero) may = absurd (cc may.0)
    none (Write (suc zero)) may = absurd (cc may.0)
    none (Write (suc (suc m))) may = absurd may.0
    none (Read zero) may = absurd (cc may.0)
    none (Read (suc zero)) may = absurd (cc may.0)
    none (Read (suc (suc m))) may = absurd may.0

none_left : left crosswise all_four ≡ 0
none_left = refl

-- Cell 0 waits for cell 1 to read, and cell 1 for cell 0 to write.
waits_to_write : partner_of crosswise.ends (Write 0) ≡ Some 1
waits_to_write = refl

waits_to_read : partner_of crosswise.ends (Read 1) ≡ Some 0
waits_to_read = refl

-- Two words of message 0 that are written before message 1, which is read first: a buffer of 1 has no room for the
-- second one, and a buffer of 2 has.
abbrev two_words : Sequences
two_words =
    of_lists ((Write 0 ∷ Write 0 ∷ Write 1 ∷ []) ∷ (Read 1 ∷ Read 0 ∷ Read 0 ∷ []) ∷ []) ((0, 1) ∷ (0, 1) ∷ [])

full_1 : MayCross two_words 1 (Write 0 ∷ []) (Write 0) → ⊥
full_1 may = let less = may.2 in omega arith

room_2 : MayCross two_words 2 (Write 0 ∷ []) (Write 0)
room_2 = (refl, omega arith, omega arith)

-- A write whose receiver has no read for it is never crossed, whatever the buffer holds.
abbrev lone : Sequences
lone = of_lists ((Write 0 ∷ []) ∷ [] ∷ []) ((0, 1) ∷ [])

unread : MayCross lone 64 [] (Write 0) → ⊥
unread may = let less = may.1 in omega arith

lone_left : left lone [] ≡ 1
lone_left = refl

lone_fronts : fronts lone [] ≡ Some (Write 0) ∷ None ∷ []
lone_fronts = refl
