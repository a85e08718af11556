-- The definitions, computed on small programs.
use Rattle.std.proofs.Common.{◌≡◌, ℕ, zero, suc, Bool, true, ◌&&◌, ◌||◌, nat_eq, nat_le, nat_lt, List, [], ◌∷◌, map, filter, refl}
use Rattle.cell_types.specs.Code.{Number, Variable, Negated, Action, Set, Write, Read, Emit, For, If, Block, End, Then, CellCode}
use Rattle.cell_types.specs.Communications.{Emits, times, block_communications}
use Rattle.cell_types.specs.Cost.{block_cost}
use Rattle.cell_types.specs.Groups.{below}
use Rattle.comm_sequence.specs.BufferedOrder.{is_of}
use Rattle.comm_sequence.specs.Differing.{differing, differing_from}
use Rattle.comm_sequence.specs.Labels.{proposed}
use Rattle.comm_sequence.specs.Sequences.{comms}
use Rattle.comm_sequence.specs.declared.comm.Comm.TheVariants as C

-- statements on line 2, one after another
abbrev body : List Action → Block
body [] = End
body (a ∷ more) = Then 2 a (body more)

-- a cell with these statements
abbrev cell_of : Block → CellCode
cell_of block = record { words = 1; counters = 0; stack = 2; body = block }

-- `if 1 { for i 2 { write A 1; } } else { write A 2; write A 3; }`
abbrev writer : Block
writer =
    body (If (Number 1) (body (For 0 2 (body (Write 0 (Number 1) ∷ [])) ∷ []))
    (body (Write 0 (Number 2) ∷ Write 0 (Number 3) ∷ [])) ∷ [])

-- `for i 2 { read A x; emit x; }`
abbrev reader : Block
reader = body (For 0 2 (body (Read 0 0 ∷ Emit (Variable 0) ∷ [])) ∷ [])

-- A loop's writes are copies of its body's, and arms are compared unrolled.
writer_alike : differing writer ≡ []
writer_alike = refl

writer_list : comms (block_communications writer) ≡ C.Write 0 ∷ C.Write 0 ∷ []
writer_list = refl

reader_list : comms (block_communications reader) ≡ C.Read 0 ∷ C.Read 0 ∷ []
reader_list = refl

reader_emits : times Emits (block_communications reader) ≡ 2
reader_emits = refl

writer_cost : block_cost writer ≡ 10
writer_cost = refl

reader_cost : block_cost reader ≡ 9
reader_cost = refl

-- `if 1 { emit 1; } else { }`
abbrev uneven : Action
uneven = If (Number 1) (body (Emit (Number 1) ∷ [])) End

uneven_line : differing_from 0 (cell_of (body (uneven ∷ [])) ∷ []) ≡ (0, 2) ∷ []
uneven_line = refl

-- In a loop of 0 turns nothing is compared, and such a loop costs 1.
never_compared : differing_from 0 (cell_of (body (For 0 0 (body (uneven ∷ [])) ∷ [])) ∷ []) ≡ []
never_compared = refl

never_cost : block_cost (body (For 0 0 (body (uneven ∷ [])) ∷ [])) ≡ 1
never_cost = refl

-- The inner `if`, on line 3, ends before the one around it, on line 1.
inner_first : differing (Then 1 (If (Number 1) (Then 3 uneven End) End) End) ≡ 3 ∷ 1 ∷ []
inner_first = refl

-- The least cell comes first, and in an arm that never runs an `if` is compared all the same.
least_cell : differing_from 0 (cell_of End ∷ cell_of (Then 7 uneven End) ∷ cell_of (Then 5 uneven End) ∷ []) ≡ (1, 7) ∷ (2, 5) ∷ []
least_cell = refl

-- a number of assignments of 0, and then these statements
abbrev zeros : ℕ → Block → Block
zeros zero rest = rest
zeros (suc n) rest = Then 2 (Set 0 (Number 0)) (zeros n rest)

-- a number of assignments of 0, and a number of those of the negated variable
abbrev assignments : ℕ → ℕ → Block
assignments n zero = zeros n End
assignments n (suc m) = Then 2 (Set 0 (Negated (Variable 0))) (assignments n m)

-- A program at the limit, and one just above it.
at_limit : block_cost (Then 2 (For 0 65535 (assignments 30 1)) (assignments 30 1)) ≡ 4194304
at_limit = refl

above_limit : block_cost (Then 2 (For 0 65535 (assignments 30 1)) (assignments 29 2)) ≡ 4194305
above_limit = refl

-- two messages from cell 0 to cell 1, written in one order and read in the other
abbrev ends : List (ℕ × ℕ)
ends = (0, 1) ∷ (0, 1) ∷ []

as_events : filter (is_of ends 0) (C.Write 1 ∷ C.Read 1 ∷ C.Write 0 ∷ C.Read 0 ∷ []) ≡ C.Write 1 ∷ C.Write 0 ∷ []
as_events = refl

-- With a buffer of 1 both are written before one is read.
buffered_0 : filter (is_of ends 0) (C.Write 0 ∷ C.Write 1 ∷ C.Read 1 ∷ C.Read 0 ∷ []) ≡ C.Write 0 ∷ C.Write 1 ∷ []
buffered_0 = refl

buffered_1 : filter (is_of ends 1) (C.Write 0 ∷ C.Write 1 ∷ C.Read 1 ∷ C.Read 0 ∷ []) ≡ C.Read 1 ∷ C.Read 0 ∷ []
buffered_1 = refl

-- Messages that must come before each other have one label, and a message that must come later has the next one.
abbrev labels : (ℕ → ℕ → Bool) → ℕ → List ℕ
labels must count = map (proposed must count) (below count)

one_label : labels (λ a b. true) 2 ≡ 0 ∷ 0 ∷ []
one_label = refl

two_labels : labels nat_le 2 ≡ 0 ∷ 1 ∷ []
two_labels = refl

-- A message without neighbours has a label of its own, by its key.
own_label : labels (λ a b. nat_le a b && (nat_eq a b || nat_lt b 2)) 3 ≡ 0 ∷ 2 ∷ 1 ∷ []
own_label = refl
