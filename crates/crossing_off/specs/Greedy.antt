-- Crossing-off with a buffer: which operation may be crossed next, and the greedy rule. What the rule leaves is the
-- residue.
use Rattle.std.specs.Prelude.{ℕ, zero, suc, ◌≡◌, ◌+◌, ◌<◌, ◌≤◌, max, ⊤, List, [], Option, Some, IsSomeAnd, length, map, filter, sum_by, take, drop, slice_get, slice_index_or}
use Rattle.std.specs.Option.{option_map, option_map_or}
use Rattle.cell_types.specs.Groups.{below}
use Rattle.comm_sequence.specs.BufferedOrder.{is_of, occurrences}
use Rattle.comm_sequence.specs.Sequences.{Sequences}
use Rattle.comm_sequence.specs.declared.comm.Comm.{Comm}
use Rattle.comm_sequence.specs.declared.comm.Comm.TheVariants.{Write, Read}

-- ---- what is left

-- the operations that a cell has made once these are crossed
abbrev pub made : Sequences → List Comm → ℕ → List Comm
made s crossed cell = filter (is_of s.ends cell) crossed

-- what is left of a cell's list once these operations are crossed
abbrev pub rest : Sequences → List Comm → ℕ → List Comm
rest s crossed cell = drop (length (made s crossed cell)) (slice_index_or s.lists cell [])

-- the first operation that is left in a cell's list once these are crossed
abbrev pub front : Sequences → List Comm → ℕ → Option Comm
front s crossed cell = slice_get (rest s crossed cell) 0

-- the first operation that is left in each cell's list
abbrev pub fronts : Sequences → List Comm → List (Option Comm)
fronts s crossed = map (front s crossed) (below (length s.lists))

-- how many operations are left in all the lists
abbrev pub left : Sequences → List Comm → ℕ
left s crossed = sum_by (λ cell. length (rest s crossed cell)) (below (length s.lists))

-- ---- which operation may be crossed next

-- the cell of an operation: the sender of the message for a write, its receiver for a read
abbrev pub cell_of : List (ℕ × ℕ) → Comm → Option ℕ
cell_of ends (Write m) = option_map (λ e. e.0) (slice_get ends m)
cell_of ends (Read m) = option_map (λ e. e.1) (slice_get ends m)

-- The operation stands first in what is left of its cell's list.
abbrev pub IsFront : Sequences → List Comm → Comm → Type 0
IsFront s crossed operation = IsSomeAnd (cell_of s.ends operation) (λ cell. front s crossed cell ≡ Some operation)

-- how often a message is read in the whole list of its receiver
abbrev pub reads_of : Sequences → ℕ → ℕ
reads_of s m = option_map_or (λ e. occurrences (Read m) (slice_index_or s.lists e.1 [])) (slice_get s.ends m) 0

-- The next word of the message will be read: without a buffer its read stands first as well, and with one the receiver
-- has more reads of the message than writes of it are crossed.
abbrev pub IsWanted : Sequences → ℕ → List Comm → ℕ → Type 0
IsWanted s zero crossed m = IsFront s crossed (Read m)
IsWanted s (suc d) crossed m = occurrences (Write m) crossed < reads_of s m

-- The operation may be crossed next. It stands first. A read has a crossed write of its message that has no crossed
-- read. A write will be read, and fewer words wait for their reads than the buffer holds, or none where there is no
-- buffer.
abbrev pub MayCross : Sequences → ℕ → List Comm → Comm → Type 0
MayCross s buffer crossed (Read m) =
    IsFront s crossed (Read m) × (occurrences (Read m) crossed < occurrences (Write m) crossed)
MayCross s buffer crossed (Write m) =
    IsFront s crossed (Write m) × IsWanted s buffer crossed m
    × (occurrences (Write m) crossed < occurrences (Read m) crossed + max 1 buffer)

-- These operations may be crossed one after another.
abbrev pub MayAll : Sequences → ℕ → List Comm → Type 0
MayAll s buffer crossed =
    (k : ℕ) (operation : Comm) → slice_get crossed k ≡ Some operation → MayCross s buffer (take k crossed) operation

-- No operation may be crossed after these.
abbrev pub IsStuck : Sequences → ℕ → List Comm → Type 0
IsStuck s buffer crossed = (operation : Comm) → MayCross s buffer crossed operation → ⊥

-- ---- the greedy rule

-- The first operation goes before the second, if it is another one: reads go before writes, and otherwise the lesser
-- message goes first.
abbrev pub GoesFirst : Comm → Comm → Type 0
GoesFirst (Read m) (Read n) = m ≤ n
GoesFirst (Read m) (Write n) = ⊤
GoesFirst (Write m) (Read n) = ⊥
GoesFirst (Write m) (Write n) = m ≤ n

-- The operation is chosen next: it goes first among those that may be crossed.
pub record IsChosen (s : Sequences) (buffer : ℕ) (crossed : List Comm) (operation : Comm) : Type 0 where
  pub may : MayCross s buffer crossed operation
  pub first : (other : Comm) → MayCross s buffer crossed other → GoesFirst operation other

-- The operations are those of the greedy rule, in its order: each was chosen after those before it, and none may be
-- crossed after them. Without a buffer each write is followed by its read, which goes before all writes.
pub record IsCrossed (s : Sequences) (buffer : ℕ) (order : List Comm) : Type 0 where
  pub greedy : (k : ℕ) (operation : Comm) → slice_get order k ≡ Some operation
      → IsChosen s buffer (take k order) operation
  pub stuck : IsStuck s buffer order
