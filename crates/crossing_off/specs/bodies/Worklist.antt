-- How far crossing-off has come, and what it still has to try.
use Rattle.std.specs.Prelude.{ℕ, ◌≡◌, ◌+◌, ◌-◌, ◌*◌, ◌<◌, ◌≤◌, ◌⊎◌, List, [], Option, Some, length, map, set, drop, take, sum_by, slice_get, slice_index, slice_index_or}
use Rattle.cell_types.specs.Groups.{below}
use Rattle.comm_sequence.specs.BufferedOrder.{occurrences}
use Rattle.comm_sequence.specs.Sequences.{Sequences, IsSequences, message_of}
use Rattle.comm_sequence.specs.declared.comm.Comm.{Comm}
use Rattle.comm_sequence.specs.declared.comm.Comm.TheVariants.{Write, Read}
use Rattle.crossing_off.specs.Greedy.{rest, reads_of, GoesFirst, IsChosen, MayCross}
use Rattle.crossing_off.specs.bodies.Waiting.{HasNoted, Waits, waiting_len}
use Rattle.crossing_off.specs.declared.worklist.Crossing.{Crossing}

-- the first operation that is left of a cell's list
abbrev pub front_at : List (List Comm) → ℕ → Option Comm
front_at rests cell = slice_get (slice_index_or rests cell []) 0

-- the lists, where one has lost its first operation
abbrev pub moved_on : List (List Comm) → ℕ → List (List Comm)
moved_on rests cell = set rests cell (drop 1 (slice_index_or rests cell []))

-- The list of one cell has lost its first operation, and those of the message of its next one wait.
pub record HasAdvanced (old new : Crossing) (cell : ℕ) : Type 0 where
  pub rests : new.rests.items ≡ moved_on old.rests.items cell
  pub held : new.held.items ≡ old.held.items
  pub wanted : new.wanted.items ≡ old.wanted.items
  pub order : new.order.items ≡ old.order.items
  pub waiting : HasNoted (front_at new.rests.items cell) old.waiting new.waiting

-- The operation can be counted.
abbrev pub CanCount : Crossing → Comm → Type 0
CanCount now (Write m) =
    (m < length now.held.items) × (m < length now.wanted.items) × (slice_index now.held.items m < 255)
CanCount now (Read m) = (m < length now.held.items) × (1 ≤ slice_index now.held.items m)

-- The operation was counted.
abbrev pub HasCounted : Crossing → Crossing → Comm → Type 0
HasCounted old new (Write m) =
    (new.rests.items ≡ old.rests.items) × (new.waiting ≡ old.waiting) × (new.order.items ≡ old.order.items)
    × (new.held.items ≡ set old.held.items m (slice_index old.held.items m + 1))
    × (new.wanted.items ≡ set old.wanted.items m (slice_index old.wanted.items m - 1))
HasCounted old new (Read m) =
    (new.rests.items ≡ old.rests.items) × (new.waiting ≡ old.waiting) × (new.order.items ≡ old.order.items)
    × (new.held.items ≡ set old.held.items m (slice_index old.held.items m - 1))
    × (new.wanted.items ≡ old.wanted.items)

-- what is left to cross, and to try: an operation that is crossed lets four at most wait
abbrev pub work_left : Crossing → ℕ
work_left now = 4 * sum_by length now.rests.items + waiting_len now.waiting

-- The counts are those of the operations that are crossed.
pub record AreCounts (s : Sequences) (held wanted : List ℕ) (order : List Comm) : Type 0 where
  pub held_len : length held ≡ length s.ends
  pub wanted_len : length wanted ≡ length s.ends
  pub held_is : (m : ℕ) → m < length s.ends
      → slice_index held m ≡ occurrences (Write m) order - occurrences (Read m) order
  pub wanted_is : (m : ℕ) → m < length s.ends → slice_index wanted m ≡ reads_of s m - occurrences (Write m) order

-- The state is that after the greedy rule crossed the operations of its order.
pub record IsUnderWay (s : Sequences) (buffer : ℕ) (now : Crossing) : Type 0 where
  pub sound : IsSequences s
  pub small : buffer ≤ 255
  pub rests : now.rests.items ≡ map (rest s now.order.items) (below (length s.lists))
  pub counts : AreCounts s now.held.items now.wanted.items now.order.items
  pub greedy : (k : ℕ) (e : Comm) → slice_get now.order.items k ≡ Some e → IsChosen s buffer (take k now.order.items) e
  pub known : (e : Comm) → Waits now.waiting e → message_of e < length s.ends

-- Each operation that may be crossed next waits.
abbrev pub IsComplete : Sequences → ℕ → Crossing → Type 0
IsComplete s buffer now = (e : Comm) → MayCross s buffer now.order.items e → Waits now.waiting e

-- Each operation that may be crossed next is this one or waits, and this one goes first among them.
pub record IsPopped (s : Sequences) (buffer : ℕ) (now : Crossing) (e : Comm) : Type 0 where
  pub known : message_of e < length s.ends
  pub first : (other : Comm) → MayCross s buffer now.order.items other → GoesFirst e other
  pub others : (other : Comm) → MayCross s buffer now.order.items other → (other ≡ e) ⊎ Waits now.waiting other
