-- Orders of the writes and reads of all cells, with a buffer between the write of a word and its read.
use Rattle.std.specs.Prelude.{ℕ, zero, suc, ◌≡◌, ◌<◌, ◌≤◌, ◌+◌, Bool, true, false, List, [], ◌∷◌, nat_eq, take, filter, get_or}
use Rattle.array_runs.specs.Frame.{Action, Halt, Work, Write, Read, Frame}
use Rattle.array_runs.specs.States.{one_at}

-- whether an action is a write or a read
abbrev pub is_event : Action → Bool
is_event Halt = false
is_event Work = false
is_event (Write m) = true
is_event (Read m) = true

-- the writes and reads among some actions, in order
abbrev pub events : List Action → List Action
events actions = filter is_event actions

-- 1 where two actions are the same write or the same read, and else 0
abbrev pub same : Action → Action → ℕ
same (Write m) (Write k) = one_at m k
same (Read m) (Read k) = one_at m k
same _ _ = 0

-- how often a write or a read stands in a list
abbrev pub count : Action → List Action → ℕ
count e [] = 0
count e (x ∷ xs) = same e x + count e xs

-- the cell of a write or a read: the sender or the receiver of its message
abbrev pub home : Frame → Action → ℕ
home p Halt = 0
home p Work = 0
home p (Write m) = p.sender m
home p (Read m) = p.receiver m

-- those of some writes and reads that are a cell's
abbrev pub part_of : Frame → ℕ → List Action → List Action
part_of p c order = filter (λ e. nat_eq (home p e) c) order

-- In every prefix each message has at most so many more writes than reads; without a buffer the read of a message
-- follows at once on each write of it.
abbrev pub KeepsBuffer : ℕ → List Action → Type 0
KeepsBuffer zero order = (n m : ℕ) → get_or order n Halt ≡ Write m → get_or order (suc n) Halt ≡ Read m
KeepsBuffer (suc d) order = (n m : ℕ) → count (Write m) (take n order) ≤ count (Read m) (take n order) + suc d

-- Those of each cell are the writes and reads of its list; in every prefix each message has at least as many writes
-- as reads, and in the whole order as many; and the buffer is kept.
pub record IsOrder (p : Frame) (actions : ℕ → List Action) (buffer : ℕ) (order : List Action) : Type 0 where
  pub each : (c : ℕ) → c < p.cells → part_of p c order ≡ events (actions c)
  pub prefix : (n m : ℕ) → count (Read m) (take n order) ≤ count (Write m) (take n order)
  pub whole : (m : ℕ) → count (Write m) order ≡ count (Read m) order
  pub kept : KeepsBuffer buffer order
