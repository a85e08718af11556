-- Orders of single writes and reads, with a buffer between the write of a word and its read.
use Rattle.std.specs.Prelude.{ℕ, zero, suc, ◌≡◌, ◌+◌, ◌<◌, ◌≤◌, Bool, false, List, [], Some, nat_eq, length, take, filter, count_by, slice_get, slice_index_or, All, EachIndex}
use Rattle.std.specs.Option.{option_map_or}
use Rattle.comm_sequence.specs.Sequences.{message_of}
use Rattle.comm_sequence.specs.declared.comm.Comm.{Comm}
use Rattle.comm_sequence.specs.declared.comm.Comm.TheVariants.{Write, Read}

-- whether a cell sends a message, by the ends of the messages
abbrev pub sends : List (ℕ × ℕ) → ℕ → ℕ → Bool
sends ends cell message = option_map_or (λ e. nat_eq e.0 cell) (slice_get ends message) false

-- whether a cell receives a message
abbrev pub receives : List (ℕ × ℕ) → ℕ → ℕ → Bool
receives ends cell message = option_map_or (λ e. nat_eq e.1 cell) (slice_get ends message) false

-- whether two operations are the same
abbrev pub same : Comm → Comm → Bool
same (Write m) (Write n) = nat_eq m n
same (Write m) (Read n) = false
same (Read m) (Write n) = false
same (Read m) (Read n) = nat_eq m n

-- how often an operation stands in a list
abbrev pub occurrences : Comm → List Comm → ℕ
occurrences operation events = count_by (same operation) events

-- whether an operation is one of a cell's: the write of what it sends, or the read of what it receives
abbrev pub is_of : List (ℕ × ℕ) → ℕ → Comm → Bool
is_of ends cell (Write message) = sends ends cell message
is_of ends cell (Read message) = receives ends cell message

-- In every prefix each message has at most as many more writes than reads as the buffer has words; without a buffer
-- the read of a message follows at once on each write of it.
abbrev pub KeepsBuffer : ℕ → List Comm → Type 0
KeepsBuffer zero events =
    (n message : ℕ) → slice_get events n ≡ Some (Write message) → slice_get events (suc n) ≡ Some (Read message)
KeepsBuffer (suc d) events =
    (n message : ℕ) → occurrences (Write message) (take n events) ≤ occurrences (Read message) (take n events) + suc d

-- An order of these lists, where these are the ends of the messages: the operations are on messages, and those of
-- each cell are its list; in every prefix each message has at least as many writes as reads, and in the whole list as
-- many; and the buffer is kept.
pub record IsBufferedOrder (lists : List (List Comm)) (ends : List (ℕ × ℕ)) (buffer : ℕ) (events : List Comm)
    : Type 0 where
  pub known : All (λ operation. message_of operation < length ends) events
  pub each : EachIndex lists (λ cell. filter (is_of ends cell) events ≡ slice_index_or lists cell [])
  pub prefix : (n message : ℕ)
      → occurrences (Read message) (take n events) ≤ occurrences (Write message) (take n events)
  pub whole : (message : ℕ) → occurrences (Write message) events ≡ occurrences (Read message) events
  pub kept : KeepsBuffer buffer events
