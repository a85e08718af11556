-- What the cells of a program write and read, as whole lists, with the lengths of messages and the counts of words.
use Rattle.std.specs.Prelude.{ℕ, ◌≡◌, ◌≢◌, ◌<◌, ◌≤◌, ◌^◌, Bool, false, List, [], nat_eq, length, map, filter_map, sum_by, count_by, slice_get, slice_index, slice_index_or, All, Option, Some, None, IsSomeAnd, EachIndex}
use Rattle.sys_base.specs.declared.limits.TheConstants.{MESSAGES}
use Rattle.cell_types.specs.Code.{ProgramCode}
use Rattle.cell_types.specs.Communications.{Communication, Writes, Reads, Takes, Emits, communications, takes_of, emits_of}
use Rattle.cell_types.specs.Groups.{below, lengths_of}
use Rattle.cell_types.specs.declared.program.Message.{Message}
use Rattle.comm_sequence.specs.declared.comm.Comm.{Comm}
use Rattle.comm_sequence.specs.declared.comm.Comm.TheVariants.{Write, Read}

-- the message of a write or a read
abbrev pub message_of : Comm → ℕ
message_of (Write m) = m
message_of (Read m) = m

-- a communication as a write or a read, if it is one
abbrev pub comm_of : Communication → Option Comm
comm_of (Writes message) = Some (Write message)
comm_of (Reads message) = Some (Read message)
comm_of Takes = None
comm_of Emits = None

-- the writes and reads among some communications, in order
abbrev pub comms : List Communication → List Comm
comms list = filter_map comm_of list

-- the writes and reads of each cell in order, the length of each message, how many words each cell takes and emits,
-- and the sender and the receiver of each message
pub record Sequences : Type 0 where
  pub lists : List (List Comm)
  pub lengths : List ℕ
  pub takes : List ℕ
  pub emits : List ℕ
  pub ends : List (ℕ × ℕ)

-- the sequences of a program
abbrev pub sequences_of : ProgramCode → Sequences
sequences_of program =
    record {
      lists = map (λ cell. comms (communications program cell)) (below (length program.cells));
      lengths = lengths_of program;
      takes = map (takes_of program) (below (length program.cells));
      emits = map (emits_of program) (below (length program.cells));
      ends = map (λ (m : Message). (m.from, m.to)) program.messages;
    }

-- whether a write or a read is the write of this message
abbrev pub writes : ℕ → Comm → Bool
writes message (Write m) = nat_eq message m
writes message (Read m) = false

-- The message is one of these, and the cell that writes it is its sender, or the cell that reads it is its receiver.
abbrev pub IsAtItsEnd : List (ℕ × ℕ) → ℕ → Comm → Type 0
IsAtItsEnd ends cell (Write m) = IsSomeAnd (slice_get ends m) (λ e. e.0 ≡ cell)
IsAtItsEnd ends cell (Read m) = IsSomeAnd (slice_get ends m) (λ e. e.1 ≡ cell)

-- What the type of sequences keeps: there are at most 256 cells and 512 messages, each message goes from one cell to
-- another one, the lists are of these messages, only its sender writes one and only its receiver reads it, its length
-- is how often it is written, and all lists together have fewer than 2^32 entries.
pub record IsSequences (s : Sequences) : Type 0 where
  pub cells : length s.lists ≤ 256
  pub messages : length s.ends ≤ MESSAGES
  pub lengths : length s.lengths ≡ length s.ends
  pub takes : length s.takes ≡ length s.lists
  pub emits : length s.emits ≡ length s.lists
  pub within : All (λ (e : ℕ × ℕ). (e.0 < length s.lists) × (e.1 < length s.lists)) s.ends
  pub apart : All (λ (e : ℕ × ℕ). e.0 ≢ e.1) s.ends
  pub known : All (λ list. All (λ c. message_of c < length s.ends) list) s.lists
  pub owned : EachIndex s.lists (λ cell. All (IsAtItsEnd s.ends cell) (slice_index_or s.lists cell []))
  pub counted : EachIndex s.lengths (λ m. slice_index s.lengths m ≡ sum_by (count_by (writes m)) s.lists)
  pub few : sum_by length s.lists < 2 ^ 32
