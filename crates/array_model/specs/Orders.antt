-- Orders of the writes and reads of all cells, with a buffer between the write of a word and its read, and labels
-- that fit them.
use Rattle.std.specs.Prelude.{ℕ, zero, suc, ◌≡◌, ◌+◌, ◌<◌, ◌≤◌, Bool, true, false, nat_eq, List, Option, Some, None, length, take, filter, slice_get, All}
use Rattle.std.specs.Option.{option_and_then}
use Rattle.sys_base.specs.Communications.{Communication, Writes, Reads, times}
use Rattle.cell_code.specs.Marks.{message_of}
use Rattle.cell_code.specs.declared.image.Image.{Image}
use Rattle.array_model.specs.States.{cells}

-- the message that a communication writes or reads, if it does
abbrev pub message_in : Communication → Option ℕ
message_in (Writes m) = Some m
message_in (Reads m) = Some m
message_in _ = None

-- whether a communication is a write or a read
abbrev pub is_exchange : Communication → Bool
is_exchange (Writes m) = true
is_exchange (Reads m) = true
is_exchange _ = false

-- the writes and reads among some communications, in order
abbrev pub exchanges : List Communication → List Communication
exchanges list = filter is_exchange list

-- whether a write or a read is a cell's: the write of what it sends, or the read of what it receives
abbrev pub is_of : Image → ℕ → Communication → Bool
is_of image c (Writes m) = nat_eq (message_of image m).from c
is_of image c (Reads m) = nat_eq (message_of image m).to c
is_of image c _ = false

-- The communication is a write or a read of a message of the image.
abbrev pub IsKnown : Image → Communication → Type 0
IsKnown image (Writes m) = m < length image.messages
IsKnown image (Reads m) = m < length image.messages
IsKnown image _ = ⊥

-- In every prefix each message has at most as many more writes than reads as the buffer has words; without a buffer
-- the read of a message follows at once on each write of it.
abbrev pub KeepsBuffer : ℕ → List Communication → Type 0
KeepsBuffer zero order =
    (n m : ℕ) → slice_get order n ≡ Some (Writes m) → slice_get order (suc n) ≡ Some (Reads m)
KeepsBuffer (suc d) order = (n m : ℕ) → times (Writes m) (take n order) ≤ times (Reads m) (take n order) + suc d

-- An order of the cells' lists: it has writes and reads of messages, and those of each cell are the ones of its list;
-- in every prefix each message has at least as many writes as reads, and in the whole order as many; and the buffer
-- is kept.
pub record IsBufferedOrder (image : Image) (lists : ℕ → List Communication) (buffer : ℕ) (order : List Communication)
    : Type 0 where
  pub known : All (IsKnown image) order
  pub each : (c : ℕ) → c < cells image → filter (is_of image c) order ≡ exchanges (lists c)
  pub prefix : (n m : ℕ) → times (Reads m) (take n order) ≤ times (Writes m) (take n order)
  pub whole : (m : ℕ) → times (Writes m) order ≡ times (Reads m) order
  pub kept : KeepsBuffer buffer order

-- the message at a place among the writes and reads of a list, if there are so many
abbrev pub message_at : List Communication → ℕ → Option ℕ
message_at list place = option_and_then message_in (slice_get (exchanges list) place)

-- The labels are consistent: among the writes and reads of each cell, the label of each message is at most that of
-- the next one.
abbrev pub IsConsistent : Image → (ℕ → List Communication) → Type 0
IsConsistent image lists =
    (c place a b : ℕ) → c < cells image
    → message_at (lists c) place ≡ Some a → message_at (lists c) (suc place) ≡ Some b
    → (message_of image a).label ≤ (message_of image b).label
