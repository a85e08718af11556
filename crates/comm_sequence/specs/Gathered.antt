-- Sequences from the communications of cells.
use Rattle.std.specs.Prelude.{ℕ, ◌≢◌, ◌<◌, ◌≤◌, ◌^◌, List, [], length, map, sum_by, slice_index_or, All, EachIndex}
use Rattle.std.specs.Global.{Vec}
use Rattle.sys_base.specs.declared.limits.TheConstants.{MESSAGES}
use Rattle.cell_types.specs.Communications.{Communication, Writes, Takes, Emits, times}
use Rattle.cell_types.specs.Groups.{below}
use Rattle.comm_sequence.specs.Parts.{unrolled}
use Rattle.comm_sequence.specs.Sequences.{Sequences, IsAtItsEnd, comms, message_of}
use Rattle.comm_sequence.specs.declared.part.Part.{Part}

-- the communications of cells, by their parts
abbrev pub all_unrolled : List (Vec Part) → List (List Communication)
all_unrolled cells = map (λ (parts : Vec Part). unrolled parts.items) cells

-- There are at most 256 cells and 512 messages, each message goes from one cell to another one, the communications
-- are on these messages, only a message's sender writes it and only its receiver reads it, and there are fewer than
-- 2^32 communications in all.
pub record AreCommunications (lists : List (List Communication)) (ends : List (ℕ × ℕ)) : Type 0 where
  pub cells : length lists ≤ 256
  pub messages : length ends ≤ MESSAGES
  pub within : All (λ (e : ℕ × ℕ). (e.0 < length lists) × (e.1 < length lists)) ends
  pub apart : All (λ (e : ℕ × ℕ). e.0 ≢ e.1) ends
  pub known : All (λ list. All (λ c. message_of c < length ends) (comms list)) lists
  pub owned : EachIndex lists (λ cell. All (IsAtItsEnd ends cell) (comms (slice_index_or lists cell [])))
  pub few : sum_by length lists < 2 ^ 32

-- the sequences of cells that communicate so
abbrev pub gathered : List (List Communication) → List (ℕ × ℕ) → Sequences
gathered cells ends =
    record {
      lists = map comms cells;
      lengths = map (λ m. sum_by (times (Writes m)) cells) (below (length ends));
      takes = map (times Takes) cells;
      emits = map (times Emits) cells;
      ends = ends;
    }
