-- How a tree of loops is walked without unrolling it.
use Rattle.std.specs.Prelude.{◌-◌, ◌+◌, ◌*◌, ◌^◌, ℕ, ◌≡◌, ◌≢◌, ◌<◌, ◌≤◌, ⊤, List, [], ◌∷◌, ◌++◌, length, map, take, slice_index, slice_index_or, All}
use Rattle.cell_types.specs.Communications.{Communication, Writes, copies, times}
use Rattle.comm_sequence.specs.Parts.{communication, unrolled, loops}
use Rattle.comm_sequence.specs.Sequences.{Sequences, comms}
use Rattle.comm_sequence.specs.declared.part.Part.{Part, Repeat', Row_of-Part, end_of-Part, more_of-Part}
use Rattle.comm_sequence.specs.declared.walking.Turns.{Turns}
use Rattle.comm_sequence.specs.declared.walking.Walk.{Walk}

-- There are parts in a loop.
abbrev pub HasSome : {n : _} → Row_of-Part n → Type 0
HasSome end_of-Part = ⊥
HasSome (more_of-Part part rest) = ⊤

abbrev mutual
  -- Each loop of a part has a turn, and a part to repeat.
  pub IsFull : Part → Type 0
  IsFull (Repeat' turns shape parts) = (turns ≢ 0) × HasSome parts × IsFullRow parts
  IsFull _ = ⊤

  -- The same for a loop's parts.
  pub IsFullRow : {n : _} → Row_of-Part n → Type 0
  IsFullRow end_of-Part = ⊤
  IsFullRow (more_of-Part part rest) = IsFull part × IsFullRow rest

-- what is left of a loop: the rest of this turn, and then its other turns
abbrev pub turns_left : Turns → List Communication
turns_left t = unrolled t.rest.now ++ copies t.more (unrolled t.whole.now)

-- what is left of loops inside one another, the outermost first
abbrev pub around : List Turns → List Communication
around [] = []
around (t ∷ ts) = around ts ++ turns_left t

-- what a walk has left
abbrev pub left : Walk → List Communication
left w = turns_left w.inner ++ around (take w.depth w.outer)

-- Parts are full, and their loops stand inside one another so often at most.
abbrev pub HaveRoom : ℕ → List Part → Type 0
HaveRoom room parts = (loops parts ≤ room) × All IsFull parts

-- What a walk keeps of a loop: its parts have room, and there are some where it has turns left.
pub record IsLoop (room : ℕ) (t : Turns) : Type 0 where
  pub rest : HaveRoom room t.rest.now
  pub whole : HaveRoom room t.whole.now
  pub some : t.more ≢ 0 → t.whole.now ≢ []

-- What a walk keeps: there is a place for each loop that it may come into.
pub record IsWalk (w : Walk) : Type 0 where
  pub depth : w.depth ≤ 16
  pub inner : IsLoop (16 - w.depth) w.inner
  pub outer : (k : ℕ) (d : Turns) → k < w.depth → IsLoop (16 - k) (slice_index_or w.outer k d)

-- Parts got longer by some communications, which stand in so many loops inside one another at most; full ones stay
-- full.
pub record HasGrown (old new : List Part) (more : List Communication) (deep : ℕ) : Type 0 where
  pub list : unrolled new ≡ unrolled old ++ more
  pub full : All IsFull old → All IsFull new
  pub room : (room : ℕ) → loops old ≤ room → deep ≤ room → loops new ≤ room

-- the writes and reads alone
abbrev pub operations : List Communication → List Communication
operations list = map communication (comms list)

-- These are the writes and reads of parts, in full loops that are no deeper.
pub record AreOperations (parts kept : List Part) : Type 0 where
  pub list : unrolled kept ≡ operations (unrolled parts)
  pub full : All IsFull kept
  pub room : loops kept ≤ loops parts

-- A written message has a length.
abbrev pub IsWritten : ℕ → Communication → Type 0
IsWritten count (Writes message) = message < count
IsWritten count _ = ⊤

-- There is room for the writes of so many turns.
pub record CanAdd (lengths : List ℕ) (turns : ℕ) (list : List Communication) : Type 0 where
  pub messages : All (IsWritten (length lengths)) list
  pub some : turns ≢ 0
  pub few : turns * length list < 2 ^ 32
  pub room : (m : ℕ) → m < length lengths → slice_index lengths m + turns * length list < 2 ^ 32

-- The writes of so many turns were added to the lengths.
abbrev pub HasAdded : List ℕ → List ℕ → ℕ → List Communication → Type 0
HasAdded old new turns list =
    (m : ℕ) → m < length old → slice_index new m ≡ slice_index old m + turns * times (Writes m) list

-- A cursor can walk these parts: they have room, and are writes and reads alone.
pub record AreWalked (parts : List Part) : Type 0 where
  pub room : HaveRoom 16 parts
  pub alone : operations (unrolled parts) ≡ unrolled parts

-- What a cursor keeps: it walks, over writes and reads alone.
pub record IsCursor (w : Walk) : Type 0 where
  pub walk : IsWalk w
  pub alone : operations (left w) ≡ left w

-- what cursors over trees and the rest give together
abbrev pub from_trees : List (List Part) → List ℕ → List ℕ → List ℕ → List (ℕ × ℕ) → Sequences
from_trees trees lengths takes emits ends =
    record {
      lists = map (λ parts. comms (unrolled parts)) trees;
      lengths = lengths;
      takes = takes;
      emits = emits;
      ends = ends;
    }
