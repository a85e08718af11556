-- What contracts see of the machine of a cell.
use Rattle.std.specs.Prelude.{ℕ, ◌≡◌, ◌<◌, ◌^◌, nat_lt, if◌then◌else◌, ℤ, pos, negsuc, List, length, Option, Some, None}
use Rattle.sys_base.specs.Communications.{Communication, Takes, Emits, times}
use Rattle.cell_code.specs.declared.image.CellImage.{CellImage}
use Rattle.cell_code.specs.Rows.{State, opening_state}
use Rattle.cell_code.specs.ShapedCells.{OnPath, OnWay, IsShapedCell}

-- the machine: its cell's number, its input, its state, and how many places are kept free for its stack and for its
-- output
pub record Machine : Type 0 where
  pub cell : ℕ
  pub input : List ℤ
  pub state : State
  pub places : ℕ
  pub room : ℕ

-- a new machine of a cell image
abbrev pub new_machine : ℕ → CellImage → List ℤ → Machine
new_machine cell image input =
    record {
      cell = cell;
      input = input;
      state = opening_state image.words image.counters;
      places = image.stack;
      room = image.emits;
    }

-- the number as an index, where it is below a length
abbrev pub index_below : ℤ → ℕ → Option ℕ
index_below (pos n) len = if nat_lt n len then Some n else None
index_below (negsuc n) len = None

-- A machine of a shaped cell image stands where steps of its code can lead it: its address and its stack are those of
-- a path, and its address, its counters, its takes and its emits those of a way.
pub record IsReached (image : CellImage) (m : Machine) : Type 0 where
  pub shaped : IsShapedCell image
  pub short : length image.code < 2 ^ 32
  pub path : OnPath image.code m.state.at (length m.state.stack)
  pub made : List Communication
  pub way : OnWay image.code image.counters (record { at = m.state.at; counters = m.state.held.counters; made = made })
  pub taken : times Takes made ≡ m.state.held.taken
  pub emitted : times Emits made ≡ length m.state.held.output
  pub words : length m.state.held.words ≡ image.words
  pub counters : length m.state.held.counters ≡ image.counters
  pub input : length m.input ≡ image.takes
  pub places : m.places ≡ image.stack
  pub room : m.room ≡ image.emits
