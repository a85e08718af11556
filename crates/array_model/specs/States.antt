-- The states of an array that runs an image.
use Rattle.std.specs.Prelude.{ℕ, ◌≡◌, ◌<◌, ℤ, List, [], length, slice_index_or}
use Rattle.sys_base.specs.Grid.{cell_count}
use Rattle.sys_base.specs.Held.{Streams}
use Rattle.cell_code.specs.Marks.{Marks}
use Rattle.cell_code.specs.Rows.{State, opening_state}
use Rattle.cell_code.specs.declared.image.CellImage.{CellImage}
use Rattle.cell_code.specs.declared.image.Image.{Image}
use Rattle.cell_code.specs.declared.instruction.Instr.{Instr}

-- how many cells there are
abbrev pub cells : Image → ℕ
cells image = cell_count image.grid

-- the image of a cell; one that is not there has no code
abbrev pub cell_of : Image → ℕ → CellImage
cell_of image c =
    slice_index_or image.cells c (record { takes = 0; emits = 0; words = 0; counters = 0; stack = 0; code = [] })

-- the code of a cell
abbrev pub code_of : Image → ℕ → List Instr
code_of image c = (cell_of image c).code

-- the input of each cell
abbrev pub Inputs : Type 0
Inputs = ℕ → List ℤ

-- Each cell has as many input words as it takes.
abbrev pub IsCounted : Image → Inputs → Type 0
IsCounted image inputs = (c : ℕ) → c < cells image → length (inputs c) ≡ (cell_of image c).takes

-- a state of the array: the state of each cell, all words that were ever written to each message, the marks, and how
-- many of its groups each link has bound
pub record ArrayState : Type 0 where
  pub cell : ℕ → State
  pub history : Streams
  pub marks : Marks
  pub bound : ℕ → ℕ

-- the opening state: each cell is at address 0, and nothing was written or bound
abbrev pub opening : Image → ArrayState
opening image =
    record {
      cell = λ c. opening_state (cell_of image c).words (cell_of image c).counters;
      history = λ m. [];
      marks = λ m hop. 0;
      bound = λ l. 0;
    }
