-- Code that is sound in itself.
use Rattle.std.specs.Prelude.{ℕ, ◌≡◌, ⊤, List, Some, IsSomeAnd, length, slice_get}
use Rattle.cell_code.specs.ShapedCells.{EndsInHalt, InRange, LeadsInside, StackRule}
use Rattle.cell_code.specs.declared.image.CellImage.{CellImage}
use Rattle.cell_code.specs.declared.instruction.Instr.{Instr}
use Rattle.cell_code.specs.declared.instruction.Instr.TheVariants.{Write, Read}
use Rattle.cell_types.specs.Code.{CellCode, ProgramCode}
use Rattle.cell_types.specs.Communications.{takes_of, emits_of}
use Rattle.cell_types.specs.Solo.{code_of}
use Rattle.cell_types.specs.declared.program.Message.{Message}

-- Code of a cell is sound whatever the arms of its statements communicate: it ends in its only `halt`, what it names is
-- in range, its targets are addresses of it, and it keeps the stack rule with as many places as the cell needs.
pub record IsSoundCode (cell : CellCode) (code : List Instr) : Type 0 where
  pub ends : EndsInHalt code
  pub ranges : (at : ℕ) (instr : Instr) → slice_get code at ≡ Some instr → InRange cell.words cell.counters instr
  pub targets : (at : ℕ) (instr : Instr) → slice_get code at ≡ Some instr → LeadsInside (length code) instr
  pub stack : StackRule code cell.stack

-- the image of a cell of a program with this code: its takes and emits, its words, counters and stack
abbrev pub cell_image : ProgramCode → ℕ → List Instr → CellImage
cell_image program cell code =
    record {
      takes = takes_of program cell;
      emits = emits_of program cell;
      words = (code_of program cell).words;
      counters = (code_of program cell).counters;
      stack = (code_of program cell).stack;
      code = code;
    }

-- The message that an instruction of a cell writes or reads is one of these, and the cell is its sender where it is
-- written, and its receiver where it is read.
abbrev pub IsAtItsEnd : List Message → ℕ → Instr → Type 0
IsAtItsEnd messages cell (Write message) = IsSomeAnd (slice_get messages message) (λ (m : Message). m.from ≡ cell)
IsAtItsEnd messages cell (Read message word) = IsSomeAnd (slice_get messages message) (λ (m : Message). m.to ≡ cell)
IsAtItsEnd messages cell _ = ⊤
