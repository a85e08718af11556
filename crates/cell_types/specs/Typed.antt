-- Typed trees and programs as plain data.
pub use Rattle.cell_types.specs.TypedBlocks.{expression_of, action_of, inner_block, block_of}
use Rattle.std.specs.Prelude.{ℕ, List, map}
use Rattle.sys_base.specs.Grid.{Extent}
use Rattle.cell_types.specs.Code.{CellCode, ProgramCode}
use Rattle.cell_types.specs.declared.cell.Cell.{Cell}
use Rattle.cell_types.specs.declared.program.Message.{Message}

-- a typed cell as plain data
abbrev pub plain_cell : Cell → CellCode
plain_cell cell =
    record { words = cell.words; counters = cell.counters; stack = cell.stack; body = block_of cell.body.items }

-- what a program holds: its grid, the queues of each link by id, its messages, its typed cells by index, and its
-- buffer
pub record Contents : Type 0 where
  pub grid : Extent
  pub queues : List ℕ
  pub messages : List Message
  pub cells : List Cell
  pub buffer : ℕ

-- a program as plain data
abbrev pub plain : Contents → ProgramCode
plain program =
    record {
      grid = program.grid;
      queues = program.queues;
      messages = program.messages;
      cells = map plain_cell program.cells;
      buffer = program.buffer;
    }
