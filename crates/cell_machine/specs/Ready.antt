-- The registers of a machine, and what an instruction needs of them.
use Rattle.std.specs.Prelude.{ℕ, ◌+◌, ◌≡◌, ◌<◌, ◌≤◌, ⊤, reverse}
use Rattle.std.specs.Vec.{vec_len, vec_capacity}
use Rattle.cell_code.specs.declared.instruction.Instr.{Instr}
use Rattle.cell_code.specs.declared.instruction.Instr.TheVariants.{Push, Load, LoadAt, Counter, Neg, Bin, Store, StoreAt, Write, Read, Take, Emit, Loop, Next, IfZero, Jump, Halt}
use Rattle.cell_code.specs.Rows.{State, Row, row_of}
use Rattle.cell_machine.specs.declared.registers.Registers.{Registers}
use Rattle.cell_machine.specs.Machine.{Machine}

-- the state that registers hold: their stack has its top last
abbrev pub state_of : Registers → State
state_of r =
    record {
      at = r.at;
      stack = reverse r.stack.items;
      held =
          record {
            words = r.words.items;
            counters = r.counters.items;
            kept = r.kept;
            taken = r.taken;
            output = r.output.items;
          };
    }

-- the machine that registers are, with some places kept for its stack and its output
abbrev pub machine_of : Registers → ℕ → ℕ → Machine
machine_of r places room =
    record { cell = r.cell; input = r.input.items; state = state_of r; places = places; room = room }

-- the row of an instruction at these registers
abbrev pub row_here : Registers → Instr → Row
row_here r instr = row_of r.cell r.input.items (state_of r) instr

-- The stack has a free place.
abbrev pub HasPlace : Registers → Type 0
HasPlace r = vec_len r.stack < vec_capacity r.stack

-- The stack has so many words at least.
abbrev pub HasWords : ℕ → Registers → Type 0
HasWords n r = n ≤ vec_len r.stack

-- What an instruction needs is there: its operands, a place for what it pushes or emits, what it names, and the input
-- word it takes.
abbrev pub IsReady : Instr → Registers → Type 0
IsReady (Push number) r = HasPlace r
IsReady (Load word) r = HasPlace r × (word < vec_len r.words)
IsReady (LoadAt base len line) r = HasWords 1 r × (base + len ≤ vec_len r.words)
IsReady (Counter k) r = HasPlace r × (k < vec_len r.counters)
IsReady (Neg line) r = HasWords 1 r
IsReady (Bin op line) r = HasWords 2 r
IsReady (Store word) r = HasWords 1 r × (word < vec_len r.words)
IsReady (StoreAt base len line) r = HasWords 2 r × (base + len ≤ vec_len r.words)
IsReady (Write message) r = HasWords 1 r
IsReady (Read message word) r = word < vec_len r.words
IsReady (Take word) r = (word < vec_len r.words) × (r.taken < vec_len r.input)
IsReady Emit r = HasWords 1 r × (vec_len r.output < vec_capacity r.output)
IsReady (Loop k turns exit) r = k < vec_len r.counters
IsReady (Next k turns body) r = k < vec_len r.counters
IsReady (IfZero target) r = HasWords 1 r
IsReady (Jump target) r = ⊤
IsReady Halt r = ⊤

-- The cell's number and its input stay, and no room of the stack or of the output is given up.
pub record Keeps (old new : Registers) : Type 0 where
  pub cell : new.cell ≡ old.cell
  pub input : new.input ≡ old.input
  pub places : vec_capacity old.stack ≤ vec_capacity new.stack
  pub room : vec_capacity old.output ≤ vec_capacity new.output
