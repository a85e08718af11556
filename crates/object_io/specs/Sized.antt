-- Images whose numbers fit the types of their fields.
use Rattle.std.specs.Prelude.{◌<◌, ◌^◌, ⊤, All}
use Rattle.std.specs.Int.Signed.{mag}
use Rattle.sys_base.specs.Grid.{IsExtent}
use Rattle.cell_code.specs.declared.image.CellImage.{CellImage}
use Rattle.cell_code.specs.declared.image.Group.{Group}
use Rattle.cell_code.specs.declared.image.Image.{Image}
use Rattle.cell_code.specs.declared.image.LinkImage.{LinkImage}
use Rattle.cell_code.specs.declared.image.MessageImage.{MessageImage}
use Rattle.cell_code.specs.declared.instruction.Instr.{Instr}
use Rattle.cell_code.specs.declared.instruction.Instr.TheVariants.{Push, Load, LoadAt, Counter, Neg, Bin, Store, StoreAt, Write, Read, Take, Emit, Loop, Next, IfZero, Jump, Halt}

-- The numbers of an instruction fit: 16 bits for words, arrays and messages, 8 for counters, 32 for lines, turns and
-- targets, and 64 with a sign for a pushed one.
abbrev pub IsSizedInstruction : Instr → Type 0
IsSizedInstruction (Push number) = mag number < 2 ^ 63
IsSizedInstruction (Load word) = word < 2 ^ 16
IsSizedInstruction (LoadAt base len line) = (base < 2 ^ 16) × (len < 2 ^ 16) × (line < 2 ^ 32)
IsSizedInstruction (Counter k) = k < 2 ^ 8
IsSizedInstruction (Neg line) = line < 2 ^ 32
IsSizedInstruction (Bin op line) = line < 2 ^ 32
IsSizedInstruction (Store word) = word < 2 ^ 16
IsSizedInstruction (StoreAt base len line) = (base < 2 ^ 16) × (len < 2 ^ 16) × (line < 2 ^ 32)
IsSizedInstruction (Write message) = message < 2 ^ 16
IsSizedInstruction (Read message word) = (message < 2 ^ 16) × (word < 2 ^ 16)
IsSizedInstruction (Take word) = word < 2 ^ 16
IsSizedInstruction Emit = ⊤
IsSizedInstruction (Loop k turns exit) = (k < 2 ^ 8) × (turns < 2 ^ 32) × (exit < 2 ^ 32)
IsSizedInstruction (Next k turns body) = (k < 2 ^ 8) × (turns < 2 ^ 32) × (body < 2 ^ 32)
IsSizedInstruction (IfZero target) = target < 2 ^ 32
IsSizedInstruction (Jump target) = target < 2 ^ 32
IsSizedInstruction Halt = ⊤

-- The numbers of a message fit.
pub record IsSizedMessage (m : MessageImage) : Type 0 where
  pub from : m.from < 2 ^ 16
  pub to : m.to < 2 ^ 16
  pub length : m.length < 2 ^ 32
  pub label : m.label < 2 ^ 16
  pub route : All (λ link. link < 2 ^ 16) m.route

-- The numbers of a group fit.
pub record IsSizedGroup (g : Group) : Type 0 where
  pub label : g.label < 2 ^ 16
  pub members : All (λ member. member < 2 ^ 16) g.members

-- The numbers of a link fit.
pub record IsSizedLink (l : LinkImage) : Type 0 where
  pub link : l.link < 2 ^ 16
  pub queues : l.queues < 2 ^ 8
  pub groups : All IsSizedGroup l.groups

-- The numbers of a cell fit.
pub record IsSizedCell (c : CellImage) : Type 0 where
  pub takes : c.takes < 2 ^ 32
  pub emits : c.emits < 2 ^ 32
  pub words : c.words < 2 ^ 16
  pub counters : c.counters < 2 ^ 8
  pub stack : c.stack < 2 ^ 16
  pub code : All IsSizedInstruction c.code

-- The numbers of an image fit, and its grid is one.
pub record IsSized (image : Image) : Type 0 where
  pub grid : IsExtent image.grid
  pub buffer : image.buffer < 2 ^ 8
  pub bound : image.bound < 2 ^ 32
  pub messages : All IsSizedMessage image.messages
  pub links : All IsSizedLink image.links
  pub cells : All IsSizedCell image.cells
