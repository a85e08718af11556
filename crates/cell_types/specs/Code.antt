-- Programs as plain data: what the definitions of this crate are about.
use Rattle.std.specs.Prelude.{ℕ, List}
use Rattle.sys_base.specs.declared.kinds.Op.{Op}
use Rattle.sys_base.specs.Grid.{Extent}
use Rattle.cell_types.specs.declared.program.Message.{Message}

-- an expression: variables by their offsets, counters by how many loops are around theirs
pub data Expression : Type 0 where
  Number : (number : ℕ) → Expression
  Variable : (word : ℕ) → Expression
  Counter : (counter : ℕ) → Expression
  -- an element of the array that has `len` words from `base` on
  Element : (base len : ℕ) → (index : Expression) → Expression
  Negated : (operand : Expression) → Expression
  Applied : (op : Op) → (left right : Expression) → Expression

mutual
  -- what a statement does: messages by their indices
  pub data Action : Type 0 where
    Set : (word : ℕ) → (value : Expression) → Action
    SetAt : (base len : ℕ) → (index value : Expression) → Action
    Write : (message : ℕ) → (value : Expression) → Action
    Read : (message word : ℕ) → Action
    Take : (word : ℕ) → Action
    Emit : (value : Expression) → Action
    For : (counter turns : ℕ) → (body : Block) → Action
    If : (test : Expression) → (first second : Block) → Action

  -- statements one after another, each with its line
  pub data Block : Type 0 where
    End : Block
    Then : (line : ℕ) → (action : Action) → (rest : Block) → Block

-- the program of one cell: the words of its variables, the most loops inside one another, the deepest stack that it
-- needs, and its statements
pub record CellCode : Type 0 where
  pub words : ℕ
  pub counters : ℕ
  pub stack : ℕ
  pub body : Block

-- a whole program: its grid, the queues of each link by id, its messages, its cells by index, and its buffer
pub record ProgramCode : Type 0 where
  pub grid : Extent
  pub queues : List ℕ
  pub messages : List Message
  pub cells : List CellCode
  pub buffer : ℕ
