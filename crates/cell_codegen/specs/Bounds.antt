-- What emission needs: numbers and counts that fit their instructions, and addresses that fit their targets.
use Rattle.std.specs.Prelude.{ℕ, ◌+◌, ◌^◌, ◌<◌, ⊤, List, length}
use Rattle.cell_code.specs.declared.instruction.Instr.{Instr}
use Rattle.cell_types.specs.Code.{Expression, Number, Element, Negated, Applied, Action, Set, SetAt, Write, Emit, For, If, Block, End, Then}
use Rattle.cell_codegen.specs.Emission.{action_code, block_code}

-- The numbers of an expression are below 2^63.
abbrev pub SmallExpression : Expression → Type 0
SmallExpression (Number number) = number < 2 ^ 63
SmallExpression (Element base len index) = SmallExpression index
SmallExpression (Negated operand) = SmallExpression operand
SmallExpression (Applied op left right) = SmallExpression left × SmallExpression right
SmallExpression _ = ⊤

abbrev mutual
  -- The same for the numbers of an action, and its loops have fewer than 2^32 turns.
  pub SmallAction : Action → Type 0
  SmallAction (Set word value) = SmallExpression value
  SmallAction (SetAt base len index value) = SmallExpression index × SmallExpression value
  SmallAction (Write message value) = SmallExpression value
  SmallAction (Emit value) = SmallExpression value
  SmallAction (For counter turns body) = (turns < 2 ^ 32) × SmallBlock body
  SmallAction (If test first second) = SmallExpression test × SmallBlock first × SmallBlock second
  SmallAction _ = ⊤

  -- The same for some statements.
  pub SmallBlock : Block → Type 0
  SmallBlock End = ⊤
  SmallBlock (Then line action rest) = SmallAction action × SmallBlock rest

-- Behind this code, that of an action has addresses below 2^32.
abbrev pub HasRoom : List Instr → ℕ → Action → Type 0
HasRoom code line action = length code + length (action_code (length code) line action) < 2 ^ 32

-- The same for statements.
abbrev pub HasRoomFor : List Instr → Block → Type 0
HasRoomFor code block = length code + length (block_code (length code) block) < 2 ^ 32
