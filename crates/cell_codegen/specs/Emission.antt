-- The code that is emitted for the statements of a cell. Targets are addresses, so code is a function of the address
-- where it stands.
use Rattle.std.specs.Prelude.{ℕ, ◌+◌, pos, List, [], ◌∷◌, ◌++◌, length}
use Rattle.cell_code.specs.declared.instruction.Instr.{Instr}
use Rattle.cell_code.specs.declared.instruction.Instr.TheVariants as I
use Rattle.cell_types.specs.Code.{Expression, Number, Variable, Counter, Element, Negated, Applied, Action, Set, SetAt, Write, Read, Take, Emit, For, If, Block, End, Then}

-- the code of an expression of a statement on this line: the operands from left to right, then the operator
abbrev pub expression_code : ℕ → Expression → List Instr
expression_code line (Number number) = I.Push (pos number) ∷ []
expression_code line (Variable word) = I.Load word ∷ []
expression_code line (Counter counter) = I.Counter counter ∷ []
expression_code line (Element base len index) = expression_code line index ++ I.LoadAt base len line ∷ []
expression_code line (Negated operand) = expression_code line operand ++ I.Neg line ∷ []
expression_code line (Applied op left right) = expression_code line left ++
    (expression_code line right ++ I.Bin op line ∷ [])

-- the code of a loop at an address, around the code of its body, which stands at the next address
abbrev pub loop_code : ℕ → ℕ → ℕ → List Instr → List Instr
loop_code at counter turns body =
    I.Loop counter turns (at + 1 + length body + 1) ∷ (body ++ I.Next counter turns (at + 1) ∷ [])

-- the code of an `if` at an address: its test, its first arm and a jump over the second arm, and its second arm
abbrev pub if_code : ℕ → List Instr → List Instr → List Instr → List Instr
if_code at test first second =
    test ++ (I.IfZero (at + length test + 1 + length first + 1)
    ∷ (first ++ (I.Jump (at + length test + 1 + length first + 1 + length second) ∷ second)))

abbrev mutual
  -- the code of an action of a statement on this line, at an address
  pub action_code : (at line : ℕ) → Action → List Instr
  action_code at line (Set word value) = expression_code line value ++ I.Store word ∷ []
  action_code at line (SetAt base len index value) =
      expression_code line index ++ (expression_code line value ++ I.StoreAt base len line ∷ [])
  action_code at line (Write message value) = expression_code line value ++ I.Write message ∷ []
  action_code at line (Read message word) = I.Read message word ∷ []
  action_code at line (Take word) = I.Take word ∷ []
  action_code at line (Emit value) = expression_code line value ++ I.Emit ∷ []
  action_code at line (For counter turns body) = loop_code at counter turns (block_code (at + 1) body)
  action_code at line (If test first second) =
      let test = expression_code line test in
      let first = block_code (at + length test + 1) first in
      if_code at test first (block_code (at + length test + 1 + length first + 1) second)

  -- the code of statements at an address, one after another
  pub block_code : (at : ℕ) → Block → List Instr
  block_code at End = []
  block_code at (Then line action rest) =
      let first = action_code at line action in
      first ++ block_code (at + length first) rest

-- the code of a cell's statements, from address 0 on, and `halt` at its end
abbrev pub body_code : Block → List Instr
body_code body = block_code 0 body ++ I.Halt ∷ []
