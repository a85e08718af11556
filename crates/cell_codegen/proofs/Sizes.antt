-- The code of statements has as many instructions as their size says.
use Rattle.std.proofs.Common.{◌≡◌, ℕ, ◌+◌, [], ◌∷◌, ◌++◌, length, refl, arith, length-append}
use Rattle.cell_code.specs.declared.instruction.Instr.{Instr}
use Rattle.cell_code.specs.declared.instruction.Instr.TheVariants as I
use Rattle.cell_types.specs.Code.{Expression, Number, Variable, Counter, Element, Negated, Applied, Action, Set, SetAt, Write, Read, Take, Emit, For, If, Block, End, Then, CellCode}
use Rattle.cell_types.specs.Cost.{expression_cost}
use Rattle.cell_types.specs.Size.{action_size, block_size, cell_size}
use Rattle.cell_codegen.specs.Emission.{expression_code, action_code, block_code, body_code}

behind : (line : ℕ) (e : Expression) (instr : Instr) → length (expression_code line e) ≡ expression_cost e →
    length (expression_code line e ++ instr ∷ []) ≡ expression_cost e + 1
behind line e instr h = omega (arith, h, length-append (expression_code line e) (instr ∷ []))

expression_sized : (line : ℕ) (e : Expression) → length (expression_code line e) ≡ expression_cost e
expression_sized line (Number n) = refl
expression_sized line (Variable w) = refl
expression_sized line (Counter k) = refl
expression_sized line (Element base len e) = behind line e (I.LoadAt base len line) (expression_sized line e)
expression_sized line (Negated e) = behind line e (I.Neg line) (expression_sized line e)
expression_sized line (Applied op l r) =
    omega (
      arith,
      expression_sized line l,
      expression_sized line r,
      length-append (expression_code line l) (expression_code line r ++ I.Bin op line ∷ []),
      length-append (expression_code line r) (I.Bin op line ∷ []),
    )

mutual
  action_sized : (at line : ℕ) (a : Action) → length (action_code at line a) ≡ action_size a
  action_sized at line (Set w e) = behind line e (I.Store w) (expression_sized line e)
  action_sized at line (SetAt base len e f) =
      omega (
        arith,
        expression_sized line e,
        expression_sized line f,
        length-append (expression_code line e) (expression_code line f ++ I.StoreAt base len line ∷ []),
        length-append (expression_code line f) (I.StoreAt base len line ∷ []),
      )
  action_sized at line (Write m e) = behind line e (I.Write m) (expression_sized line e)
  action_sized at line (Read m w) = refl
  action_sized at line (Take w) = refl
  action_sized at line (Emit e) = behind line e I.Emit (expression_sized line e)
  action_sized at line (For k n body) =
      omega (arith, block_sized (at + 1) body, length-append (block_code (at + 1) body) (I.Next k n (at + 1) ∷ []))
  action_sized at line (If e first second) =
      let test = expression_code line e in
      let pc = at + length test in
      let a = block_code (pc + 1) first in
      let b = block_code (pc + 1 + length a + 1) second in
      let end = pc + 1 + length a + 1 + length b in
      omega (
        arith,
        expression_sized line e,
        block_sized (pc + 1) first,
        block_sized (pc + 1 + length a + 1) second,
        length-append test (I.IfZero (pc + 1 + length a + 1) ∷ (a ++ (I.Jump end ∷ b))),
        length-append a (I.Jump end ∷ b),
      )

  block_sized : (at : ℕ) (b : Block) → length (block_code at b) ≡ block_size b
  block_sized at End = refl
  block_sized at (Then line a rest) =
      let is = action_code at line a in
      omega (arith, action_sized at line a, block_sized (at + length is) rest, length-append is (block_code (at + length is) rest))

pub cell_sized : (cell : CellCode) → length (body_code cell.body) ≡ cell_size cell
cell_sized cell = omega (arith, block_sized 0 cell.body, length-append (block_code 0 cell.body) (I.Halt ∷ []))
