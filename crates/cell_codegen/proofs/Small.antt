-- What is sound is small.
use Rattle.std.proofs.Common.{ℕ, ◌+◌, arith}
use Rattle.cell_types.specs.Code.{Expression, Number, Variable, Counter, Element, Negated, Applied, Action, Set, SetAt, Write, Read, Take, Emit, For, If, Block, End, Then}
use Rattle.cell_types.specs.Sound.{Means, SoundExpression, SoundAction, SoundBlock}
use Rattle.cell_codegen.specs.Bounds.{SmallExpression, SmallAction, SmallBlock}

small_expression : (means : Means) (depth : ℕ) (e : Expression) → SoundExpression means depth e → SmallExpression e
small_expression means depth (Number n) sound = omega arith
small_expression means depth (Variable w) sound = tt
small_expression means depth (Counter k) sound = tt
small_expression means depth (Element base len e) sound = small_expression means depth e sound.1
small_expression means depth (Negated e) sound = small_expression means depth e sound
small_expression means depth (Applied op l r) sound = (small_expression means depth l sound.0, small_expression means depth r sound.1)

mutual
  small_action : (means : Means) (depth : ℕ) (a : Action) → SoundAction means depth a → SmallAction a
  small_action means depth (Set w e) sound = small_expression means depth e sound.1
  small_action means depth (SetAt base len e f) sound = (small_expression means depth e sound.1, small_expression means depth f sound.2)
  small_action means depth (Write m e) sound = small_expression means depth e sound.1
  small_action means depth (Read m w) sound = tt
  small_action means depth (Take w) sound = tt
  small_action means depth (Emit e) sound = small_expression means depth e sound
  small_action means depth (For k n body) sound = (omega (arith, sound.2), small_block means (depth + 1) body sound.3)
  small_action means depth (If e first second) sound =
      (small_expression means depth e sound.0, small_block means depth first sound.1, small_block means depth second sound.2)

  pub small_block : (means : Means) (depth : ℕ) (b : Block) → SoundBlock means depth b → SmallBlock b
  small_block means depth End sound = tt
  small_block means depth (Then line a rest) sound = (small_action means depth a sound.0, small_block means depth rest sound.1)
