-- A step by a row of the cell's own.
use Rattle.std.proofs.Common.{◌≡◌, ℕ, Bool, Option, refl, sym, subst}
use Rattle.sys_base.specs.declared.word.Word.{Word}
use Rattle.cell_code.specs.Rows.{State, Row, Moves}
use Rattle.cell_machine.specs.Steps.{Does}
use Rattle.cell_machine.specs.declared.step.CellStep.{CellStep}
use Rattle.cell_machine.specs.declared.step.CellStep.TheVariants.{Moved}

pub does_moves : {P : Type 0} (room : P → ℕ → Bool) (first : P → ℕ → Option Word) (wrote gave : P → ℕ → Word → P → Type 0) (row : Row) (old new : State) (p q : P) (answer : CellStep) →
    row ≡ Moves new → answer ≡ Moved → q ≡ p → Does room first wrote gave row old new p q answer
does_moves room first wrote gave row old new p q answer e moved same =
    subst (λ r. Does room first wrote gave r old new p q answer) (sym e) (moved, refl, same)
