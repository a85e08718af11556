-- What a step of a machine does over a port.
use Rattle.std.specs.Bool.{MatchBool}
use Rattle.std.specs.Prelude.{ℕ, ◌≡◌, Bool, Option, MatchOption}
use Rattle.sys_base.specs.declared.word.Word.{Word}
use Rattle.cell_code.specs.Rows.{State, Row, Stands, Moves, Sends, Receives, received}
use Rattle.cell_machine.specs.declared.step.CellStep.{CellStep}
use Rattle.cell_machine.specs.declared.step.CellStep.TheVariants.{Moved, WaitsWrite, WaitsRead, Halted}

-- By a row, a step leads from a state and a port to a state and a port, and answers. A write is taken where there is
-- room, and a read is given the next word where there is one; else nothing changes.
module _ {P : Type 0} (room : P → ℕ → Bool) (first : P → ℕ → Option Word) (wrote gave : P → ℕ → Word → P → Type 0) where
  abbrev pub Does : Row → State → State → P → P → CellStep → Type 0
  Does Stands old new p q answer = (answer ≡ Halted) × (new ≡ old) × (q ≡ p)
  Does (Moves next) old new p q answer = (answer ≡ Moved) × (new ≡ next) × (q ≡ p)
  Does (Sends message word next) old new p q answer =
      MatchBool (room p message) ((answer ≡ Moved) × (new ≡ next) × wrote p message word q)
      ((answer ≡ WaitsWrite message) × (new ≡ old) × (q ≡ p))
  Does (Receives message variable next) old new p q answer =
      MatchOption (first p message) ((answer ≡ WaitsRead message) × (new ≡ old) × (q ≡ p))
      (λ word. (answer ≡ Moved) × (new ≡ received next variable word) × gave p message word q)
