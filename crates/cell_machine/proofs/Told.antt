-- What the answer of a step tells.
use Rattle.std.proofs.Common.{◌≡◌, ◌≢◌, ◌↔◌, ℤ, ℕ, ◌≤◌, Bool, true, false, List, [], ◌∷◌, length, Option, Some, None, refl, ap, arith}
use Rattle.std.specs.Bool.{MatchBool}
use Rattle.std.specs.Prelude.{MatchOption}
use Rattle.sys_base.specs.Held.{Held}
use Rattle.sys_base.specs.declared.word.Word.{Word}
use Rattle.cell_code.specs.declared.instruction.Instr.{Instr}
use Rattle.cell_code.specs.declared.instruction.Instr.TheVariants.{Push, Load, LoadAt, Counter, Neg, Bin, Store, StoreAt, Write, Read, Take, Emit, Loop, Next, IfZero, Jump, Halt}
use Rattle.cell_code.specs.Rows.{State, row_of, received}
use Rattle.cell_code.specs.ShapedCells.{pops}
use Rattle.cell_machine.specs.Steps.{Does}
use Rattle.cell_machine.specs.declared.step.CellStep.{CellStep}
use Rattle.cell_machine.specs.declared.step.CellStep.TheVariants.{Moved, WaitsWrite, WaitsRead, Halted}

-- what the answer to an instruction tells
pub record Tells {P : Type 0} (room : P → ℕ → Bool) (first : P → ℕ → Option Word) (instr : Instr) (old new : State) (p q : P) (answer : CellStep) : Type 0 where
  pub waits_write : (m : ℕ) → (answer ≡ WaitsWrite m) ↔ ((instr ≡ Write m) × (room p m ≡ false))
  pub waits_read : (m : ℕ) → (answer ≡ WaitsRead m) ↔ ((v : ℕ) × (instr ≡ Read m v) × (first p m ≡ None))
  pub halted : (answer ≡ Halted) ↔ (instr ≡ Halt)
  pub refused : answer ≢ Moved → (new ≡ old) × (q ≡ p)

module _ {P : Type 0} (room : P → ℕ → Bool) (first : P → ℕ → Option Word) (wrote gave : P → ℕ → Word → P → Type 0) (new : State) (p q : P) (answer : CellStep) where
  moving : (instr : Instr) (old : State) → ((m : ℕ) → instr ≢ Write m) → ((m v : ℕ) → instr ≢ Read m v) → instr ≢ Halt → answer ≡ Moved →
      Tells room first instr old new p q answer
  moving instr old write read halt moved =
      record {
        waits_write = λ m. (λ e. absurd (cc), λ h. absurd (write m h.0));
        waits_read = λ m. (λ e. absurd (cc), λ h. absurd (read m h.0 h.1));
        halted = (λ e. absurd (cc), λ h. absurd (halt h));
        refused = λ other. absurd (other moved);
      }

  sending : (message : ℕ) (word : Word) (next old : State) (b : Bool) → room p message ≡ b →
      MatchBool b ((answer ≡ Moved) × (new ≡ next) × wrote p message word q) ((answer ≡ WaitsWrite message) × (new ≡ old) × (q ≡ p)) →
      Tells room first (Write message) old new p q answer
  sending message word next old true is does =
      record {
        waits_write = λ m. (λ e. absurd (cc), λ h. let e : message ≡ m = cc in let f : room p message ≡ false = rw e h.1 in absurd (cc));
        waits_read = λ m. (λ e. absurd (cc), λ h. absurd (cc));
        halted = (λ e. absurd (cc), λ h. absurd (cc));
        refused = λ other. absurd (other does.0);
      }
  sending message word next old false is does =
      record {
        waits_write = λ m. (λ e. let f : message ≡ m = cc in (ap (λ n. Write n) f, rw (← f) is), λ h. let e : message ≡ m = cc in rw (← e) does.0);
        waits_read = λ m. (λ e. absurd (cc), λ h. absurd (cc));
        halted = (λ e. absurd (cc), λ h. absurd (cc));
        refused = λ other. (does.1, does.2);
      }

  reading : (message variable : ℕ) (next old : State) (o : Option Word) → first p message ≡ o →
      MatchOption o ((answer ≡ WaitsRead message) × (new ≡ old) × (q ≡ p))
      (λ word. (answer ≡ Moved) × (new ≡ received next variable word) × gave p message word q) →
      Tells room first (Read message variable) old new p q answer
  reading message variable next old (Some word) is does =
      record {
        waits_write = λ m. (λ e. absurd (cc), λ h. absurd (cc));
        waits_read =
            λ m. (λ e. absurd (cc), λ h. let e : message ≡ m = cc in let f : first p message ≡ None = rw e h.2 in absurd (cc));
        halted = (λ e. absurd (cc), λ h. absurd (cc));
        refused = λ other. absurd (other does.0);
      }
  reading message variable next old None is does =
      record {
        waits_write = λ m. (λ e. absurd (cc), λ h. absurd (cc));
        waits_read =
            λ m. (
              λ e. let f : message ≡ m = cc in (variable, ap (λ n. Read n variable) f, rw (← f) is),
              λ h. let e : message ≡ m = cc in rw (← e) does.0,
            );
        halted = (λ e. absurd (cc), λ h. absurd (cc));
        refused = λ other. (does.1, does.2);
      }

  pub tells : (cell : ℕ) (input : List ℤ) (at : ℕ) (stack : List Word) (held : Held) (instr : Instr) → pops instr ≤ length stack →
      Does room first wrote gave (row_of cell input (record { at = at; stack = stack; held = held }) instr) (record { at = at; stack = stack; held = held }) new p q answer →
      Tells room first instr (record { at = at; stack = stack; held = held }) new p q answer
  tells cell input at stack held (Write m) n does = write stack n does
    where
      write : (stack : List Word) → 1 ≤ length stack →
          Does room first wrote gave (row_of cell input (record { at = at; stack = stack; held = held }) (Write m)) (record { at = at; stack = stack; held = held }) new p q answer →
          Tells room first (Write m) (record { at = at; stack = stack; held = held }) new p q answer
      write [] n does = absurd (omega arith)
      write (top ∷ rest) n does = sending m _ _ _ (room p m) refl does
  tells cell input at stack held (Read m v) n does = reading m v _ _ (first p m) refl does
  tells cell input at stack held Halt n does =
      record {
        waits_write = λ m. (λ e. absurd (cc), λ h. absurd (cc));
        waits_read = λ m. (λ e. absurd (cc), λ h. absurd (cc));
        halted = (λ e. refl, λ h. does.0);
        refused = λ other. (does.1, does.2);
      }
  tells cell input at [] held (LoadAt base len line) n does = absurd (omega arith)
  tells cell input at [] held (Neg line) n does = absurd (omega arith)
  tells cell input at [] held (Bin op line) n does = absurd (omega arith)
  tells cell input at (b ∷ []) held (Bin op line) n does = absurd (omega arith)
  tells cell input at [] held (Store v) n does = absurd (omega arith)
  tells cell input at [] held (StoreAt base len line) n does = absurd (omega arith)
  tells cell input at (b ∷ []) held (StoreAt base len line) n does = absurd (omega arith)
  tells cell input at [] held Emit n does = absurd (omega arith)
  tells cell input at [] held (IfZero target) n does = absurd (omega arith)
  tells cell input at (b ∷ a ∷ rest) held (Bin op line) n does = moving (Bin op line) _ (λ m e. cc) (λ m v e. cc) (λ e. cc) does.0
  tells cell input at (b ∷ a ∷ rest) held (StoreAt base len line) n does =
      moving (StoreAt base len line) _ (λ m e. cc) (λ m v e. cc) (λ e. cc) does.0
  tells cell input at (a ∷ rest) held (LoadAt base len line) n does = moving (LoadAt base len line) _ (λ m e. cc) (λ m v e. cc) (λ e. cc) does.0
  tells cell input at (a ∷ rest) held (Neg line) n does = moving (Neg line) _ (λ m e. cc) (λ m v e. cc) (λ e. cc) does.0
  tells cell input at (a ∷ rest) held (Store v) n does = moving (Store v) _ (λ m e. cc) (λ m v e. cc) (λ e. cc) does.0
  tells cell input at (a ∷ rest) held Emit n does = moving Emit _ (λ m e. cc) (λ m v e. cc) (λ e. cc) does.0
  tells cell input at (a ∷ rest) held (IfZero target) n does = moving (IfZero target) _ (λ m e. cc) (λ m v e. cc) (λ e. cc) does.0
  tells cell input at stack held (Push number) n does = moving (Push number) _ (λ m e. cc) (λ m v e. cc) (λ e. cc) does.0
  tells cell input at stack held (Load v) n does = moving (Load v) _ (λ m e. cc) (λ m v e. cc) (λ e. cc) does.0
  tells cell input at stack held (Counter k) n does = moving (Counter k) _ (λ m e. cc) (λ m v e. cc) (λ e. cc) does.0
  tells cell input at stack held (Take v) n does = moving (Take v) _ (λ m e. cc) (λ m v e. cc) (λ e. cc) does.0
  tells cell input at stack held (Loop k turns exit) n does = moving (Loop k turns exit) _ (λ m e. cc) (λ m v e. cc) (λ e. cc) does.0
  tells cell input at stack held (Next k turns body) n does = moving (Next k turns body) _ (λ m e. cc) (λ m v e. cc) (λ e. cc) does.0
  tells cell input at stack held (Jump target) n does = moving (Jump target) _ (λ m e. cc) (λ m v e. cc) (λ e. cc) does.0
