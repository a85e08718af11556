-- What a step promises, from what its instruction does to the registers.
use Rattle.std.proofs.Common.{◌≡◌, ◌≢◌, ◌↔◌, ℕ, ◌<◌, ◌≤◌, Bool, false, length, Option, Some, None, sym, ◌∙◌, ap, subst}
use Rattle.std.specs.List.{slice_get}
use Rattle.std.specs.Vec.{vec_capacity}
use Rattle.sys_base.specs.declared.word.Word.{Word}
use Rattle.cell_code.specs.declared.image.CellImage.{CellImage}
use Rattle.cell_code.specs.declared.instruction.Instr.{Instr}
use Rattle.cell_code.specs.declared.instruction.Instr.TheVariants.{Write, Read, Halt}
use Rattle.cell_code.specs.Rows.{Row, Stands, row_of, row_at}
use Rattle.cell_machine.proofs.After.{row_after}
use Rattle.cell_machine.proofs.Reached.{inside, needs, there, does_reached, is_ready}
use Rattle.cell_machine.proofs.Told.{tells}
use Rattle.cell_machine.specs.Machine.{Machine, IsReached}
use Rattle.cell_machine.specs.Ready.{state_of, machine_of, row_here, IsReady, Keeps}
use Rattle.cell_machine.specs.Steps.{Does}
use Rattle.cell_machine.specs.declared.registers.Registers.{Registers}
use Rattle.cell_machine.specs.declared.step.CellStep.{CellStep}
use Rattle.cell_machine.specs.declared.step.CellStep.TheVariants.{Moved, WaitsWrite, WaitsRead, Halted}

-- what a step promises
pub record Promise {P : Type 0} (room : P → ℕ → Bool) (first : P → ℕ → Option Word) (wrote gave : P → ℕ → Word → P → Type 0) (image : CellImage) (old new : Machine) (p q : P) (answer : CellStep) : Type 0 where
  pub reached : IsReached image new
  pub row : Does room first wrote gave (row_at image.code old.cell old.input old.state) old.state new.state p q answer
  pub waits_write : (m : ℕ) → (answer ≡ WaitsWrite m) ↔ ((slice_get image.code old.state.at ≡ Some (Write m)) × (room p m ≡ false))
  pub waits_read : (m : ℕ) → (answer ≡ WaitsRead m)
      ↔ ((v : ℕ) × (slice_get image.code old.state.at ≡ Some (Read m v)) × (first p m ≡ None))
  pub halted : (answer ≡ Halted) ↔ (slice_get image.code old.state.at ≡ Some Halt)
  pub refused : answer ≢ Moved → (new ≡ old) × (q ≡ p)

-- there is an instruction at the address
pub found : (image : CellImage) (m : Machine) (r : Registers) (places free : ℕ) → machine_of r places free ≡ m → IsReached image m →
    r.at < length image.code
found image m r places free is reached =
    let here = subst (λ n. IsReached image n) (sym is) reached in
    inside image.code here.shaped.ends here.shaped.targets r.at (length (state_of r).stack) here.path

module _ (image : CellImage) (r : Registers) (places free : ℕ) (instr : Instr) (get : slice_get image.code r.at ≡ Some instr) where
  pub ready_here : (m : Machine) → machine_of r places free ≡ m → IsReached image m → places ≤ vec_capacity r.stack →
      free ≤ vec_capacity r.output → IsReady instr r
  ready_here m is reached stack output =
      let here = subst (λ n. IsReached image n) (sym is) reached in
      is_ready r places free stack output instr (needs image (machine_of r places free) here instr get)

  module _ {P : Type 0} (room : P → ℕ → Bool) (first : P → ℕ → Option Word) (wrote gave : P → ℕ → Word → P → Type 0) (t : Registers) (p q : P) (answer : CellStep) (does : Does room first wrote gave (row_here r instr) (state_of r) (state_of t) p q answer) (keeps : Keeps r t) where
    -- the machine that is left
    left_is : record (machine_of r places free) { state = state_of t } ≡ machine_of t places free
    left_is = cc (keeps.cell, ap (λ v. v.items) keeps.input)

    promised_here : IsReached image (machine_of r places free) →
        Promise room first wrote gave image (machine_of r places free) (machine_of t places free) p q answer
    promised_here here =
        let old = machine_of r places free in
        let told = tells room first wrote gave (state_of t) p q answer r.cell r.input.items r.at (state_of r).stack (state_of r).held instr
        (there image old here instr get) does in
        record {
          reached =
              subst (λ n. IsReached image n) left_is
              (does_reached image old here instr get (state_of t) room first wrote gave (row_here r instr) p q answer does
              (row_after r.cell r.input.items r.at (state_of r).stack (state_of r).held instr));
          row =
              subst (λ (o : Option Instr).
              Does room first wrote gave (elim o as (λ _. Row) [ None ↦ Stands | Some i ↦ row_of r.cell r.input.items (state_of r) i ])
              (state_of r) (state_of t) p q answer)
              (sym get) does;
          waits_write =
              λ m. (
                λ e. let h = (told.waits_write m).0 e in (get ∙ ap (λ i. Some i) h.0, h.1),
                λ h. (told.waits_write m).1 (let e : instr ≡ Write m = cc in e, h.1),
              );
          waits_read =
              λ m. (
                λ e. let h = (told.waits_read m).0 e in (h.0, get ∙ ap (λ i. Some i) h.1, h.2),
                λ h. (told.waits_read m).1 (h.0, let e : instr ≡ Read m h.0 = cc in e, h.2),
              );
          halted = (λ e. get ∙ ap (λ i. Some i) (told.halted.0 e), λ h. told.halted.1 (cc));
          refused =
              λ other.
              let h = told.refused other in
              (sym left_is ∙ ap (λ s. record (machine_of r places free) { state = s }) h.0, h.1);
        }

    pub promised : (m : Machine) → machine_of r places free ≡ m → IsReached image m →
        Promise room first wrote gave image m (machine_of t places free) p q answer
    promised m is reached =
        subst (λ n. Promise room first wrote gave image n (machine_of t places free) p q answer) is
        (promised_here (subst (λ n. IsReached image n) (sym is) reached))
