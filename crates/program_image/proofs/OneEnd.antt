-- A cell alone comes to `halt` in one state at most.
use Rattle.std.proofs.Common.{◌≡◌, ℕ, zero, suc, ℤ, List, Option, None, Some, slice_get, option_and_then, sym, ap, subst, ◌∙◌}
use Rattle.std.proofs.lemmas.Option.{none-some, same_Some}
use Rattle.sys_base.specs.Held.{Streams}
use Rattle.cell_code.specs.Alone.{Alone, after_row, after_steps, alone_step}
use Rattle.cell_code.specs.Rows.{communication_of, row_of}
use Rattle.cell_code.specs.declared.instruction.Instr.{Instr}
use Rattle.cell_code.specs.declared.instruction.Instr.TheVariants.{Halt}

module _ (code : List Instr) (cell : ℕ) (input : List ℤ) (streams : Streams) where
  abbrev later : ℕ → Alone → Option Alone
  later n s = after_steps code cell input streams n s

  no_step : (s : Alone) → slice_get code s.state.at ≡ Some Halt → alone_step code cell input streams s ≡ None
  no_step s h =
      ap (option_and_then (λ instr. after_row streams (communication_of instr) s (row_of cell input s.state instr))) h

  -- where a cell is at `halt`, it has no more steps
  at_end : (k : ℕ) (s d : Alone) → slice_get code s.state.at ≡ Some Halt → later (suc k) s ≡ Some d → ⊥
  at_end k s d h b = none-some d (sym (ap (option_and_then (later k)) (no_step s h)) ∙ b)

  pub one_end : (n k : ℕ) (s e d : Alone) → later n s ≡ Some e → slice_get code e.state.at ≡ Some Halt
      → later k s ≡ Some d → slice_get code d.state.at ≡ Some Halt → e ≡ d
  one_end zero zero s e d a h b g = sym (same_Some s e a) ∙ same_Some s d b
  one_end zero (suc k) s e d a h b g =
      absurd (at_end k s d (subst (λ (x : Alone). slice_get code x.state.at ≡ Some Halt) (sym (same_Some s e a)) h) b)
  one_end (suc n) zero s e d a h b g =
      absurd (at_end n s e (subst (λ (x : Alone). slice_get code x.state.at ≡ Some Halt) (sym (same_Some s d b)) g) a)
  one_end (suc n) (suc k) s e d a h b g =
      go (λ t a b. one_end n k t e d a h b g) (alone_step code cell input streams s) a b
    where
      go : ((t : Alone) → later n t ≡ Some e → later k t ≡ Some d → e ≡ d) → (o : Option Alone)
          → option_and_then (later n) o ≡ Some e → option_and_then (later k) o ≡ Some d → e ≡ d
      go on None a b = absurd (none-some e a)
      go on (Some t) a b = on t a b
