use Rattle.std.proofs.Common.{◌≡◌, ℕ, ◌<◌, Some}
use Rattle.std.specs.List.{slice_get}
use Rattle.cell_code.specs.declared.instruction.Instr.TheVariants as I
use Rattle.array_model.specs.States.{code_of}
use Rattle.array_sim.specs.Simulations.{states_in}
use Rattle.array_sim.proofs.array.Array.is_finished.Given as goal

abbrev pub invariant-loop-cell : goal.invariant-loop-cell
invariant-loop-cell l =
    (k : ℕ) → k < l.cell → slice_get (code_of l.self.image k) (states_in l.self k).at ≡ Some I.Halt
