use Rattle.std.proofs.Common.{◌≡◌, ℕ, ◌<◌, ◌≤◌, length, drop}
use Rattle.array_model.specs.States.{cell_of}
use Rattle.cell_machine.specs.Machine.{new_machine, IsReached}
use Rattle.array_sim.specs.Simulations.{inputs_of, machine_at}
use Rattle.array_sim.proofs.cells.new_cells.Given as goal

abbrev pub invariant-loop-input : goal.invariant-loop-input
invariant-loop-input l =
    record {
      rest : l.input-iterator.rest.items ≡ drop (length l.machines.items) l.fn.inputs.cells;
      short : length l.machines.items ≤ length l.fn.inputs.cells;
      new : (c : ℕ) → c < length l.machines.items
          → machine_at l.machines.items c ≡ new_machine c (cell_of l.image c) (inputs_of l.fn.inputs.cells c);
      reached : (c : ℕ) → c < length l.machines.items → IsReached (cell_of l.image c) (machine_at l.machines.items c);
    }
