-- The machines and the queues of a new array are in the opening state.
use Rattle.std.proofs.Common.{refl}
use Rattle.array_sim.proofs.Openings.{inputs_open, new_array, new_stands}
use Rattle.array_sim.proofs.array.Array.new.Goals as goal

pub invariant_of-result : goal.invariant_of-result
invariant_of-result c =
    new_array c.args.image.now c.requires.shaped c.in_ok-cells.cells.items c.args.inputs.cells
    c.in_ok-cells.ensures.machines
    c.requires.lists c.in_ok-cells.ensures.new c.in_ok-wires.wires c.in_ok-wires.ensures.wired
    c.in_ok-cells.ensures.reached

pub returns-clause-image : goal.returns-clause-image
returns-clause-image c = refl

pub returns-clause-cap : goal.returns-clause-cap
returns-clause-cap c = c.in_ok-wires.ensures.cap

pub returns-clause-peaks : goal.returns-clause-peaks
returns-clause-peaks c = c.in_ok-wires.ensures.peaks

pub returns-clause-stands : goal.returns-clause-stands
returns-clause-stands c =
    new_stands c.args.image.now c.requires.shaped c.in_ok-cells.cells.items c.args.inputs.cells
    c.in_ok-cells.ensures.machines
    c.requires.lists c.in_ok-cells.ensures.new c.in_ok-wires.wires c.in_ok-wires.ensures.stands

pub returns-clause-inputs : goal.returns-clause-inputs
returns-clause-inputs c =
    inputs_open c.args.image.now c.requires.shaped c.in_ok-cells.cells.items c.args.inputs.cells
    c.in_ok-cells.ensures.machines
    c.requires.lists c.in_ok-cells.ensures.new
