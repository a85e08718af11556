use Rattle.std.proofs.Common.{◌≡◌, sym, subst}
use Rattle.cell_machine.proofs.Reached.{new_reached}
use Rattle.cell_machine.specs.Machine.{new_machine, IsReached}
use Rattle.cell_machine.specs.Ready.{machine_of}
use Rattle.cell_machine.proofs.state.CellState.new.Goals as goal

pub returns-clause-reached : goal.returns-clause-reached
returns-clause-reached c =
    let r = c.in_ok-registers.registers in
    let image = c.args.image.now in
    let e : machine_of r c.from.result image.emits ≡ new_machine c.args.cell image c.args.input.items =
    cc (c.in_ok-registers.ensures.state, c.in_ok-registers.ensures.cell, c.in_ok-registers.ensures.input, c.from.ensures) in
    subst (λ m. IsReached image m) (sym e)
    (new_reached c.args.cell image c.args.input.items c.requires.shaped c.requires.short c.requires.input)
