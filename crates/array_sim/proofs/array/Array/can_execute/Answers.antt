use Rattle.std.proofs.Common.{sym, ◌∙◌, ap}
use Rattle.array_sim.specs.bodies.Inside.{can_go, wired_in}
use Rattle.array_sim.specs.bodies.Wiring.{can_read, room_in}
use Rattle.array_sim.proofs.Executing.{cell_goes}
use Rattle.array_sim.proofs.array.Array.can_execute.Goals as goal

pub returns-in-Some : goal.returns-in-Some
returns-in-Some c s stands =
    cell_goes c.args.self.now c.next_instruction.ensures.array s c.args.cell c.from.result c.next_instruction.result
    c.can_do.result
    c.from.ensures c.next_instruction.ensures.instruction
    (c.can_do.ensures ∙ sym (ap (can_go (room_in (wired_in c.args.self.now))
    (can_read (wired_in c.args.self.now))) c.in-Some.is)) stands

pub returns-in-None : goal.returns-in-None
returns-in-None c s stands =
    cell_goes c.args.self.now c.next_instruction.ensures.array s c.args.cell c.from.result c.next_instruction.result _
    c.from.ensures c.next_instruction.ensures.instruction
    (sym (ap (can_go (room_in (wired_in c.args.self.now)) (can_read (wired_in c.args.self.now))) c.in-None.is)) stands
