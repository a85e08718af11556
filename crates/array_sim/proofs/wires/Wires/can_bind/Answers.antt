-- Past the last link nothing can be bound.
use Rattle.std.proofs.Common.{◌≡◌, false, sym, subst, ◌∙◌, arith, le-ltb}
use Rattle.cell_code.specs.Marks.{may_bind}
use Rattle.link_queues.specs.Tables.{queues}
use Rattle.array_sim.specs.bodies.Wiring.{Wired}
use Rattle.array_sim.proofs.Calls.{none_bound}
use Rattle.array_sim.proofs.wires.Wires.can_bind.Goals as goal

pub returns-else-from-len : goal.returns-else-from-len
returns-else-from-len c =
    le-ltb c.from.result c.len.result (omega (arith, c.if-from-len.false))
    ∙ sym (subst (λ (w : Wired). may_bind w.fabric.image (queues w.fabric).marks
    (queues w.fabric).bound c.args.link ≡ false) c.self.view_is
    (none_bound c.self.inside.image.now
    (record { fabric = c.self.inside.fabric; peaks = c.self.inside.peaks.items }) c.args.link c.self.invariant
    (omega (arith, c.if-from-len.false))))
