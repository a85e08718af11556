use Rattle.std.proofs.Common.{refl}
use Rattle.sys_base.specs.declared.actor.Actor.TheVariants as A
use Rattle.array_sim.proofs.Hops.{one_more}
use Rattle.array_sim.proofs.actors.add_cells.Goals as goal

pub loop-cell-preserved : goal.loop-cell-preserved
loop-cell-preserved c = one_more A.Cell _ _ _ c.loop-cell.cell _ c.loop-cell.invariant c.in_ok-push.ensures.items refl
