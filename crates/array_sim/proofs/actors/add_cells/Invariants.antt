use Rattle.std.proofs.Common.{◌≡◌, ◌++◌, map}
use Rattle.sys_base.specs.Groups.{below}
use Rattle.sys_base.specs.declared.actor.Actor.TheVariants as A
use Rattle.array_sim.proofs.actors.add_cells.Given as goal

abbrev pub invariant-loop-cell : goal.invariant-loop-cell
invariant-loop-cell l = l.actors.items ≡ l.initial.actors.items ++ map A.Cell (below l.cell)
