use Rattle.std.proofs.Common.{◌≡◌, ◌++◌, map, pred}
use Rattle.std.specs.List.{flat_map}
use Rattle.sys_base.specs.Groups.{below}
use Rattle.sys_base.specs.declared.actor.Actor.TheVariants as A
use Rattle.cell_code.specs.Marks.{hops}
use Rattle.array_sim.proofs.actors.add_forwards.Given as goal

abbrev pub invariant-loop-index : goal.invariant-loop-index
invariant-loop-index l =
    l.actors.items ≡ l.initial.actors.items
    ++ flat_map (λ m. map (A.Forward m) (below (pred (hops l.image m)))) (below l.index)
