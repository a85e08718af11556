use Rattle.std.proofs.Common.{◌≡◌, ◌++◌, map}
use Rattle.sys_base.specs.Groups.{below}
use Rattle.sys_base.specs.declared.actor.Actor.TheVariants as A
use Rattle.array_sim.proofs.actors.add_hops.Given as goal

abbrev pub invariant-loop-hop : goal.invariant-loop-hop
invariant-loop-hop l = l.actors.items ≡ l.initial.actors.items ++ map (A.Forward l.message) (below l.hop)
