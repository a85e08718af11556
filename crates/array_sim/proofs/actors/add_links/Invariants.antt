use Rattle.std.proofs.Common.{◌≡◌, ◌++◌, map, take}
use Rattle.sys_base.specs.declared.actor.Actor.TheVariants as A
use Rattle.cell_code.specs.declared.image.LinkImage.{LinkImage}
use Rattle.array_sim.proofs.actors.add_links.Given as goal

abbrev pub invariant-loop-link : goal.invariant-loop-link
invariant-loop-link l =
    l.actors.items ≡ l.initial.actors.items ++ map (λ (link : LinkImage). A.Bind link.link) (take l.link-index l.links)
