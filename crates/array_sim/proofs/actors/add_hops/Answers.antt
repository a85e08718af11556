use Rattle.std.proofs.Common.{refl}
use Rattle.sys_base.specs.declared.actor.Actor.TheVariants as A
use Rattle.array_sim.proofs.Hops.{one_more}
use Rattle.array_sim.proofs.actors.add_hops.Goals as goal

pub loop-hop-preserved : goal.loop-hop-preserved
loop-hop-preserved c =
    one_more (A.Forward c.args.message) _ _ _ c.loop-hop.hop _ c.loop-hop.invariant c.in_ok-push.ensures.items refl
