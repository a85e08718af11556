-- One actor more is tested.
use Rattle.std.proofs.Common.{length, ap, ◌∙◌, arith}
use Rattle.std.specs.Vec.{vec_capacity}
use Rattle.std.proofs.lemmas.List.{length_push}
use Rattle.array_sim.proofs.Listing.{list_left, list_taken}
use Rattle.array_sim.proofs.array.Array.list.Goals as goal
use Rattle.array_sim.proofs.array.Array.list.Goals.{then-can_act, else-can_act}

pub loop-actor-preserved : goal.loop-actor-preserved
loop-actor-preserved c =
    elim c.if-can_act.branch [
      | then-can_act w ↦
          let items = ap (λ v. v.items) w.enabled-is ∙ w.add.ensures.items in
          record {
            listed = λ s st.
                list_taken _ c.args.actors.now _ _ c.loop-actor.actor-index _ c.can_act.result c.loop-actor-test.true
                (c.loop-actor.invariant.listed s st) (c.can_act.ensures s st) w.if-can_act.true items;
            short =
                omega (
                  arith,
                  ap length items ∙ length_push c.loop-actor.enabled.items _,
                  c.loop-actor.invariant.short,
                );
            room = omega (arith, ap vec_capacity w.enabled-is, w.add.ensures.room, c.loop-actor.invariant.room);
            enough = c.loop-actor.invariant.enough;
          }
      | else-can_act w ↦
          let items = ap (λ v. v.items) w.enabled-is in
          record {
            listed = λ s st.
                list_left _ c.args.actors.now _ _ c.loop-actor.actor-index _ c.can_act.result c.loop-actor-test.true
                (c.loop-actor.invariant.listed s st) (c.can_act.ensures s st) w.if-can_act.false items;
            short = omega (arith, ap length items, c.loop-actor.invariant.short);
            room = omega (arith, ap vec_capacity w.enabled-is, c.loop-actor.invariant.room);
            enough = c.loop-actor.invariant.enough;
          }
    ]
