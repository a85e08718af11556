-- Each message has a hop, and fewer than 2^16.
use Rattle.std.proofs.Common.{arith}
use Rattle.array_model.proofs.Links.{reaches}
use Rattle.array_sim.proofs.Hops.{few_hops, forwards_more, item_hops}
use Rattle.array_sim.proofs.actors.add_forwards.Goals as goal

pub overflow_sub-len : goal.overflow_sub-len
overflow_sub-len c =
    let item = item_hops c.args.image.now c.as_slice-message-items.result.now c.loop-index.index c.len.result
    c.message-item.result
    c.as_slice-message-items.ensures (omega arith) c.message-item.is c.len.ensures
    in
    omega (arith, item.1, reaches c.args.image.now c.requires.shaped c.loop-index.index item.0)

pub add_hops-requires : goal.add_hops-requires
add_hops-requires c =
    let item = item_hops c.args.image.now c.as_slice-message-items.result.now c.loop-index.index c.len.result
    c.message-item.result
    c.as_slice-message-items.ensures (omega arith) c.message-item.is c.len.ensures
    in
    omega (
      arith,
      item.1,
      reaches c.args.image.now c.requires.shaped c.loop-index.index item.0,
      few_hops c.args.image.now c.loop-index.index c.requires.shaped item.0,
      c.requires.few_links,
    )

pub loop-index-preserved : goal.loop-index-preserved
loop-index-preserved c =
    let item = item_hops c.args.image.now c.as_slice-message-items.result.now c.loop-index.index c.len.result
    c.message-item.result
    c.as_slice-message-items.ensures (omega arith) c.message-item.is c.len.ensures
    in
    forwards_more c.args.image.now _ _ _ c.loop-index.index _ c.loop-index.invariant c.in_ok-add_hops.ensures
    (omega (arith, item.1))
