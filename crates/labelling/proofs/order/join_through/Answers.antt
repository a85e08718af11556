use Rattle.std.proofs.Common.{arith}
use Rattle.labelling.proofs.Tables.{joined_all}
use Rattle.labelling.proofs.order.join_through.Goals as goal

pub returns : goal.returns
returns c = λ a b.
    joined_all c.args.sets.now c.loop-set.set-items c.args.between a b c.loop-set.set-index c.loop-set.invariant.size (omega arith)
    (c.loop-set.invariant.joined a b)
