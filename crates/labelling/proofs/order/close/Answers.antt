use Rattle.labelling.specs.bodies.Sets.{is_before}
use Rattle.labelling.proofs.Chains.{through_none, through_more}
use Rattle.labelling.proofs.order.close.Goals as goal

pub loop-between-init : goal.loop-between-init
loop-between-init c = λ a b. through_none (is_before c.args.sets.now) a b

pub loop-between-preserved : goal.loop-between-preserved
loop-between-preserved c = λ a b.
    through_more (is_before c.args.sets.now) (is_before c.loop-between.sets) (is_before c.join_through.new.sets) c.loop-between.between
    c.loop-between.invariant c.join_through.ensures a b
