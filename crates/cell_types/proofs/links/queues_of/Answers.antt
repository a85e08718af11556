use Rattle.std.proofs.Common.{get_or, sym, ap, ◌∙◌}
use Rattle.cell_types.proofs.LinkQueues.{usual_queues}
use Rattle.cell_types.proofs.links.queues_of.Goals as goal

pub returns-in-0 : goal.returns-in-0
returns-in-0 c source so =
    usual_queues source c.args.grid.now c.args.usual c.args.own.now so c.args.cell c.args.dir c.in-Some.link (sym c.in-Some.is ∙ c.link.ensures) c.requires.cell
    (ap (λ k. get_or c.args.own.now k 0) (sym c.from.ensures) ∙ c.in-0.is)
