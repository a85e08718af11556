use Rattle.std.proofs.Common.{sym, ◌∙◌}
use Rattle.link_queues.proofs.Leaving.{left_last, left_more}
use Rattle.link_queues.proofs.tables.Tables.leave.Goals as goal

pub returns-then-mark-length-clause-after : goal.returns-then-mark-length-clause-after
returns-then-mark-length-clause-after c =
    left_last c.args.self.now c.raise.new.self c.pop-word.new.self c.args.message c.args.hop c.args.link c.args.slot
    c.raise.ensures c.pop-word.ensures.after c.release.new.self c.release.ensures
    (sym c.mark.ensures.mark ∙ c.if-mark-length.true ∙ c.length.ensures)

pub returns-else-mark-length-clause-after : goal.returns-else-mark-length-clause-after
returns-else-mark-length-clause-after c =
    left_more c.args.self.now c.raise.new.self c.pop-word.new.self c.args.message c.args.hop c.args.link c.args.slot
    c.raise.ensures c.pop-word.ensures.after
    (λ e. c.if-mark-length.false (c.mark.ensures.mark ∙ e ∙ sym c.length.ensures))
