use Rattle.std.proofs.Common.{◌∙◌}
use Rattle.cell_parser.proofs.program.program.Goals as goal

pub expect_x-requires : goal.expect_x-requires
expect_x-requires c =
    let text = c.args.text.now in
    c.in_ok-rows.ensures.kept text (c.in_ok-array_line.ensures.kept text c.requires)

pub links-requires : goal.links-requires
links-requires c =
    let text = c.args.text.now in
    let settings = c.in_ok-queues_line.ensures.kept text (c.in_ok-cols.ensures.kept text c.in_ok-rest.ensures.kept) in
    c.in_ok-buffer.ensures.kept text (c.in_ok-queues.ensures.kept text settings)

pub returns-clause-read : goal.returns-clause-read
returns-clause-read c =
    let text = c.args.text.now in
    c.in_ok-array_line.ensures.read text _ ∙ c.in_ok-rows.ensures.read text _ ∙ c.in_ok-rest.ensures.read _
    ∙ c.in_ok-cols.ensures.read text _ ∙ c.in_ok-queues_line.ensures.read text _ ∙ c.in_ok-queues.ensures.read text _
    ∙ c.in_ok-buffer.ensures.read text _ ∙ c.in_ok-links.ensures.read _ ∙ c.in_ok-messages.ensures.read _ ∙ c.in_ok-cells.ensures.read _
