use Rattle.cell_parser.proofs.declaration.message.Goals as goal

pub route-requires : goal.route-requires
route-requires c =
    let text = c.args.text.now in
    c.in_ok-to.ensures.kept text (c.in_ok-rest-2.ensures.kept text (c.in_ok-from.ensures.kept text (c.in_ok-rest.ensures.kept text c.in_ok-name.ensures.kept)))

pub returns-clause-kept : goal.returns-clause-kept
returns-clause-kept c = c.in_ok-label.ensures.kept c.args.text.now c.in_ok-route.ensures.kept
