use Rattle.cell_parser.proofs.declaration.cell.Goals as goal

pub variables-requires : goal.variables-requires
variables-requires c =
    let text = c.args.text.now in
    c.in_ok-rest.ensures.kept text (c.in_ok-place.ensures.kept text c.requires)
