use Rattle.cell_parser.proofs.declaration.variable.Goals as goal

pub returns-clause-kept : goal.returns-clause-kept
returns-clause-kept c = c.in_ok-length.ensures.kept c.args.text.now c.in_ok-name.ensures.kept
