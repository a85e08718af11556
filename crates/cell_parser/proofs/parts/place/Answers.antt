use Rattle.cell_parser.proofs.parts.place.Goals as goal

pub returns-clause-kept : goal.returns-clause-kept
returns-clause-kept c = λ text are. c.in_ok-col.ensures.kept text (c.in_ok-rest.ensures.kept text (c.in_ok-row.ensures.kept text are))
