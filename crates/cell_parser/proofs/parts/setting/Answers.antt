use Rattle.cell_parser.proofs.parts.setting.Goals as goal

pub returns-clause-kept : goal.returns-clause-kept
returns-clause-kept c = λ text are. c.in_ok-rest.ensures.kept text (c.in_ok-number.ensures.kept text are)
