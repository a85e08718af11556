use Rattle.cell_parser.proofs.PrintableAnswers.{printable_of}
use Rattle.cell_parser.proofs.Refusals.{only_read, only_over, only_wrong}
use Rattle.cell_parser.proofs.parsing.parse.Goals as goal

pub returns-clause-printable : goal.returns-clause-printable
returns-clause-printable c =
    printable_of c.args.text.now c.args.tokens.now _ c.read_is_printable.ensures c.requires.tokens c.limited.ensures.read

pub returns-clause-only : goal.returns-clause-only
returns-clause-only c = only_read c.args.text.now c.args.tokens.now _ c.limited.ensures.read c.limited.ensures.refused

pub returns-clause-only_over : goal.returns-clause-only_over
returns-clause-only_over c = only_over c.args.text.now c.args.tokens.now _ c.limited.ensures.read c.limited.ensures.refused

pub returns-clause-only_wrong : goal.returns-clause-only_wrong
returns-clause-only_wrong c = only_wrong c.args.text.now c.args.tokens.now _ c.limited.ensures.read c.limited.ensures.refused
