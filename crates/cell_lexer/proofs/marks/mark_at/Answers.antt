use Rattle.cell_lexer.proofs.LongestForm.{two_bytes_longest, one_byte_longest, bad_byte}
use Rattle.cell_lexer.proofs.marks.mark_at.Goals as goal

pub returns-in-Some-clause-longest : goal.returns-in-Some-clause-longest
returns-in-Some-clause-longest c =
    two_bytes_longest c.args.rest.now c.in-Some.mark c.in-Some.ensures.inside c.in-Some.ensures.spelt

pub returns-in-Some-single_mark-clause-longest : goal.returns-in-Some-single_mark-clause-longest
returns-in-Some-single_mark-clause-longest c =
    one_byte_longest c.args.rest.now c.in-Some-single_mark.mark c.requires.some c.in-Some-single_mark.ensures.spelt c.in_default.ensures.none

pub returns-in-None-clause-flaw : goal.returns-in-None-clause-flaw
returns-in-None-clause-flaw c =
    bad_byte c.args.rest.now c.requires.some c.requires.solid c.requires.no_letter c.requires.no_digit c.in-None.ensures.none c.in_default.ensures.none
