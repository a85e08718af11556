use Rattle.std.proofs.Common.{length-take-le, arith}
use Rattle.sys_base.specs.Bytes.{is_word_byte}
use Rattle.cell_lexer.proofs.Fronts.{Run, run_word, run_longest_word}
use Rattle.cell_lexer.proofs.words.name_at.Goals as goal
use Rattle.cell_lexer.proofs.words.name_at.Goals.{After-word_len-len}

counted : (c : After-word_len-len) → Run is_word_byte c.args.rest.now c.word_len-len.result
counted c = record { inside = c.word_len-len.ensures.inside; each = c.word_len-len.ensures.each; stop = c.word_len-len.ensures.stop }

pub returns-then-len-gt-NAME_BYTES-clause-flaw : goal.returns-then-len-gt-NAME_BYTES-clause-flaw
returns-then-len-gt-NAME_BYTES-clause-flaw c =
    let run = counted (goal.at.returns-then-len-gt-NAME_BYTES-clause-flaw c).After-word_len-len in
    (c.word_len-len.result, record { longest = run_longest_word _ _ run c.requires; word = run_word _ _ run c.requires; long = omega arith })

pub returns-in-Some-clause-longest : goal.returns-in-Some-clause-longest
returns-in-Some-clause-longest c =
    run_longest_word _ _ (counted (goal.at.returns-in-Some-clause-longest c).After-word_len-len) c.requires

pub returns-in-None-clause-longest : goal.returns-in-None-clause-longest
returns-in-None-clause-longest c =
    run_longest_word _ _ (counted (goal.at.returns-in-None-clause-longest c).After-word_len-len) c.requires

pub returns-in-None-clause-says : goal.returns-in-None-clause-says
returns-in-None-clause-says c =
    let run = counted (goal.at.returns-in-None-clause-says c).After-word_len-len in
    record {
      word = run_word _ _ run c.requires;
      short = omega (arith, length-take-le _ _ run.inside);
      free = c.in-None.ensures.none;
    }
