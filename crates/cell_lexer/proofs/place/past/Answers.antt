use Rattle.std.proofs.Common.{arith}
use Rattle.cell_lexer.proofs.TextLines.{token_no_newline, token_within}
use Rattle.cell_lexer.proofs.place.past.Goals as goal

pub along-requires : goal.along-requires
along-requires c =
    record {
      short = omega arith;
      place = c.requires.place;
      inside = token_within c.args.text.now c.args.place.at c.args.len c.requires.token;
      line = token_no_newline c.args.text.now c.args.place.at c.args.len c.requires.token;
    }
