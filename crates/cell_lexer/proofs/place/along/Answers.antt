use Rattle.std.proofs.Common.{◌+◌, ap, ◌∙◌, sym, arith}
use Rattle.cell_lexer.proofs.TextLines.{same_line}
use Rattle.cell_lexer.proofs.place.along.Goals as goal

pub returns-clause-place : goal.returns-clause-place
returns-clause-place c =
    let here = c.requires.place in
    let same = same_line c.args.text.now c.args.place.at c.args.len c.requires.inside c.requires.line in
    record {
      inside = c.requires.inside;
      line = here.line ∙ sym same.line;
      column = ap (λ n. n + c.args.len) here.column ∙ sym same.column;
      low_line = omega arith;
      low_column = omega arith;
    }
