use Rattle.std.proofs.Common.{◌∙◌, ap, Err}
use Rattle.cell_parser.specs.Lexeme.{lexemes}
use Rattle.cell_parser.specs.Inner.Machine.{Body}
use Rattle.cell_parser.proofs.Steps.{stops, one_before, key_stops, body_lacks}
use Rattle.cell_parser.proofs.statement.+statement.Goals as goal

pub keyed-returns-in_default : goal.keyed-returns-in_default
keyed-returns-in_default t c =
    let d = c.in_default in
    record {
      read = tt;
      wrong = λ left at l b around.
          key_stops c.args.key l b around (lexemes c.args.text.now c.args.tokens.now) d.not-Write d.not-Read d.not-Take d.not-Emit d.not-For d.not-If
          ∙ ap Err (one_before c.args.text.now c.args.tokens.now left at);
      shorter = tt;
      kept = tt;
    }

pub statement-returns-in-None-clause-wrong : goal.statement-returns-in-None-clause-wrong
statement-returns-in-None-clause-wrong t c = λ left at b around.
    stops c.args.text.now c.args.tokens.now (Body b around)
    (body_lacks b around (lexemes c.args.text.now c.args.tokens.now) c.in_default.ensures.none (c.in-None.ensures.none c.args.text.now) c.requires.goes_on)
    c.unexpected.result c.unexpected.ensures left at
