use Rattle.std.proofs.Common.{◌-◌, length}
use Rattle.cell_parser.proofs.Outcomes.{given_is_read, refused_within, refused_is_first_wrong}
use Rattle.cell_parser.proofs.Refusals.{each_stands}
use Rattle.cell_parser.proofs.parsing.limited.Goals as goal

pub program-requires : goal.program-requires
program-requires c =
    let text = c.args.text.now in
    let tokens = c.args.tokens.now in
    each_stands text 0 (length text) tokens (c.few_tokens.ensures.inside text tokens c.requires.tokens) c.requires.tokens

pub place_of-place-requires-clause-left : goal.place_of-place-requires-clause-left
place_of-place-requires-clause-left c =
    refused_within c.args.text.now c.args.tokens.now c.in-Err-Unexpected.left (c.in-Err-Unexpected.ensures.wrong c.in-Err-Unexpected.left c.in-Err-Unexpected.field-0-is)

pub returns-in-Ok-clause-read : goal.returns-in-Ok-clause-read
returns-in-Ok-clause-read c =
    (given_is_read c.args.text.now c.args.tokens.now c.in-Ok.source c.in-Ok.ensures.read, c.in_ok-keep_limits.ensures.kept)

pub returns-in-Err-Unexpected-clause-refused : goal.returns-in-Err-Unexpected-clause-refused
returns-in-Err-Unexpected-clause-refused c =
    let left = c.in-Err-Unexpected.left in
    record {
      kept = c.in_ok-keep_limits.ensures.kept;
      at = length c.args.tokens.now - left;
      wrong = refused_is_first_wrong c.args.text.now c.args.tokens.now left (c.in-Err-Unexpected.ensures.wrong left c.in-Err-Unexpected.field-0-is);
      stands = c.place_of-place.ensures;
    }
