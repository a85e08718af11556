use Rattle.std.proofs.Common.{◌∙◌, ap}
use Rattle.serde_json.specs.Written.{has_float}
use Rattle.stream_io.proofs.Lists.{meaning_float}
use Rattle.stream_io.proofs.results.meaning_text.Goals as goal

pub line-requires : goal.line-requires
line-requires c = ap has_float c.in_ok-meaning_value.ensures ∙ meaning_float c.args.grid.now c.args.outputs.now.cells c.args.emits.now
