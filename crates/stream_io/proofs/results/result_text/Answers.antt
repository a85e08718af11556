use Rattle.std.proofs.Common.{◌∙◌, ap}
use Rattle.serde_json.specs.Written.{has_float}
use Rattle.stream_io.proofs.Lists.{result_float}
use Rattle.stream_io.proofs.results.result_text.Goals as goal

pub line-requires : goal.line-requires
line-requires c = ap has_float c.in_ok-result_value.ensures ∙ result_float c.args.grid.now c.args.report.now
