use Rattle.std.proofs.Common.{◌≡◌}
use Rattle.serde_json.specs.View.{members_view}
use Rattle.stream_io.specs.Results.{outputs_below}
use Rattle.stream_io.proofs.results.outputs_value.Given as goal

abbrev pub invariant-loop-cell : goal.invariant-loop-cell
invariant-loop-cell l = members_view l.members.entries ≡ outputs_below l.grid l.outputs.cells l.emits l.cell
