use Rattle.std.proofs.Common.{◌≡◌, take}
use Rattle.serde_json.specs.View.{members_view}
use Rattle.stream_io.specs.Results.{peaks_among}
use Rattle.stream_io.proofs.results.peaks_value.Given as goal

abbrev pub invariant-loop-link : goal.invariant-loop-link
invariant-loop-link l = members_view l.members.entries ≡ peaks_among l.grid (take l.link-index l.peaks)
