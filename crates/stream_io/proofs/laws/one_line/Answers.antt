use Rattle.std.proofs.Common.{refl}
use Rattle.stream_io.specs.Results.{result_data, meaning_data}
use Rattle.stream_io.proofs.OneLine.{value_line}
use Rattle.stream_io.proofs.laws.one_line.Goals as goal

pub returns : goal.returns
returns c = record {
  run = λ g report. value_line (result_data g report) refl;
  meaning = λ g outputs emits. value_line (meaning_data g outputs emits) refl;
}
