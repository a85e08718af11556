use Rattle.stream_io.proofs.OneFile.{some_inputs, one_list, one_rule, never_both}
use Rattle.stream_io.proofs.laws.one_input.Goals as goal

pub returns : goal.returns
returns c = record {
  some = some_inputs;
  inputs = one_list;
  rule = one_rule;
  apart = never_both;
}
