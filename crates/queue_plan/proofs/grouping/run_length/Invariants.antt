use Rattle.std.proofs.Common.{◌≡◌, take, slice_index, All}
use Rattle.queue_plan.proofs.grouping.run_length.Given as goal

abbrev pub invariant-loop-place : goal.invariant-loop-place
invariant-loop-place l = All (λ message. slice_index l.labels message ≡ l.label) (take l.place l.messages)
