use Rattle.std.proofs.Common.{◌≡◌, ◌++◌, List, length, map, sum_by, slice_get}
use Rattle.comm_sequence.specs.declared.comm.Comm.{Comm}
use Rattle.crossing_off.proofs.worklist.Crossing.finish.Given as goal

abbrev pub invariant-loop-rest : goal.invariant-loop-rest
invariant-loop-rest l = record {
  seen : l.yielded ++ l.rest-iterator.rest.items ≡ l.fn.self.rests.items;
  left : l.left ≡ sum_by length l.yielded;
  fronts : l.fronts.items ≡ map (λ (r : List Comm). slice_get r 0) l.yielded;
}
