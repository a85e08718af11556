use Rattle.std.proofs.Common.{◌≡◌, ◌++◌}
use Rattle.std.specs.Vec.Iter.{into_iter_items}
use Rattle.rendezvous.specs.bodies.UnderWay.{AllEnd}
use Rattle.rendezvous.proofs.array.outputs.Given as goal

abbrev pub invariant-loop-runner : goal.invariant-loop-runner
invariant-loop-runner l = record {
  ends : AllEnd l.yielded l.words;
  all : l.fn.cells.items ≡ l.yielded ++ into_iter_items l.runner-iterator;
}
