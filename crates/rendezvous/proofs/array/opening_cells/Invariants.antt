use Rattle.std.proofs.Common.{◌≡◌, ℕ, Some, slice_get}
use Rattle.std.specs.Vec.{vec_len}
use Rattle.rendezvous.specs.bodies.UnderWay.{IsOpening}
use Rattle.rendezvous.specs.declared.runner.Runner.{Runner}
use Rattle.rendezvous.proofs.array.opening_cells.Given as goal

abbrev pub invariant-loop-index : goal.invariant-loop-index
invariant-loop-index l = record {
  many : vec_len l.cells ≡ l.index;
  opening : (c : ℕ) (r : Runner) → slice_get l.cells.items c ≡ Some r → IsOpening l.program l.inputs.cells c r;
}
