use Rattle.std.proofs.Common.{◌≡◌}
use Rattle.std.specs.Vec.{vec_len}
use Rattle.rendezvous.specs.bodies.UnderWay.{AreEmpty}
use Rattle.rendezvous.proofs.array.opening_streams.Given as goal

abbrev pub invariant-loop-index : goal.invariant-loop-index
invariant-loop-index l = record { many : vec_len l.streams ≡ l._index; empty : AreEmpty l.streams.items }
