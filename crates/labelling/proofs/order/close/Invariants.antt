use Rattle.std.proofs.Common.{ℕ, ◌↔◌, IsTrue}
use Rattle.labelling.specs.bodies.Sets.{is_before, Through}
use Rattle.labelling.proofs.order.close.Given as goal

abbrev pub invariant-loop-between : goal.invariant-loop-between
invariant-loop-between l = (a b : ℕ) → (IsTrue (is_before l.sets a b) ↔ Through (is_before l.fn.sets) l.between a b)
