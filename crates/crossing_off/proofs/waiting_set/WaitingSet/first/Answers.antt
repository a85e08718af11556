use Rattle.std.proofs.Common.{ℕ, ◌+◌, ◌*◌, List, get_or, w64, subst, sym, arith, rules}
use Rattle.std.specs.Int.{trailing_zeros}
use Rattle.crossing_off.specs.bodies.WaitingSet.{IsIn, IsLeast}
use Rattle.crossing_off.proofs.WaitingSets.{least_in, nothing_in}
use Rattle.crossing_off.proofs.waiting_set.WaitingSet.first.Goals as goal

pub returns-then-word-ne0 : goal.returns-then-word-ne0
returns-then-word-ne0 c =
    let words = c.self.inside.words in
    let P : List ℕ → Type 0 = λ set. IsLeast set (c.loop-index.index * 64 + trailing_zeros w64 (get_or words c.loop-index.index 0)) in
    subst P c.self.view_is
    (least_in words c.loop-index.index c.loop-index.invariant (omega (arith, c.loop-index-test.true)) (omega (arith, c.if-word-ne0.true)) (search rules))

pub returns : goal.returns
returns c message is_in =
    let words = c.self.inside.words in
    let P : List ℕ → Type 0 = λ set. IsIn set message in
    nothing_in words c.loop-index.index c.loop-index.invariant (omega (arith, c.loop-index-test.false, c.loop-index.auto.index-end)) message
    (subst P (sym c.self.view_is) is_in)
