use Rattle.std.proofs.Common.{◌≡◌, ◌≤◌, ◌∙◌, length, [], rules, arith}
use Rattle.std.proofs.lemmas.List.{nil_from_length}
use Rattle.comm_sequence.proofs.Walks.{out_left, out_walk}
use Rattle.comm_sequence.proofs.walking.Walk.seek.Goals as goal

pub loop-self-preserved : goal.loop-self-preserved
loop-self-preserved c =
    let w = c.loop-self.self in
    let done : w.inner.rest.now ≡ [] = nil_from_length w.inner.rest.now (search rules) in
    let last : w.inner.more ≡ 0 = omega (arith, c.if-self-gt0.false) in
    let within : w.depth ≤ length w.outer = search rules in
    record {
      walk = out_walk w _ c.index-outer-self.result c.loop-self.invariant.walk c.if-self-eq0.false c.index-outer-self.is;
      left = out_left w _ c.index-outer-self.result done last c.if-self-eq0.false within c.index-outer-self.is ∙ c.loop-self.invariant.left;
    }
