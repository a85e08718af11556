use Rattle.std.proofs.Common.{◌∙◌, All, ap, sym, subst, arith}
use Rattle.comm_sequence.specs.Parts.{loops}
use Rattle.comm_sequence.specs.bodies.Walking.{IsFull}
use Rattle.comm_sequence.proofs.Walks.{passed_walk, loop_at, came_in}
use Rattle.comm_sequence.proofs.walking.Walk.next.Goals as goal

pub returns-in-One-Write-clause-walk : goal.returns-in-One-Write-clause-walk
returns-in-One-Write-clause-walk c =
    passed_walk c.loop-part.self c.in-Some.part.now c.in-Some.rest c.loop-part.invariant.walk c.in-Some.ensures.cases.0

pub returns-in-One-Read-clause-walk : goal.returns-in-One-Read-clause-walk
returns-in-One-Read-clause-walk c =
    passed_walk c.loop-part.self c.in-Some.part.now c.in-Some.rest c.loop-part.invariant.walk c.in-Some.ensures.cases.0

pub returns-in-Take-clause-walk : goal.returns-in-Take-clause-walk
returns-in-Take-clause-walk c =
    passed_walk c.loop-part.self c.in-Some.part.now c.in-Some.rest c.loop-part.invariant.walk c.in-Some.ensures.cases.0

pub returns-in-Emit-clause-walk : goal.returns-in-Emit-clause-walk
returns-in-Emit-clause-walk c =
    passed_walk c.loop-part.self c.in-Some.part.now c.in-Some.rest c.loop-part.invariant.walk c.in-Some.ensures.cases.0

pub enter-requires-clause-walk : goal.enter-requires-clause-walk
enter-requires-clause-walk c =
    passed_walk c.loop-part.self c.in-Some.part.now c.in-Some.rest c.loop-part.invariant.walk c.in-Some.ensures.cases.0

pub enter-requires-clause-some : goal.enter-requires-clause-some
enter-requires-clause-some c =
    let h = loop_at c.loop-part.self c.in-Some.part.now c.in-Some.rest.now c.in-Repeat.turns c.in-Repeat.parts c.loop-part.invariant.walk c.in-Some.ensures.cases.0 c.in-Repeat.is in
    λ e. h.1 (sym c.as_slice.ensures.value ∙ e)

pub enter-requires-clause-full : goal.enter-requires-clause-full
enter-requires-clause-full c =
    let h = loop_at c.loop-part.self c.in-Some.part.now c.in-Some.rest.now c.in-Repeat.turns c.in-Repeat.parts c.loop-part.invariant.walk c.in-Some.ensures.cases.0 c.in-Repeat.is in
    subst (All IsFull) (sym c.as_slice.ensures.value) h.2

pub enter-requires-clause-room : goal.enter-requires-clause-room
enter-requires-clause-room c =
    let h = loop_at c.loop-part.self c.in-Some.part.now c.in-Some.rest.now c.in-Repeat.turns c.in-Repeat.parts c.loop-part.invariant.walk c.in-Some.ensures.cases.0 c.in-Repeat.is in
    omega (arith, h.3, ap loops c.as_slice.ensures.value)

pub loop-part-preserved : goal.loop-part-preserved
loop-part-preserved c =
    let h = loop_at c.loop-part.self c.in-Some.part.now c.in-Some.rest.now c.in-Repeat.turns c.in-Repeat.parts c.loop-part.invariant.walk c.in-Some.ensures.cases.0 c.in-Repeat.is in
    record {
      walk = c.enter.ensures.walk;
      left = c.enter.ensures.left
          ∙ came_in c.loop-part.self c.in-Some.part.now c.in-Some.rest c.in-Repeat.turns c.in-Repeat.parts c.as_slice.result.now c.in-Some.ensures.cases.0 c.in-Repeat.is c.as_slice.ensures.value
          ∙ c.loop-part.invariant.left;
      some = λ e. h.1 (sym c.as_slice.ensures.value ∙ sym c.enter.ensures.inside ∙ e);
    }
