use Rattle.std.proofs.Common.{ℕ, ◌+◌, ◌<◌, ◌≤◌, length, refl, subst, sym}
use Rattle.std.specs.List.{slice_index}
use Rattle.labelling.proofs.Falling.{IsPassed, known_next, passed_more, passed_all, falls_here}
use Rattle.labelling.specs.Falls.{FallsAt}
use Rattle.labelling.proofs.falls.fall_in.Goals as goal

pub bounds-labels-after : goal.bounds-labels-after
bounds-labels-after c =
    let P : ℕ → Type 0 = λ m. m < length c.args.labels.now in
    subst P (sym c.message-after.ensures)
    (known_next c.args.cursor c.args.labels.now _ _ _ _ _ _ c.loop-operation.invariant.passed c.in-Some.ensures c.requires.messages)

pub returns-then-labels-after : goal.returns-then-labels-after
returns-then-labels-after c =
    let m = c.in-Some.operation in
    let same = c.message-after.ensures in
    let P : ℕ → Type 0 = λ after. slice_index c.args.labels.now after < slice_index c.args.labels.now c.loop-operation.before in
    let Q : ℕ → Type 0 = λ after. FallsAt c.args.cursor c.args.labels.now c.loop-operation.at c.loop-operation.before after in
    (refl, subst Q (sym same) (falls_here c.args.cursor c.args.labels.now _ _ _ m _ c.loop-operation.invariant.passed c.in-Some.ensures (subst P same c.if-labels-after.true)), c.loop-operation.invariant.passed.none)

pub loop-operation-preserved : goal.loop-operation-preserved
loop-operation-preserved c =
    let same = c.message-after.ensures in
    let P : ℕ → Type 0 = λ after. slice_index c.args.labels.now c.loop-operation.before ≤ slice_index c.args.labels.now after in
    let K : ℕ → Type 0 = λ after. after < length c.args.labels.now in
    let Q : ℕ → Type 0 = λ after. IsPassed c.args.cursor c.args.labels.now (c.loop-operation.at + 1) after c.next-in-loop-operation.new.self in
    record {
      passed = subst Q (sym same) (passed_more c.args.cursor c.args.labels.now _ _ _ _ _ c.loop-operation.invariant.passed c.in-Some.ensures (subst P same c.if-labels-after.false));
      known = subst K (sym same) (known_next c.args.cursor c.args.labels.now _ _ _ _ _ _ c.loop-operation.invariant.passed c.in-Some.ensures c.requires.messages);
    }

pub returns : goal.returns
returns c = passed_all c.args.cursor c.args.labels.now _ _ _ c.loop-operation.invariant.passed c.in_default.ensures.0
