use Rattle.std.proofs.Common.{◌++◌, ◌∷◌, [], ◌∙◌, ap, append_assoc, subst, sym}
use Rattle.std.specs.Vec.Iter.{into_iter_items}
use Rattle.rendezvous.specs.bodies.UnderWay.{AllEnd, Ends}
use Rattle.rendezvous.proofs.Ending.{all_push}
use Rattle.rendezvous.proofs.array.outputs.Goals as goal

pub loop-runner-preserved : goal.loop-runner-preserved
loop-runner-preserved c =
    let done = c.loop-runner.yielded in
    let r = c.in-Some.runner in
    let h = c.in_ok-push.ensures.ok in
    let ends : Ends r c.from_vec.result = subst (Ends r) (sym c.from_vec.ensures) c.in_ok-finish.ensures in
    record {
      ends = subst (AllEnd (done ++ r ∷ [])) (sym c.in_ok-push.ensures.ok)
          (all_push done c.loop-runner.words r c.from_vec.result c.loop-runner.invariant.ends ends);
      all = c.loop-runner.invariant.all ∙ ap (λ left. done ++ left) c.in-Some.ensures.steps.0
          ∙ sym (append_assoc done (r ∷ []) (into_iter_items c.next.new.self));
    }
