use Rattle.std.proofs.Common.{◌<◌, ◌++◌, ◌∷◌, [], length, take, drop, slice_index, All, ap, ap₂, sym, subst, ◌∙◌, append_assoc, append-nil}
use Rattle.std.specs.List.Sorted.{IsNonDecreasingBy}
use Rattle.std.proofs.lemmas.List.Elements.{All-drop}
use Rattle.std.proofs.lemmas.List.Sorted.{IsNonDecreasingBy-drop}
use Rattle.std.proofs.lemmas.Option.{get_or_from_slice_get, slice_get_within}
use Rattle.queue_plan.specs.bodies.ByLabel.{grouped}
use Rattle.queue_plan.proofs.Firsts.{empty_if_none}
use Rattle.queue_plan.proofs.Runs.{next_group}
use Rattle.queue_plan.proofs.grouping.groups_of.Goals as goal

pub loop-first-preserved : goal.loop-first-preserved
loop-first-preserved c =
    let labels = c.args.labels.now in
    let rest = c.loop-first.rest.now in
    let n = c.run_length.result in
    let label = slice_index labels c.from.result in
    let first = c.in-Some.first.now in
    let groups = c.loop-first.groups in
    let at = get_or_from_slice_get rest 0 first 0 (sym c.in-Some.ensures.value) in
    let split = next_group labels rest n label c.loop-first.invariant.rising (slice_get_within rest 0 first (sym c.in-Some.ensures.value))
    (ap (slice_index labels) (at ∙ sym c.from.ensures)) c.run_length.ensures.within c.run_length.ensures.same c.run_length.ensures.other in
    let group = c.new.ensures ∙ ap (λ ms. (label, ms)) (c.in_ok-from_slice.ensures ∙ c.split_at.ensures.front) in
    record {
      known =
          subst (All (λ m. m < length labels)) (sym c.split_at.ensures.back)
          (All-drop (λ m. m < length labels) n rest c.loop-first.invariant.known);
      rising =
          subst (IsNonDecreasingBy (slice_index labels)) (sym c.split_at.ensures.back)
          (IsNonDecreasingBy-drop (slice_index labels) n rest c.loop-first.invariant.rising);
      whole =
          ap₂ (λ gs ms. gs ++ grouped labels ms) (c.in_ok-push.ensures.ok ∙ ap (λ g. groups ++ g ∷ []) group) c.split_at.ensures.back
          ∙ append_assoc groups ((label, take n rest) ∷ []) (grouped labels (drop n rest)) ∙ ap (λ gs. groups ++ gs) (sym split)
          ∙ c.loop-first.invariant.whole;
    }

pub returns : goal.returns
returns c =
    let groups = c.loop-first.groups in
    sym (append-nil groups)
    ∙ ap (λ ms. groups ++ grouped c.args.labels.now ms) (sym (empty_if_none c.loop-first.rest.now c.in_default.ensures.value))
    ∙ c.loop-first.invariant.whole
