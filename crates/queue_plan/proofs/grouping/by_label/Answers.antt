use Rattle.std.proofs.Common.{rules, ℕ, map, ap, sym, subst, ◌∙◌}
use Rattle.std.proofs.lemmas.List.Sorted.{answers_always, IsNonDecreasingBy-from_sort_by_key}
use Rattle.queue_plan.specs.bodies.ByLabel.{IsByLabel}
use Rattle.queue_plan.proofs.Stable.{sorted_by_label}
use Rattle.queue_plan.proofs.grouping.by_label.Goals as goal

pub returns : goal.returns
returns c =
    let labels = c.args.labels.now in
    let sorted = c.sort_by_key.new.self.items in
    let by = sorted_by_label labels c.in_ok-pairs.pairs.items sorted c.in_ok-pairs.ensures c.sort_by_key.ensures.permutation
    (IsNonDecreasingBy-from_sort_by_key (λ (p : ℕ × ℕ). p.0) _ c.in_ok-sort_by_key.ensures.sorted (λ a r q k. search rules))
    (c.sort_by_key.ensures.stable (λ (p : ℕ × ℕ). p.0) (answers_always _ _ _ (λ f a r g h. search rules))) in
    subst (IsByLabel labels) (sym (c.in_ok-messages_of.ensures ∙ ap (map (λ (p : ℕ × ℕ). p.1)) c.deref.ensures.value)) by
