-- Groups of messages that stand in rising order of label.
use Rattle.std.proofs.Common.{◌≡◌, ◌≢◌, ℕ, ◌+◌, ◌<◌, ◌≤◌, List, [], ◌∷◌, ◌++◌, Some, length, take, drop, get_or, slice_index, All, sym, ◌∙◌, ap, ap₂, subst, refl, append-nil, take-append-drop, length-drop, get_or-drop, nat_eq, pos_of_ne-zero, length-take-le, arith}
use Rattle.std.proofs.lemmas.List.Elements.{All-from_get_or, filter-append}
use Rattle.std.specs.List.Sorted.{IsNonDecreasingBy}
use Rattle.cell_types.specs.Groups.{greatest, labelled}
use Rattle.queue_plan.specs.bodies.ByLabel.{grouped}
use Rattle.queue_plan.proofs.Labels.{all_labelled, group_of, grouped_is, label_below, none_labelled, with_label}
use Rattle.queue_plan.proofs.Ranges.{one_more}

-- those of a label among messages and others
labelled_both : (labels run later : List ℕ) (label : ℕ)
    → labelled labels (run ++ later) label ≡ labelled labels run label ++ labelled labels later label
labelled_both labels run later label = filter-append (λ m. nat_eq (slice_index labels m) label) run later

-- the group of a label with a member
with_some : (label : ℕ) (messages : List ℕ) → 0 < length messages → with_label label messages ≡ Some (label, messages)
with_some label [] l = absurd (omega arith)
with_some label (m ∷ ms) l = refl

-- messages of one label and then messages of greater ones: their group comes first
pub run_first : (labels run later : List ℕ) (label : ℕ) → 0 < length run → All (λ m. slice_index labels m ≡ label) run
    → All (λ m. label < slice_index labels m) later
    → grouped labels (run ++ later) ≡ (label, run) ∷ grouped labels later
run_first labels run later label some same above =
    let not_run : (k : ℕ) → k ≢ label → labelled labels run k ≡ [] =
    λ k ne. none_labelled labels run k (λ i d l e. ne (sym e ∙ same i d l)) in
    let not_later : (k : ℕ) → k ≤ label → labelled labels later k ≡ [] =
    λ k le. none_labelled labels later k (λ i d l e. let a = above i d l in absurd (omega arith)) in
    let within : label ≤ greatest labels =
    subst (λ n. n ≤ greatest labels) (same 0 0 some) (label_below labels (get_or run 0 0)) in
    grouped_is labels (run ++ later)
    ∙ one_more (group_of labels (run ++ later)) (group_of labels later) label (label, run) 0 (1 + greatest labels)
    (omega arith) (omega arith)
    (λ k l. ap (with_label k)
    (labelled_both labels run later k ∙ ap₂ (λ xs ys. xs ++ ys) (not_run k (λ e. omega arith)) (not_later k (omega arith))))
    (ap (with_label label)
    (labelled_both labels run later label
    ∙ ap₂ (λ xs ys. xs ++ ys) (all_labelled labels run label same) (not_later label (omega arith)) ∙ append-nil run)
    ∙ with_some label run some)
    (λ k l. ap (with_label k) (not_later k l))
    (λ k l. ap (with_label k)
    (labelled_both labels run later k ∙ ap (λ xs. xs ++ labelled labels later k) (not_run k (λ e. omega arith))))
    ∙ ap (λ gs. (label, run) ∷ gs) (sym (grouped_is labels later))

-- the first of messages in rising order of label: those that have its label are the first group
pub next_group : (labels messages : List ℕ) (n label : ℕ) → IsNonDecreasingBy (slice_index labels) messages → 0 < length messages
    → slice_index labels (slice_index messages 0) ≡ label → n ≤ length messages
    → All (λ m. slice_index labels m ≡ label) (take n messages)
    → (n < length messages → slice_index labels (slice_index messages n) ≢ label)
    → grouped labels messages ≡ (label, take n messages) ∷ grouped labels (drop n messages)
next_group labels messages n label rising some first within same other =
    let more : 0 < n = pos_of_ne-zero (λ (e : n ≡ 0).
    other (omega arith) (ap (λ k. slice_index labels (slice_index messages k)) e ∙ first)) in
    let P : ℕ → Type 0 = λ m. label < slice_index labels m in
    let above : All P (drop n messages) = All-from_get_or P (drop n messages) 0 (λ i l.
    let in' : n + i < length messages = omega (arith, l, length-drop n messages) in
    let next = rising 0 n 0 (omega arith) (omega arith) in
    let far = rising n (n + i) 0 (omega arith) in' in
    let ne : slice_index labels (slice_index messages n) ≢ label = other (omega arith) in
    subst P (sym (get_or-drop n messages i 0)) (omega arith)) in
    ap (grouped labels) (sym (take-append-drop n messages))
    ∙ run_first labels (take n messages) (drop n messages) label (omega (arith, length-take-le n messages within)) same above
