-- Messages by their labels.
use Rattle.std.proofs.Common.{◌≡◌, ◌≢◌, ℕ, zero, suc, ◌+◌, ◌<◌, ◌≤◌, max, Bool, true, false, cond, ◌||◌, List, [], ◌∷◌, Option, None, Some, map, filter, filter_map, fold, nat_eq, slice_index, All, sym, ◌∙◌, ap, refl, ⊎_elim, le_trans, arith}
use Rattle.std.proofs.Math.Nat.{le-max_left}
use Rattle.std.proofs.lemmas.Bool.{cases_eq, eq-eqb, ne_eqb}
use Rattle.std.proofs.lemmas.List.Elements.{All-head, All-tail}
use Rattle.std.specs.List.{cons_option}
use Rattle.cell_types.specs.Groups.{below, greatest, is_one_of, labelled}
use Rattle.queue_plan.specs.bodies.ByLabel.{grouped}
use Rattle.queue_plan.proofs.Ranges.{wider}

-- whether there is an element
abbrev pub some : List ℕ → Bool
some [] = false
some (m ∷ ms) = true

-- the group of a label, if it has a member
abbrev pub with_label : ℕ → List ℕ → Option (ℕ × List ℕ)
with_label label [] = None
with_label label (m ∷ ms) = Some (label, m ∷ ms)

-- the group of a label among some messages, if one of them has it
abbrev pub group_of : List ℕ → List ℕ → ℕ → Option (ℕ × List ℕ)
group_of labels messages label = with_label label (labelled labels messages label)

-- the tests of equal numbers are the same both ways
swapped : (a b : ℕ) → nat_eq a b ≡ nat_eq b a
swapped a b =
    ⊎_elim (λ (e : a ≡ b). eq-eqb a b e ∙ sym (eq-eqb b a (sym e)))
    (λ (n : a ≡ b → ⊥). ne_eqb a b n ∙ sym (ne_eqb b a (λ e. n (sym e)))) (cases_eq a b)

-- a message with the label comes in front or not
in_front : (b : Bool) (m : ℕ) (ms : List ℕ) → (b || some ms) ≡ some (cond b (m ∷ ms) ms)
in_front true m ms = refl
in_front false m ms = refl

-- a label is one of those of some messages exactly where one of them has it
pub has_label : (labels messages : List ℕ) (label : ℕ)
    → is_one_of (map (slice_index labels) messages) label ≡ some (labelled labels messages label)
has_label labels [] label = refl
has_label labels (m ∷ ms) label =
    ap (λ b. nat_eq label (slice_index labels m) || b) (has_label labels ms label)
    ∙ ap (λ b. b || some (labelled labels ms label)) (swapped label (slice_index labels m))
    ∙ in_front (nat_eq (slice_index labels m) label) m (labelled labels ms label)

-- messages none of which has a label
pub none_labelled : (labels messages : List ℕ) (label : ℕ) → All (λ m. slice_index labels m ≢ label) messages
    → labelled labels messages label ≡ []
none_labelled labels [] label h = refl
none_labelled labels (m ∷ ms) label h =
    ap (λ b. cond b (m ∷ labelled labels ms label) (labelled labels ms label))
    (ne_eqb (slice_index labels m) label (All-head (λ m. slice_index labels m ≢ label) m ms h))
    ∙ none_labelled labels ms label (All-tail (λ m. slice_index labels m ≢ label) m ms h)

-- messages that all have a label
pub all_labelled : (labels messages : List ℕ) (label : ℕ) → All (λ m. slice_index labels m ≡ label) messages
    → labelled labels messages label ≡ messages
all_labelled labels [] label h = refl
all_labelled labels (m ∷ ms) label h =
    ap (λ b. cond b (m ∷ labelled labels ms label) (labelled labels ms label))
    (eq-eqb (slice_index labels m) label (All-head (λ m. slice_index labels m ≡ label) m ms h))
    ∙ ap (λ xs. m ∷ xs) (all_labelled labels ms label (All-tail (λ m. slice_index labels m ≡ label) m ms h))

-- a label of some messages, or none, in front of others
one_of_them : (label : ℕ) (messages : List ℕ) (of : ℕ → ℕ × List ℕ) (labels : List ℕ) (rest : List (ℕ × List ℕ))
    → of label ≡ (label, messages) → map of labels ≡ rest
    → map of (cond (some messages) (label ∷ labels) labels) ≡ cons_option (with_label label messages) rest
one_of_them label [] of labels rest e h = h
one_of_them label (m ∷ ms) of labels rest e h = ap (λ g. g ∷ map of labels) e ∙ ap (λ gs. (label, m ∷ ms) ∷ gs) h

-- the groups of those labels that a message has
labels_had : (has : ℕ → Bool) (messages : ℕ → List ℕ) (labels : List ℕ) → ((label : ℕ) → has label ≡ some (messages label))
    → map (λ label. (label, messages label)) (filter has labels) ≡ filter_map (λ label. with_label label (messages label)) labels
labels_had has messages [] h = refl
labels_had has messages (l ∷ ls) h =
    let of : ℕ → ℕ × List ℕ = λ label. (label, messages label) in
    ap (λ b. map of (cond b (l ∷ filter has ls) (filter has ls))) (h l)
    ∙ one_of_them l (messages l) of (filter has ls) (filter_map (λ label. with_label label (messages label)) ls) refl
    (labels_had has messages ls h)

-- the greatest of numbers is no less than where it starts
pub starts_below : (a : ℕ) (xs : List ℕ) → a ≤ fold max a xs
starts_below a [] = omega arith
starts_below a (x ∷ xs) = le_trans (le-max_left a x) (starts_below (max a x) xs)

-- each number is at most the greatest
each_below : (a : ℕ) (xs : List ℕ) (k : ℕ) → slice_index xs k ≤ fold max a xs
each_below a [] k = omega arith
each_below a (x ∷ xs) zero = let h = starts_below (max a x) xs in omega arith
each_below a (x ∷ xs) (suc k) = each_below (max a x) xs k

-- each label is at most the greatest
pub label_below : (labels : List ℕ) (m : ℕ) → slice_index labels m ≤ greatest labels
label_below labels m = each_below 0 labels m

-- the greatest label of some messages is at most a number that no label is above
greatest_below : (labels messages : List ℕ) (a most : ℕ) → a ≤ most → ((m : ℕ) → slice_index labels m ≤ most)
    → fold max a (map (slice_index labels) messages) ≤ most
greatest_below labels [] a most l h = l
greatest_below labels (m ∷ ms) a most l h =
    let here = h m in greatest_below labels ms (max a (slice_index labels m)) most (omega arith) h

-- no message has a label above the greatest of their labels
none_above : (labels messages : List ℕ) (a label : ℕ) → fold max a (map (slice_index labels) messages) < label
    → labelled labels messages label ≡ []
none_above labels [] a label l = refl
none_above labels (m ∷ ms) a label l =
    let s = starts_below (max a (slice_index labels m)) (map (slice_index labels) ms) in
    ap (λ b. cond b (m ∷ labelled labels ms label) (labelled labels ms label))
    (ne_eqb (slice_index labels m) label (λ e. omega arith))
    ∙ none_above labels ms (max a (slice_index labels m)) label l

-- the groups of some messages, as what each number up to the greatest label gives
pub grouped_is : (labels messages : List ℕ)
    → grouped labels messages ≡ filter_map (group_of labels messages) (below (1 + greatest labels))
grouped_is labels messages =
    let least : greatest (map (slice_index labels) messages) ≤ greatest labels =
    greatest_below labels messages 0 (greatest labels) (omega arith) (label_below labels) in
    labels_had (is_one_of (map (slice_index labels) messages)) (labelled labels messages)
    (below (1 + greatest (map (slice_index labels) messages))) (has_label labels messages)
    ∙ wider (group_of labels messages) 0 (1 + greatest (map (slice_index labels) messages)) (1 + greatest labels) (omega arith)
    (λ k l. ap (with_label k) (none_above labels messages 0 k (omega arith)))
