-- A stable sort by label.
use Rattle.std.proofs.Common.{◌≡◌, ℕ, ◌<◌, ◌≤◌, Bool, true, false, cond, not, ◌&&◌, List, [], ◌∷◌, map, filter, length, get_or, slice_index, nat_eq, nat_cmp, is_lt, All, IsPermutation, sym, ◌∙◌, ap, subst, refl, arith}
use Rattle.std.proofs.lemmas.Bool.Decides.{nat_tests}
use Rattle.std.proofs.lemmas.List.{get_or-map, length-map}
use Rattle.std.proofs.lemmas.List.Elements.{All-head, All-map, All-same, All-tail}
use Rattle.std.proofs.lemmas.List.Sorted.{All-permutation}
use Rattle.std.specs.List.Sorted.{IsNonDecreasingBy, IsStableByKey, ties}
use Rattle.cell_types.specs.Groups.{below, labelled}
use Rattle.queue_plan.specs.bodies.ByLabel.{IsByLabel}

-- whether a label ties with that of a message
abbrev tied : ℕ → ℕ × ℕ → Bool
tied label = ties (λ (x y : ℕ × ℕ). is_lt (nat_cmp x.0 y.0)) (label, 0)

-- a tie is equality
tied_is : (a b : ℕ) → nat_eq b a ≡ (not (is_lt (nat_cmp a b)) && not (is_lt (nat_cmp b a)))
tied_is a b = grind (arith, nat_tests)

-- what stands after the labels that pass a test
behind : (b : Bool) (p : ℕ × ℕ) (ms : List ℕ) (ps : List (ℕ × ℕ)) → ms ≡ map (λ (q : ℕ × ℕ). q.1) ps
    → cond b (p.1 ∷ ms) ms ≡ map (λ (q : ℕ × ℕ). q.1) (cond b (p ∷ ps) ps)
behind true p ms ps e = ap (λ xs. p.1 ∷ xs) e
behind false p ms ps e = e

-- the messages of a label, after their labels
labelled_behind : (labels : List ℕ) (pairs : List (ℕ × ℕ)) (label : ℕ) → All (λ (p : ℕ × ℕ). p.0 ≡ slice_index labels p.1) pairs
    → labelled labels (map (λ (p : ℕ × ℕ). p.1) pairs) label ≡ map (λ (p : ℕ × ℕ). p.1) (filter (tied label) pairs)
labelled_behind labels [] label h = refl
labelled_behind labels (p ∷ ps) label h =
    let rest = labelled labels (map (λ (q : ℕ × ℕ). q.1) ps) label in
    let P : ℕ × ℕ → Type 0 = λ q. q.0 ≡ slice_index labels q.1 in
    ap (λ k. cond (nat_eq k label) (p.1 ∷ rest) rest) (sym (All-head P p ps h))
    ∙ ap (λ b. cond b (p.1 ∷ rest) rest) (tied_is label p.0)
    ∙ behind (tied label p) p rest (filter (tied label) ps) (labelled_behind labels ps label (All-tail P p ps h))

-- messages after what is put in front of each are themselves
stripped : (labels messages : List ℕ) → map (λ (p : ℕ × ℕ). p.1) (map (λ m. (slice_index labels m, m)) messages) ≡ messages
stripped labels [] = refl
stripped labels (m ∷ ms) = ap (λ xs. m ∷ xs) (stripped labels ms)

-- a stable sort of all messages by their labels
pub sorted_by_label : (labels : List ℕ) (pairs sorted : List (ℕ × ℕ)) → pairs ≡ map (λ m. (slice_index labels m, m)) (below (length labels))
    → IsPermutation pairs sorted → IsNonDecreasingBy (λ (p : ℕ × ℕ). p.0) sorted
    → IsStableByKey (λ (p : ℕ × ℕ). p.0) nat_cmp pairs sorted → IsByLabel labels (map (λ (p : ℕ × ℕ). p.1) sorted)
sorted_by_label labels pairs sorted is moved rises stays =
    let P : ℕ × ℕ → Type 0 = λ p. p.0 ≡ slice_index labels p.1 in
    let all : All P pairs = All-same P pairs _ is (All-map P (λ m. (slice_index labels m, m)) (below (length labels)) (λ k d l. refl)) in
    let there : All P sorted = All-permutation P pairs sorted moved all in
    let second : ℕ × ℕ → ℕ = λ p. p.1 in
    let long : length (map second sorted) ≡ length sorted = length-map sorted second in
    record {
      rising = λ i j d le l.
          let in' : j < length sorted = omega arith in
          let P' : ℕ → ℕ → Type 0 = λ m n. slice_index labels m ≤ slice_index labels n in
          let h = rises i j (0, d) le in' in
          let a = there i (0, d) (omega arith) in
          let b = there j (0, d) in' in
          let x : get_or (map second sorted) i d ≡ second (get_or sorted i (0, d)) = get_or-map second sorted i (0, d) d (omega arith) in
          let y : get_or (map second sorted) j d ≡ second (get_or sorted j (0, d)) = get_or-map second sorted j (0, d) d in' in
          subst (λ m. P' m (get_or (map second sorted) j d)) (sym x) (subst (λ n. P' (second (get_or sorted i (0, d))) n) (sym y) (omega arith));
      stable = λ label.
          labelled_behind labels sorted label there
          ∙ ap (map second) (stays (label, 0))
          ∙ sym (labelled_behind labels pairs label all)
          ∙ ap (λ ps. labelled labels (map second ps) label) is
          ∙ ap (λ ms. labelled labels ms label) (stripped labels (below (length labels)));
    }
