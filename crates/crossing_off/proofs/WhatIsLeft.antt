-- What is left of all lists.
use Rattle.std.proofs.Common.{◌≡◌, ◌≢◌, ℕ, ◌+◌, ◌<◌, ◌≤◌, List, [], ◌∷◌, ◌++◌, length, get_or, drop, map, sum_by, slice_get, slice_index_or, sym, ◌∙◌, ap, subst, ⊎_elim, arith}
use Rattle.std.proofs.lemmas.Bool.{cases_eq}
use Rattle.std.proofs.lemmas.List.{length-set, get_or-set_same, get_or-set_other, same_lists, length-drop}
use Rattle.std.proofs.lemmas.List.FromFn.{get_or-map-range_with_len, length-map-range_with_len}
use Rattle.std.proofs.lemmas.List.Sums.{sum_by-set}
use Rattle.cell_types.specs.Groups.{below}
use Rattle.comm_sequence.specs.Sequences.{Sequences}
use Rattle.comm_sequence.specs.declared.comm.Comm.{Comm}
use Rattle.crossing_off.specs.Greedy.{rest, front}
use Rattle.crossing_off.specs.bodies.Worklist.{front_at, moved_on}
use Rattle.crossing_off.proofs.Ends.{HasCell}
use Rattle.crossing_off.proofs.Steps.{other_cell, own_cell, rest_other, rest_own}

-- what is left of all lists
abbrev pub rests_of : Sequences → List Comm → List (List Comm)
rests_of s order = map (rest s order) (below (length s.lists))

-- what is left of one list
pub rest_at : (s : Sequences) (order : List Comm) (c : ℕ) → c < length s.lists → get_or (rests_of s order) c [] ≡ rest s order c
rest_at s order c l = get_or-map-range_with_len (rest s order) 0 (length s.lists) c c [] l (omega arith)

-- there are as many rests as lists
pub rests_long : (s : Sequences) (order : List Comm) → length (rests_of s order) ≡ length s.lists
rests_long s order = length-map-range_with_len (rest s order) 0 (length s.lists)

-- the first operation that is left of one list
pub front_now : (s : Sequences) (order : List Comm) (c : ℕ) → c < length s.lists → front_at (rests_of s order) c ≡ front s order c
front_now s order c l = ap (λ xs. slice_get xs 0) (rest_at s order c l)

-- the lists after one more operation, of which one has moved on
pub rests_after : (s : Sequences) (order : List Comm) (e : Comm) (home : HasCell s e)
    → moved_on (rests_of s order) home.cell ≡ rests_of s (order ++ e ∷ [])
rests_after s order e home =
    let old = rests_of s order in
    let new = moved_on old home.cell in
    let n = length s.lists in
    let after = order ++ e ∷ [] in
    let long_old = rests_long s order in
    let long_new : length new ≡ length old = length-set old home.cell (drop 1 (slice_index_or old home.cell [])) in
    same_lists new (rests_of s after) (omega (arith, long_old, long_new, rests_long s after)) (λ k d l.
    let within : k < n = omega (arith, l, long_old, long_new) in
    let at : get_or (rests_of s after) k d ≡ rest s after k = get_or-map-range_with_len (rest s after) 0 n k k d within (omega arith) in
    ⊎_elim
    (λ (same : k ≡ home.cell).
    let P : ℕ → Type 0 = λ i. get_or new i d ≡ rest s after i in
    subst P (sym same) (get_or-set_same old home.cell (drop 1 (slice_index_or old home.cell [])) d (omega (arith, long_old, home.within))
    ∙ ap (drop 1) (rest_at s order home.cell home.within) ∙ sym (rest_own s order e home.cell (own_cell s e home))) ∙ sym at)
    (λ (other : k ≢ home.cell).
    get_or-set_other old home.cell k (drop 1 (slice_index_or old home.cell [])) d other
    ∙ get_or-map-range_with_len (rest s order) 0 n k k d within (omega arith) ∙ sym (rest_other s order e k (other_cell s e home k other)) ∙ sym at)
    (cases_eq k home.cell))

-- the lists that are left are shorter by one
pub moved_less : (rests : List (List Comm)) (c : ℕ) → c < length rests → 1 ≤ length (get_or rests c []) → sum_by length (moved_on rests c) + 1 ≡ sum_by length rests
moved_less rests c l some =
    let list = get_or rests c [] in
    omega (arith, sum_by-set length rests c (drop 1 list) [] l, length-drop 1 list)
