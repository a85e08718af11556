-- The groups of a program keep what their type keeps.
use Rattle.std.proofs.Common.{◌≡◌, ℕ, ◌+◌, ◌*◌, ◌<◌, ◌≤◌, Bool, true, List, [], ◌∷◌, map, filter, length, get_or, slice_index, nat_eq, nat_lt, ◌&&◌, All, sym, ◌∙◌, ap, subst, refl, true≢false, mul-le-mul, arith}
use Rattle.std.proofs.lemmas.List.{length-map}
use Rattle.std.proofs.lemmas.List.Elements.{All-map, filter_passes}
use Rattle.std.proofs.lemmas.List.FromFn.{get_or-range_with_len, length-map-range_with_len, length-range_with_len}
use Rattle.std.proofs.lemmas.List.Kept.{IsStrictlyIncreasing-filter}
use Rattle.std.proofs.lemmas.List.Sums.{count_by-le-length, length-filter}
use Rattle.std.specs.List.Sorted.{IsStrictlyIncreasing}
use Rattle.sys_base.specs.Grid.{Extent, IsExtent, cell_count}
use Rattle.cell_types.specs.Code.{ProgramCode}
use Rattle.cell_types.specs.Groups.{below, greatest, groups, is_one_of, labelled, link_ids, rising, route, routes_of, users}
use Rattle.cell_types.specs.Sound.{IsSound}
use Rattle.cell_types.specs.declared.program.Message.{Message}
use Rattle.queue_plan.specs.Grouping.{all_groups, AreGroups, IsGroup, IsGroups}
use Rattle.queue_plan.specs.bodies.ByLabel.{grouped}
use Rattle.queue_plan.proofs.Counted.{rising_few}
use Rattle.queue_plan.proofs.Labels.{has_label, some}

-- the numbers below one rise
pub below_rises : (n : ℕ) → IsStrictlyIncreasing (below n)
below_rises n = λ k l.
    let long = length-range_with_len 0 n in
    let here = get_or-range_with_len 0 n k 0 (omega (arith, long)) in
    let next = get_or-range_with_len 0 n (k + 1) 0 (omega (arith, long)) in
    omega (arith, here, next)

-- what passes a test is no more than there is
filtered_few : (p : ℕ → Bool) (xs : List ℕ) → length (filter p xs) ≤ length xs
filtered_few p xs = omega (arith, length-filter p xs, count_by-le-length p xs)

-- the labels of groups
firsts : (of : ℕ → List ℕ) (labels : List ℕ) → map (λ (g : ℕ × List ℕ). g.0) (map (λ label. (label, of label)) labels) ≡ labels
firsts of [] = refl
firsts of (l ∷ ls) = ap (λ xs. l ∷ xs) (firsts of ls)

-- what is there has a length
there_long : (xs : List ℕ) → some xs ≡ true → 0 < length xs
there_long [] h = absurd (true≢false (sym h))
there_long (x ∷ xs) h = omega arith

-- the groups of a few messages in rising order
are_groups : (labels messages : List ℕ) → IsStrictlyIncreasing messages → length messages ≤ 512 → AreGroups (grouped labels messages)
are_groups labels messages rises few =
    let numbers = map (slice_index labels) messages in
    let group : ℕ → ℕ × List ℕ = λ label. (label, labelled labels messages label) in
    let long : length (map group (rising numbers)) ≡ length (rising numbers) = length-map (rising numbers) group in
    let Q : ℕ → Type 0 = λ label. is_one_of numbers label ≡ true in
    let had : All Q (rising numbers) = filter_passes (is_one_of numbers) (below (1 + greatest numbers)) in
    record {
      few = omega (arith, long, rising_few numbers, length-map messages (slice_index labels));
      labels = subst IsStrictlyIncreasing (sym (firsts (labelled labels messages) (rising numbers)))
          (IsStrictlyIncreasing-filter (is_one_of numbers) (below (1 + greatest numbers)) (below_rises (1 + greatest numbers)));
      each = All-map IsGroup group (rising numbers) (λ k d l.
          let label = get_or (rising numbers) k d in
          record {
            some = there_long (labelled labels messages label) (sym (has_label labels messages label) ∙ had k d l);
            few = omega (arith, filtered_few (λ m. nat_eq (slice_index labels m) label) messages, few);
            rising = IsStrictlyIncreasing-filter (λ m. nat_eq (slice_index labels m) label) messages rises;
          });
    }

-- a grid has at most 256 cells
few_cells : (g : Extent) → IsExtent g → cell_count g ≤ 256
few_cells g is = mul-le-mul is.most_rows is.most_cols

-- the groups of a program
pub sound_groups : (program : ProgramCode) (labels lengths : List ℕ) → IsSound program → IsGroups (all_groups program labels lengths)
sound_groups program labels lengths sound =
    let long = length-map-range_with_len (groups (routes_of program) labels lengths) 0 (4 * cell_count program.grid) in
    let n = length (routes_of program) in
    let few : n ≤ 512 = omega (arith, length-map program.messages (λ (m : Message). m.route), sound.few) in
    record {
      few = omega (arith, long, few_cells program.grid sound.grid);
      each = All-map AreGroups (groups (routes_of program) labels lengths) (link_ids program) (λ k d l.
          let link = get_or (link_ids program) k d in
          let mine = λ (message : ℕ). nat_lt 0 (slice_index lengths message) && is_one_of (route program message) link in
          are_groups labels (users (routes_of program) lengths link) (IsStrictlyIncreasing-filter mine (below n) (below_rises n))
          (omega (arith, filtered_few mine (below n), length-range_with_len 0 n, few)));
    }
