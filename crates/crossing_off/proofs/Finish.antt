-- The answer, once no operation may be crossed any more.
use Rattle.std.proofs.Common.{◌≡◌, ◌≢◌, ℕ, ◌+◌, ◌^◌, ◌<◌, ◌≤◌, List, [], ◌∷◌, ◌++◌, length, map, sum_by, slice_get, slice_index_or, sym, ◌∙◌, ap, arith}
use Rattle.std.proofs.lemmas.List.{length-drop}
use Rattle.std.proofs.lemmas.Simd.{map-map}
use Rattle.std.proofs.lemmas.List.Sums.{sum_by-append, sum_by-cons}
use Rattle.cell_types.specs.Groups.{below}
use Rattle.comm_sequence.specs.Sequences.{Sequences}
use Rattle.comm_sequence.specs.declared.comm.Comm.{Comm}
use Rattle.crossing_off.specs.declared.answer.Residue.{Residue}
use Rattle.crossing_off.specs.declared.worklist.Crossing.{Crossing}
use Rattle.crossing_off.specs.Answer.{IsEmpty, IsLeft}
use Rattle.crossing_off.specs.Greedy.{made, rest, fronts, left, IsCrossed, IsStuck}
use Rattle.crossing_off.specs.bodies.Worklist.{IsUnderWay}
use Rattle.crossing_off.proofs.Exact.{nothing_left}
use Rattle.crossing_off.proofs.Lists.{lengths_le, sum_by-map}
use Rattle.crossing_off.proofs.WhatIsLeft.{rests_of, rest_at, rests_long}
use Rattle.crossing_off.proofs.Runs.{holds_all}
use Rattle.crossing_off.proofs.Whole.{may_all, whole_order}

-- no more is left than the lists have
pub left_few : (s : Sequences) (buffer : ℕ) (now : Crossing) → IsUnderWay s buffer now → sum_by length now.rests.items < 2 ^ 32
left_few s buffer now h =
    let order = now.order.items in
    let few = h.sound.few in
    let le = lengths_le (rests_of s order) s.lists (rests_long s order) (λ k l.
    let within : k < length s.lists = omega (arith, l, rests_long s order) in
    omega (arith, ap length (rest_at s order k within), length-drop (length (made s order k)) (slice_index_or s.lists k []))) in
    omega (arith, le, few, ap (sum_by length) h.rests)

-- one list of those that are to come
pub one_of : (seen later all : List (List Comm)) (x : List Comm) → seen ++ x ∷ later ≡ all → sum_by length seen + length x ≤ sum_by length all
one_of seen later all x h = omega (arith, sum_by-append length seen (x ∷ later), sum_by-cons length x later, ap (sum_by length) h)

-- how many operations are left
left_is : (s : Sequences) (buffer : ℕ) (now : Crossing) → IsUnderWay s buffer now → sum_by length now.rests.items ≡ left s now.order.items
left_is s buffer now h = ap (sum_by length) h.rests ∙ sum_by-map length (rest s now.order.items) (below (length s.lists))

-- the first operations that are left
fronts_are : (s : Sequences) (buffer : ℕ) (now : Crossing) → IsUnderWay s buffer now → map (λ (r : List Comm). slice_get r 0) now.rests.items ≡ fronts s now.order.items
fronts_are s buffer now h =
    ap (map (λ (r : List Comm). slice_get r 0)) h.rests ∙ map-map (λ (r : List Comm). slice_get r 0) (rest s now.order.items) (below (length s.lists))

-- the answer where nothing is left
pub answer_empty : (s : Sequences) (buffer : ℕ) (now : Crossing) → IsUnderWay s buffer now → IsStuck s buffer now.order.items → sum_by length now.rests.items ≡ 0
    → IsEmpty s buffer now.order.items
answer_empty s buffer now h stuck none =
    let rule : IsCrossed s buffer now.order.items = record { greedy = h.greedy; stuck = stuck } in
    record { rule = rule; is_order = whole_order s buffer now.order.items h.sound rule (sym (left_is s buffer now h) ∙ none) }

-- the answer where something is left
pub answer_left : (s : Sequences) (buffer : ℕ) (now : Crossing) (residue : Residue) → IsUnderWay s buffer now → IsStuck s buffer now.order.items
    → residue.left ≡ sum_by length now.rests.items → residue.left ≢ 0 → residue.fronts.items ≡ map (λ (r : List Comm). slice_get r 0) now.rests.items
    → IsLeft s buffer residue
answer_left s buffer now residue h stuck all some e =
    let rule : IsCrossed s buffer now.order.items = record { greedy = h.greedy; stuck = stuck } in
    record {
      no_order = λ order is. some (all ∙ left_is s buffer now h
          ∙ nothing_left s buffer order now.order.items h.sound is (holds_all s buffer now.order.items h.sound (may_all s buffer now.order.items rule)) stuck);
      is_residue = record {
        crossed = now.order.items;
        rule = rule;
        left_is = all ∙ left_is s buffer now h;
        fronts_are = e ∙ fronts_are s buffer now h;
      };
      some = omega arith;
    }
