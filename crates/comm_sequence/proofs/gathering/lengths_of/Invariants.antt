use Rattle.std.proofs.Common.{◌≡◌, ℕ, ◌<◌, length, map, take}
use Rattle.std.specs.List.{slice_index, sum_by}
use Rattle.cell_types.specs.Communications.{Writes, times}
use Rattle.comm_sequence.specs.Parts.{unrolled}
use Rattle.comm_sequence.proofs.gathering.lengths_of.Given as goal

abbrev pub invariant-loop-parts : goal.invariant-loop-parts
invariant-loop-parts l =
    (length l.lengths.items ≡ l.messages)
    × ((m : ℕ) → m < l.messages → slice_index l.lengths.items m ≡ sum_by (times (Writes m)) (map unrolled (take l.parts-index l.trees)))
