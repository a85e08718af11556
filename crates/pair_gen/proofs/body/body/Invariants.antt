use Rattle.std.proofs.Common.{◌≡◌, ◌+◌, ◌*◌, ◌≤◌, ◌∷◌, length, take}
use Rattle.std.specs.List.{flat_map}
use Rattle.pair_gen.specs.Generated.{on_lines, pair_acts, set_act}
use Rattle.pair_gen.proofs.body.body.Given as goal

-- the first statement, and those of the pairs so far
abbrev pub invariant-loop-message : goal.invariant-loop-message
invariant-loop-message l =
    (l.body ≡ on_lines l.fn.line (set_act l.fn.cell ∷ flat_map (pair_acts l.fn.cell) (take l.message-index l.drawn)))
    × (length l.body ≤ 1 + 2 * l.message-index)
