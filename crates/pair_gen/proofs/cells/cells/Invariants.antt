use Rattle.std.proofs.Common.{◌≡◌, ◌+◌, ◌*◌, ◌≤◌, map}
use Rattle.sys_base.specs.Groups.{below}
use Rattle.pair_gen.specs.Generated.{cell_decl, first_line}
use Rattle.pair_gen.proofs.cells.cells.Given as goal

-- the cells so far, and the line after them
abbrev pub invariant-loop-index : goal.invariant-loop-index
invariant-loop-index l =
    (l.cells ≡ map (cell_decl l.drawn) (below l.index)) × (l.line ≡ first_line l.drawn l.index)
    × (l.line ≤ 27 + 40005 * l.index)
