use Rattle.std.proofs.Common.{◌≡◌, ◌++◌, take}
use Rattle.std.specs.Prelude.{string_bytes}
use Rattle.refusals.specs.Explanations.{walk_lines}
use Rattle.refusals.proofs.explanation.write_walk.Given as goal

abbrev pub invariant-loop-line : goal.invariant-loop-line
invariant-loop-line l = string_bytes l.out ≡ string_bytes l.fn.out ++ walk_lines (take l.line-index l.walk)
