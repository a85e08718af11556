use Rattle.std.proofs.Common.{◌≡◌, ◌++◌, ◌*◌}
use Rattle.std.proofs.Math.ListN.{replicate}
use Rattle.std.specs.Prelude.{codes}
use Rattle.cell_tree.proofs.words.write_line.Given as goal

abbrev pub invariant-loop : goal.invariant-loop
invariant-loop l = l.out.items ≡ l.fn.out.items ++ codes "\n" ++ replicate (2 * l.counter) 32
