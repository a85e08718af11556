use Rattle.std.proofs.Common.{◌≡◌, ◌++◌, take}
use Rattle.object_io.specs.Objects.{numbers}
use Rattle.object_io.proofs.words.write_numbers.Given as goal

abbrev pub invariant-loop-number : goal.invariant-loop-number
invariant-loop-number l = l.out.items ≡ l.fn.out.items ++ numbers (take l.number-index l.ns)
