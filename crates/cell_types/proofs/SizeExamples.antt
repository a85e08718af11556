-- The instructions of statements, counted.
use Rattle.std.proofs.Common.{◌≡◌, refl}
use Rattle.sys_base.specs.declared.kinds.Op.TheVariants as O
use Rattle.cell_types.specs.Code.{Number, Variable, Element, Negated, Applied, SetAt, Write, Read, Take, For, If, End, Then}
use Rattle.cell_types.specs.Size.{block_size, cell_size}

-- `if 1 { for i 2 { write A 1; } } else { write A 2; write A 3; }`: `push 1`, `ifzero`, `loop`, `push 1`, `write`, `next`, `jump`,
-- `push 2`, `write`, `push 3`, `write` and `halt`
choice : cell_size (record {
  words = 0;
  counters = 1;
  stack = 1;
  body =
      Then 2 (If (Number 1) (Then 2 (For 0 2 (Then 2 (Write 0 (Number 1)) End)) End)
      (Then 2 (Write 0 (Number 2)) (Then 2 (Write 0 (Number 3)) End))) End;
}) ≡ 12
choice = refl

-- `a[x + 1] = -a[0];`, `read A x;`, `take x;`: three instructions for the index, three for the value, and one for each statement
stored : block_size (
    Then 1 (SetAt 1 2 (Applied O.Add (Variable 0) (Number 1)) (Negated (Element 1 2 (Number 0)))) (
    Then 2 (Read 0 0) (
    Then 3 (Take 0) End))) ≡ 9
stored = refl
