use Rattle.std.proofs.Common.{◌≡◌, ◌≤◌, drop}
use Rattle.cell_lexer.specs.Forms.{value, value_after, greatest}
use Rattle.cell_lexer.proofs.numbers.number.Given as goal

abbrev pub invariant-loop-byte : goal.invariant-loop-byte
invariant-loop-byte l = (l.n ≤ greatest) × (value_after l.n (drop l.byte-index l.digits) ≡ value l.digits)
