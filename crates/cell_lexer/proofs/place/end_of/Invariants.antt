use Rattle.std.proofs.Common.{◌-◌, length}
use Rattle.cell_lexer.specs.Inner.Scanning.{IsPlace}
use Rattle.cell_lexer.proofs.place.end_of.Given as goal

abbrev pub invariant-bytes : goal.invariant-bytes
invariant-bytes l = IsPlace l.text l.place

abbrev pub decreases-bytes : goal.decreases-bytes
decreases-bytes l = length l.text - l.place.at
