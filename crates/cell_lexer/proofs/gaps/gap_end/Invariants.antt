use Rattle.std.proofs.Common.{ℕ, ◌-◌, ◌≤◌, List, length, drop}
use Rattle.cell_lexer.specs.Gaps.{Gap}
use Rattle.cell_lexer.specs.Inner.Scanning.{IsPlace}
use Rattle.cell_lexer.proofs.gaps.gap_end.Given as goal

-- whatever goes on as a gap here goes on so from the start
abbrev pub invariant-gap : goal.invariant-gap
invariant-gap l = record {
  here : IsPlace l.text l.place;
  onward : l.fn.start.at ≤ l.place.at;
  before : (rest : List ℕ) → Gap (drop l.place.at l.text) rest → Gap (drop l.fn.start.at l.text) rest;
}

abbrev pub decreases-gap : goal.decreases-gap
decreases-gap l = length l.text - l.place.at
