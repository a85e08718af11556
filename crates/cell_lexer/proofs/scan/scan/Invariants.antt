use Rattle.std.proofs.Common.{◌-◌, ◌<◌, length, get_or}
use Rattle.cell_lexer.specs.Inner.Scanning.{IsPlace, IsSolid}
use Rattle.cell_lexer.specs.Tokens.{Stand}
use Rattle.cell_lexer.proofs.scan.scan.Given as goal

-- the tokens so far stand before the place, and no gap goes on there
abbrev pub invariant-each : goal.invariant-each
invariant-each l = record {
  here : IsPlace l.text l.place;
  stand : Stand l.text 0 l.all.items l.place.at;
  solid : l.place.at < length l.text → IsSolid (get_or l.text l.place.at 0);
}

abbrev pub decreases-each : goal.decreases-each
decreases-each l = length l.text - l.place.at
