use Rattle.std.proofs.Common.{length}
use Rattle.cell_tree.specs.declared.source.Source.{Source}
use Rattle.cell_parser.specs.Inner.Declaring.{Comes, with_links}
use Rattle.cell_parser.specs.Inner.Machine.{Links}
use Rattle.cell_parser.specs.Inner.Reading.{AreTokens}
use Rattle.cell_parser.proofs.program.links.Given as goal

-- the links so far have been read up to the rest
abbrev pub invariant-each : goal.invariant-each
invariant-each l = record {
  comes : (s : Source) → Comes l.text (Links s) l.fn.tokens (Links (with_links s l.links)) l.rest;
  kept : AreTokens l.text l.rest;
}

abbrev pub decreases-each : goal.decreases-each
decreases-each l = length l.rest
