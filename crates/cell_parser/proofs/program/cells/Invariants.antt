use Rattle.std.proofs.Common.{length}
use Rattle.cell_tree.specs.declared.source.Source.{Source}
use Rattle.cell_parser.specs.Inner.Declaring.{Comes, with_cells}
use Rattle.cell_parser.specs.Inner.Machine.{Cells}
use Rattle.cell_parser.specs.Inner.Reading.{AreTokens}
use Rattle.cell_parser.proofs.program.cells.Given as goal

-- the cells so far have been read up to the rest
abbrev pub invariant-each : goal.invariant-each
invariant-each l = record {
  comes : (s : Source) → Comes l.text (Cells s) l.fn.tokens (Cells (with_cells s l.cells)) l.rest;
  kept : AreTokens l.text l.rest;
}

abbrev pub decreases-each : goal.decreases-each
decreases-each l = length l.rest
