use Rattle.std.proofs.Common.{◌≤◌, length}
use Rattle.cell_tree.specs.declared.source.CellDecl.{CellDecl}
use Rattle.cell_tree.specs.declared.source.Source.{Source}
use Rattle.cell_parser.specs.Inner.Declaring.{Comes, with_vars}
use Rattle.cell_parser.specs.Inner.Machine.{Vars}
use Rattle.cell_parser.specs.Inner.Reading.{AreTokens}
use Rattle.cell_parser.proofs.declaration.variables.Given as goal

-- the variables so far have been read up to the rest
abbrev pub invariant-each : goal.invariant-each
invariant-each l = record {
  comes : (s : Source) (c : CellDecl) → Comes l.text (Vars s c) l.fn.tokens (Vars s (with_vars c l.vars)) l.rest;
  shorter : length l.rest ≤ length l.fn.tokens;
  kept : AreTokens l.text l.rest;
}

abbrev pub decreases-each : goal.decreases-each
decreases-each l = length l.rest
