use Rattle.std.proofs.Common.{length}
use Rattle.cell_tree.specs.declared.source.Source.{Source}
use Rattle.cell_parser.specs.Inner.Declaring.{Comes, with_messages}
use Rattle.cell_parser.specs.Inner.Machine.{Messages}
use Rattle.cell_parser.specs.Inner.Reading.{AreTokens}
use Rattle.cell_parser.proofs.program.messages.Given as goal

-- the messages so far have been read up to the rest
abbrev pub invariant-each : goal.invariant-each
invariant-each l = record {
  comes : (s : Source) → Comes l.text (Messages s) l.fn.tokens (Messages (with_messages s l.messages)) l.rest;
  kept : AreTokens l.text l.rest;
}

abbrev pub decreases-each : goal.decreases-each
decreases-each l = length l.rest
