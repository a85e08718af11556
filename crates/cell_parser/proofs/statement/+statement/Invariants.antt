use Rattle.std.proofs.Common.{◌≡◌, ◌+◌, ◌*◌, ◌≤◌, [], length}
use Rattle.cell_parser.specs.Lexeme.{lexemes}
use Rattle.cell_parser.specs.Inner.Machine.{Around, Body, run}
use Rattle.cell_parser.specs.Inner.Reading.{AreTokens}
use Rattle.cell_parser.proofs.statement.+statement.Given as goal

abbrev pub decreases-body : goal.decreases-body
decreases-body l = 4 * length l.tokens.now + 3

abbrev pub decreases-statement : goal.decreases-statement
decreases-statement l = 4 * length l.tokens.now + 2

abbrev pub decreases-keyed : goal.decreases-keyed
decreases-keyed l = 4 * length l.tokens.now + 1

abbrev pub decreases-for_loop : goal.decreases-for_loop
decreases-for_loop l = 4 * length l.tokens.now

abbrev pub decreases-choice : goal.decreases-choice
decreases-choice l = 4 * length l.tokens.now

abbrev pub decreases-block : goal.decreases-block
decreases-block l = 4 * length l.tokens.now

abbrev pub invariant-body-each : goal.invariant-body-each
invariant-body-each l = record {
  read : (around : Around) → run (Body [] around) (lexemes l.text l.fn.tokens) ≡ run (Body l.body around) (lexemes l.text l.rest);
  shorter : length l.rest ≤ length l.fn.tokens;
  kept : AreTokens l.text l.rest;
}

abbrev pub decreases-body-each : goal.decreases-body-each
decreases-body-each l = length l.rest
