use Rattle.std.proofs.Common.{◌≡◌, ◌+◌, ◌*◌, ◌<◌, length}
use Rattle.cell_parser.specs.Lexeme.{lexemes}
use Rattle.cell_parser.specs.Inner.Machine.{Open, Have, Terms, Sums, run}
use Rattle.cell_parser.specs.Inner.Reading.{AreTokens, a_term, a_sum}
use Rattle.cell_parser.proofs.expression.+expression.Given as goal

abbrev pub decreases-expression : goal.decreases-expression
decreases-expression l = 7 * length l.tokens.now + 6

abbrev pub decreases-whole : goal.decreases-whole
decreases-whole l = 7 * length l.tokens.now + 5

abbrev pub decreases-sum : goal.decreases-sum
decreases-sum l = 7 * length l.tokens.now + 4

abbrev pub decreases-term : goal.decreases-term
decreases-term l = 7 * length l.tokens.now + 3

abbrev pub decreases-unary : goal.decreases-unary
decreases-unary l = 7 * length l.tokens.now + 2

abbrev pub decreases-atom : goal.decreases-atom
decreases-atom l = 7 * length l.tokens.now + 1

abbrev pub decreases-called : goal.decreases-called
decreases-called l = 7 * length l.tokens.now

abbrev pub invariant-sum-each : goal.invariant-sum-each
invariant-sum-each l = record {
  read : (k : Open) → run (a_sum k) (lexemes l.text l.fn.tokens) ≡ run (Have l.left (Sums k)) (lexemes l.text l.rest);
  shorter : length l.rest < length l.fn.tokens;
  kept : AreTokens l.text l.rest;
}

abbrev pub decreases-sum-each : goal.decreases-sum-each
decreases-sum-each l = length l.rest

abbrev pub invariant-term-each : goal.invariant-term-each
invariant-term-each l = record {
  read : (k : Open) → run (a_term k) (lexemes l.text l.fn.tokens) ≡ run (Have l.left (Terms k)) (lexemes l.text l.rest);
  shorter : length l.rest < length l.fn.tokens;
  kept : AreTokens l.text l.rest;
}

abbrev pub decreases-term-each : goal.decreases-term-each
decreases-term-each l = length l.rest
