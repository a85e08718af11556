use Rattle.std.proofs.Common.{arith}
use Rattle.cell_lexer.specs.Forms.{greatest}
use Rattle.cell_lexer.proofs.Values.{value_above}
use Rattle.cell_lexer.proofs.numbers.number.Goals as goal

pub returns-then-n-digit-clause-big : goal.returns-then-n-digit-clause-big
returns-then-n-digit-clause-big c =
    let ds = c.args.digits.now in
    let above = value_above c.loop-byte.n c.loop-byte.byte-index greatest ds c.loop-byte-test.true (omega arith) in
    omega (arith, above, c.loop-byte.invariant.1)
