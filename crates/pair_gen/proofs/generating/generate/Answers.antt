use Rattle.pair_gen.proofs.Made.{made}
use Rattle.pair_gen.proofs.generating.generate.Goals as goal

pub returns : goal.returns
returns c =
    made c.args.seed c.args.pairs c.in_ok-drawn.drawn.items c.deref.result.now c.new-2.result c.in_ok-message_declarations.field-0 c.in_ok-cells.field-0
    c.in_ok-drawn.ensures.drawn c.deref.ensures.value c.new-2.ensures c.in_ok-message_declarations.ensures c.in_ok-cells.ensures
