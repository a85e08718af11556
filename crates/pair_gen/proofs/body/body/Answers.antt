use Rattle.std.proofs.Common.{arith, length, take, ap, ◌∙◌}
use Rattle.std.proofs.lemmas.List.{take_all}
use Rattle.pair_gen.specs.Generated.{cell_acts}
use Rattle.pair_gen.proofs.Lines.{body_step, body_end, few_acts, length-on_lines}
use Rattle.pair_gen.proofs.body.body.Goals as goal

pub loop-message-preserved : goal.loop-message-preserved
loop-message-preserved c = (
  body_step c.args.line c.args.cell c.args.drawn.now c.loop-message.message-index c.loop-message.body c.add_pair.new.body
      (omega arith) c.loop-message.invariant.0 c.in_ok-add_pair.ensures.acts,
  omega (arith, c.in_ok-add_pair.ensures.few),
)

pub returns-clause-is : goal.returns-clause-is
returns-clause-is c =
    body_end c.args.line c.args.cell c.args.drawn.now (take c.loop-message.message-index c.args.drawn.now) c.loop-message.body c.add-2.new.body c.in_ok-emit.field-0
    (take_all c.loop-message.message-index c.args.drawn.now (omega arith)) c.in_ok-emit.ensures c.loop-message.invariant.0 c.in_ok-add-2.ensures

pub returns-clause-count : goal.returns-clause-count
returns-clause-count c =
    let is = body_end c.args.line c.args.cell c.args.drawn.now (take c.loop-message.message-index c.args.drawn.now) c.loop-message.body c.add-2.new.body c.in_ok-emit.field-0
    (take_all c.loop-message.message-index c.args.drawn.now (omega arith)) c.in_ok-emit.ensures c.loop-message.invariant.0 c.in_ok-add-2.ensures in
    ap length is ∙ length-on_lines c.args.line (cell_acts c.args.drawn.now c.args.cell)

pub returns-clause-few : goal.returns-clause-few
returns-clause-few c =
    let is = body_end c.args.line c.args.cell c.args.drawn.now (take c.loop-message.message-index c.args.drawn.now) c.loop-message.body c.add-2.new.body c.in_ok-emit.field-0
    (take_all c.loop-message.message-index c.args.drawn.now (omega arith)) c.in_ok-emit.ensures c.loop-message.invariant.0 c.in_ok-add-2.ensures in
    omega (arith, ap length is ∙ length-on_lines c.args.line (cell_acts c.args.drawn.now c.args.cell), few_acts c.args.drawn.now c.args.cell)
