use Rattle.std.proofs.Common.{◌≡◌, ◌-◌, ◌*◌, ◌<◌, ◌≤◌, length, get_or, slice_index, ap, subst, ◌∙◌, arith}
use Rattle.cell_types.specs.Typed.{plain}
use Rattle.comm_sequence.specs.Sequences.{Sequences}
use Rattle.accept.proofs.Moves.{moves_more, moves_all, few_moves}
use Rattle.accept.proofs.bound.forwards.Goals as goal

-- the message is the one at the index
at : (c : goal.After-len) → c.message-item.result ≡ get_or c.args.program.now.messages c.loop-index.index c.message-item.result
at c =
    subst (λ ms. c.message-item.result ≡ get_or ms c.loop-index.index c.message-item.result)
    c.messages-message-items.ensures.messages c.message-item.is

-- the index is that of a message
within : (c : goal.After-len) → c.loop-index.index < length c.args.program.now.messages
within c = omega (arith, ap length c.messages-message-items.ensures.messages, c.loop-index-test.true)

-- the words of one message move at most so often
few : (c : goal.After-len) → c.from-words.result * (c.len.result - 1) ≤ 1095216660225
few c =
    let p = plain c.args.program.now in
    let h = few_moves p c.loop-index.index c.length.result c.message-item.result c.short_routes.ensures (within c) (at c) (omega arith) in
    rw (c.from-words.ensures, c.len.ensures) h

-- there are few messages
index_few : (c : goal.After-len) → c.loop-index.index < 512
index_few c = omega (arith, within c, c.messages-message-items.ensures.sound.few)

pub overflow_mul-forwards : goal.overflow_mul-forwards
overflow_mul-forwards c = omega (arith, few c)

pub overflow_add-forwards : goal.overflow_add-forwards
overflow_add-forwards c = omega (arith, few c, index_few c, c.loop-index.invariant.small)

pub loop-index-preserved : goal.loop-index-preserved
loop-index-preserved c =
    let p = plain c.args.program.now in
    let counted = c.length.ensures.length ∙ ap (λ (s : Sequences). slice_index s.lengths c.loop-index.index) c.requires.seqs in
    let more = moves_more p c.loop-index.index c.length.result c.message-item.result (within c) (at c) counted in
    record {
      sum = rw (c.from-words.ensures, c.len.ensures, c.loop-index.invariant.sum) more;
      small = omega (arith, few c, c.loop-index.invariant.small);
    }

pub returns : goal.returns
returns c =
    c.loop-index.invariant.sum
    ∙ moves_all (plain c.args.program.now) c.loop-index.index
    (omega (arith, ap length c.messages-message-items.ensures.messages, c.loop-index-test.false))
