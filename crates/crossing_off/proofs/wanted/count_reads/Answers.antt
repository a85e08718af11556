use Rattle.std.proofs.Common.{◌≡◌, ◌<◌, ◌∙◌, length, ap, arith}
use Rattle.comm_sequence.specs.Sequences.{message_of}
use Rattle.crossing_off.proofs.ReadSoFar.{grows, no_read, one_read, rest_known}
use Rattle.crossing_off.proofs.wanted.count_reads.Goals as goal

pub loop-operation-preserved-in-Read : goal.loop-operation-preserved-in-Read
loop-operation-preserved-in-Read c =
    let n = length c.args.wanted.now in
    let now = c.loop-operation.wanted in
    let list = c.loop-operation.list in
    let rest = c.next.new.self in
    let x = c.in-Some.operation in
    let m = c.in-Read.message in
    let known = rest_known n list rest x c.in-Some.ensures c.loop-operation.invariant.messages in
    let at : c.from.result ≡ m = c.from.ensures in
    let here : c.from.result < length now = omega (arith, at, known.0, ap message_of c.in-Read.is, c.loop-operation.auto.wanted) in
    let long = ap length c.in-Some.ensures in
    record {
      messages = known.1;
      room = λ k l. let r = c.loop-operation.invariant.room k l in omega (arith, r, grows now c.from.result k here, long);
      counted = λ k l.
          one_read now list rest x m c.from.result k c.in-Some.ensures c.in-Read.is at here ∙ c.loop-operation.invariant.counted k l;
    }

pub loop-operation-preserved : goal.loop-operation-preserved
loop-operation-preserved c =
    let n = length c.args.wanted.now in
    let list = c.loop-operation.list in
    let rest = c.next.new.self in
    let x = c.in-Some.operation in
    let known = rest_known n list rest x c.in-Some.ensures c.loop-operation.invariant.messages in
    let long = ap length c.in-Some.ensures in
    record {
      messages = known.1;
      room = λ k l. let r = c.loop-operation.invariant.room k l in omega (arith, r, long);
      counted = λ k l.
          let same = no_read list rest x k c.in-Some.ensures (λ m e. c.in_default-operation.not-Read m e) in
          let old = c.loop-operation.invariant.counted k l in
          omega (arith, same, old);
    }
