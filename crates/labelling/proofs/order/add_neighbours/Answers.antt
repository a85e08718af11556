use Rattle.std.proofs.Common.{ℕ, ◌<◌, length, sym, subst, arith}
use Rattle.labelling.proofs.Tables.{first_known, rest_known, added_first, added_more}
use Rattle.labelling.specs.bodies.Sets.{is_before}
use Rattle.labelling.proofs.order.add_neighbours.Goals as goal

pub loop-operation-init : goal.loop-operation-init
loop-operation-init c =
    let sets = c.args.sets.now in
    let P : ℕ → Type 0 = λ m. m < length sets in
    record {
      left = rest_known c.args.list c.in-Some.first c.next.new.self (length sets) c.in-Some.ensures c.requires.messages;
      known = subst P (sym c.message-before.ensures)
          (first_known c.args.list c.in-Some.first c.next.new.self (length sets) c.in-Some.ensures c.requires.messages);
      added = λ a b lt. added_first c.args.list c.in-Some.first c.next.new.self c.message-before.result (is_before sets a b) a b c.in-Some.ensures c.message-before.ensures;
    }

pub loop-operation-preserved : goal.loop-operation-preserved
loop-operation-preserved c =
    let list = c.loop-operation.list in
    let x = c.in-Some-next.operation in
    let rest = c.next-in-loop-operation.new.self in
    let sets = c.args.sets.now in
    let P : ℕ → Type 0 = λ m. m < length sets in
    let known : c.message-after.result < length sets =
    subst P (sym c.message-after.ensures) (first_known list x rest (length sets) c.in-Some-next.ensures c.loop-operation.invariant.left) in
    record {
      left = rest_known list x rest (length sets) c.in-Some-next.ensures c.loop-operation.invariant.left;
      known = known;
      added = λ a b lt. added_more c.loop-operation.sets c.insert.new.self list x rest c.from.result c.message-after.result c.loop-operation.before a b _
          c.from.ensures c.message-after.ensures (omega arith) c.insert.ensures c.in-Some-next.ensures (c.loop-operation.invariant.added a b lt);
    }
