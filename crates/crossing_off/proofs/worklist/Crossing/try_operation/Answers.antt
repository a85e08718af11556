use Rattle.std.proofs.Common.{subst, refl, arith}
use Rattle.crossing_off.specs.bodies.Waiting.{HasAdded}
use Rattle.crossing_off.specs.declared.worklist.Crossing.{Crossing}
use Rattle.crossing_off.proofs.Turn.{cell_left, counted_same, crossed_at, known_left}
use Rattle.crossing_off.proofs.worklist.Crossing.try_operation.Goals as goal

pub advance-requires-clause-cell : goal.advance-requires-clause-cell
advance-requires-clause-cell c =
    let old = c.args.self.now in
    let start : Crossing = record { rests = old.rests; waiting = old.waiting; held = old.held; wanted = old.wanted; order = c.push.new.self } in
    (cell_left c.args.seqs.now c.args.buffer old c.count.new.self.rests.items c.args.operation c.cell_of.result c.requires.under_way
    (c.may_cross.ensures.0 c.if-not-may_cross.false) c.cell_of.ensures (counted_same start c.count.new.self c.args.operation c.count.ensures).0).0

pub advance-requires-clause-some : goal.advance-requires-clause-some
advance-requires-clause-some c =
    let old = c.args.self.now in
    let start : Crossing = record { rests = old.rests; waiting = old.waiting; held = old.held; wanted = old.wanted; order = c.push.new.self } in
    (cell_left c.args.seqs.now c.args.buffer old c.count.new.self.rests.items c.args.operation c.cell_of.result c.requires.under_way
    (c.may_cross.ensures.0 c.if-not-may_cross.false) c.cell_of.ensures (counted_same start c.count.new.self c.args.operation c.count.ensures).0).1

pub advance-requires-clause-known : goal.advance-requires-clause-known
advance-requires-clause-known c =
    let old = c.args.self.now in
    let start : Crossing = record { rests = old.rests; waiting = old.waiting; held = old.held; wanted = old.wanted; order = c.push.new.self } in
    known_left c.args.seqs.now c.args.buffer old c.count.new.self.rests.items c.args.operation c.cell_of.result c.requires.under_way
    (c.may_cross.ensures.0 c.if-not-may_cross.false) c.cell_of.ensures (counted_same start c.count.new.self c.args.operation c.count.ensures).0

pub add-requires : goal.add-requires
add-requires c =
    omega (arith, c.message.ensures, c.requires.popped.known, c.requires.under_way.sound.messages)

pub returns-clause-under_way : goal.returns-clause-under_way
returns-clause-under_way c =
    let old = c.args.self.now in
    let start : Crossing = record { rests = old.rests; waiting = old.waiting; held = old.held; wanted = old.wanted; order = c.push.new.self } in
    let middle = c.advance.new.self in
    let new : Crossing = record { rests = middle.rests; waiting = c.add.new.self; held = middle.held; wanted = middle.wanted; order = middle.order } in
    (crossed_at c.args.seqs.now c.args.buffer old start c.count.new.self middle new c.args.operation c.cell_of.result c.requires.under_way
    c.requires.popped (c.may_cross.ensures.0 c.if-not-may_cross.false) c.cell_of.ensures (record {
      rests = refl;
      waiting = refl;
      held = refl;
      wanted = refl;
      order = c.in_ok-push.ensures.items;
      count = c.count.ensures;
      advance = c.advance.ensures;
      new_rests = refl;
      new_held = refl;
      new_wanted = refl;
      new_order = refl;
      added = subst (HasAdded middle.waiting c.add.new.self) c.message.ensures c.add.ensures;
    })).0

pub returns-clause-complete : goal.returns-clause-complete
returns-clause-complete c =
    let old = c.args.self.now in
    let start : Crossing = record { rests = old.rests; waiting = old.waiting; held = old.held; wanted = old.wanted; order = c.push.new.self } in
    let middle = c.advance.new.self in
    let new : Crossing = record { rests = middle.rests; waiting = c.add.new.self; held = middle.held; wanted = middle.wanted; order = middle.order } in
    (crossed_at c.args.seqs.now c.args.buffer old start c.count.new.self middle new c.args.operation c.cell_of.result c.requires.under_way
    c.requires.popped (c.may_cross.ensures.0 c.if-not-may_cross.false) c.cell_of.ensures (record {
      rests = refl;
      waiting = refl;
      held = refl;
      wanted = refl;
      order = c.in_ok-push.ensures.items;
      count = c.count.ensures;
      advance = c.advance.ensures;
      new_rests = refl;
      new_held = refl;
      new_wanted = refl;
      new_order = refl;
      added = subst (HasAdded middle.waiting c.add.new.self) c.message.ensures c.add.ensures;
    })).1

pub returns-clause-work : goal.returns-clause-work
returns-clause-work c =
    let old = c.args.self.now in
    let start : Crossing = record { rests = old.rests; waiting = old.waiting; held = old.held; wanted = old.wanted; order = c.push.new.self } in
    let middle = c.advance.new.self in
    let new : Crossing = record { rests = middle.rests; waiting = c.add.new.self; held = middle.held; wanted = middle.wanted; order = middle.order } in
    (crossed_at c.args.seqs.now c.args.buffer old start c.count.new.self middle new c.args.operation c.cell_of.result c.requires.under_way
    c.requires.popped (c.may_cross.ensures.0 c.if-not-may_cross.false) c.cell_of.ensures (record {
      rests = refl;
      waiting = refl;
      held = refl;
      wanted = refl;
      order = c.in_ok-push.ensures.items;
      count = c.count.ensures;
      advance = c.advance.ensures;
      new_rests = refl;
      new_held = refl;
      new_wanted = refl;
      new_order = refl;
      added = subst (HasAdded middle.waiting c.add.new.self) c.message.ensures c.add.ensures;
    })).2
