use Rattle.std.proofs.Common.{◌∙◌, ap, sym, arith}
use Rattle.std.proofs.lemmas.Bool.{false≢true}
use Rattle.comm_sequence.specs.Sequences.{message_of}
use Rattle.crossing_off.proofs.Tests.{cell_there, first_is, held_at, may_read, may_write, may_first, no_room}
use Rattle.crossing_off.proofs.worklist.Crossing.may_cross.Goals as goal

pub is_first-requires : goal.is_first-requires
is_first-requires c = cell_there c.args.seqs.now c.args.buffer c.args.self.now c.args.operation c.cell_of.result c.requires.under_way c.cell_of.ensures

pub returns-then-not-is_first : goal.returns-then-not-is_first
returns-then-not-is_first c =
    let is = first_is c.args.seqs.now c.args.buffer c.args.self.now c.args.operation c.cell_of.result c.requires.under_way c.cell_of.ensures in (
      λ t. absurd (false≢true t),
      λ may. absurd (false≢true (sym c.if-not-is_first.true ∙ c.is_first.ensures.1 (is.1 (may_first c.args.seqs.now c.args.buffer c.args.self.now.order.items c.args.operation may)))),
    )

pub returns-in-Read : goal.returns-in-Read
returns-in-Read c =
    let is = first_is c.args.seqs.now c.args.buffer c.args.self.now c.args.operation c.cell_of.result c.requires.under_way c.cell_of.ensures in
    let front = is.0 (c.is_first.ensures.0 c.if-not-is_first.false) in
    may_read c.args.seqs.now c.args.buffer c.args.self.now c.args.operation c.in-Read.field-0 c.index-held.result.now c.requires.under_way c.requires.known c.in-Read.is front
    (held_at c.args.seqs.now c.args.buffer c.args.self.now c.args.operation c.in-Read.field-0 c.from.result c.message.result c.index-held.result.now c.requires.under_way c.requires.known c.from.ensures c.message.ensures (ap message_of c.in-Read.is) c.index-held.ensures)

pub returns-then-held-max : goal.returns-then-held-max
returns-then-held-max c =
    let is = first_is c.args.seqs.now c.args.buffer c.args.self.now c.args.operation c.cell_of.result c.requires.under_way c.cell_of.ensures in
    let front = is.0 (c.is_first.ensures.0 c.if-not-is_first.false) in
    may_write c.args.seqs.now c.args.buffer c.args.self.now c.args.operation c.in-Write.message c.index-held.result.now c.max.result c.is_wanted.result c.requires.under_way c.requires.known c.in-Write.is front
    (held_at c.args.seqs.now c.args.buffer c.args.self.now c.args.operation c.in-Write.message c.from.result c.message.result c.index-held.result.now c.requires.under_way c.requires.known c.from.ensures c.message.ensures (ap message_of c.in-Write.is) c.index-held.ensures)
    (omega (arith, c.max.ensures)) c.if-held-max.true c.is_wanted.ensures

pub returns-else-held-max : goal.returns-else-held-max
returns-else-held-max c =
    no_room c.args.seqs.now c.args.buffer c.args.self.now c.args.operation c.in-Write.message c.index-held.result.now c.max.result c.requires.under_way c.requires.known c.in-Write.is
    (held_at c.args.seqs.now c.args.buffer c.args.self.now c.args.operation c.in-Write.message c.from.result c.message.result c.index-held.result.now c.requires.under_way c.requires.known c.from.ensures c.message.ensures (ap message_of c.in-Write.is) c.index-held.ensures)
    (omega (arith, c.max.ensures)) c.if-held-max.false
