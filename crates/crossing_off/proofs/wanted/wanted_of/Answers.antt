use Rattle.std.proofs.Common.{◌≡◌, ◌+◌, ◌<◌, ◌∙◌, length, slice_index, ap, rules, arith}
use Rattle.std.proofs.lemmas.List.{places, with_items_is}
use Rattle.std.proofs.lemmas.Option.{slice_get_within}
use Rattle.comm_sequence.specs.BufferedOrder.{occurrences}
use Rattle.comm_sequence.specs.declared.comm.Comm.TheVariants.{Read}
use Rattle.crossing_off.proofs.Lists.{is_there}
use Rattle.crossing_off.proofs.ReadSoFar.{wanted_all, wanted_more, wanted_room}
use Rattle.crossing_off.proofs.wanted.wanted_of.Goals as goal

pub count_reads-requires-clause-room : goal.count_reads-requires-clause-room
count_reads-requires-clause-room c = λ m l.
    let s = c.args.seqs.now in
    let sound = c.cells-cell-end.ensures.kept in
    let cell = c.loop-cell.cell in
    let within : cell < length s.lists = omega (arith, c.loop-cell-test.true, c.cells-cell-end.ensures.cells) in
    let e = is_there s.ends m (omega (arith, l, ap length c.deref_mut.ensures.value, c.loop-cell.invariant.size)) in
    let room = wanted_room s m e.0 cell (slice_index c.loop-cell.wanted.items m) sound within e.1 (c.loop-cell.invariant.counted m e.0 e.1) in
    omega (arith, room, ap (λ xs. slice_index xs m) c.deref_mut.ensures.value, ap length c.cursor.ensures.list)

pub loop-cell-preserved : goal.loop-cell-preserved
loop-cell-preserved c =
    let s = c.args.seqs.now in
    let sound = c.cells-cell-end.ensures.kept in
    let cell = c.loop-cell.cell in
    let within : cell < length s.lists = omega (arith, c.loop-cell-test.true, c.cells-cell-end.ensures.cells) in
    let long : length c.count_reads.new.wanted ≡ length c.loop-cell.wanted.items =
    omega (arith, c.count_reads.auto.wanted, ap length c.deref_mut.ensures.value) in
    let now = with_items_is c.loop-cell.wanted c.count_reads.new.wanted (search (rules, places)) in
    record {
      size = ap length now ∙ long ∙ c.loop-cell.invariant.size;
      counted = λ m e at.
          let l : m < length c.deref_mut.result.now =
          omega (arith, slice_get_within s.ends m e at, ap length c.deref_mut.ensures.value, c.loop-cell.invariant.size) in
          let more = wanted_more s m e cell (slice_index c.loop-cell.wanted.items m) sound within at (c.loop-cell.invariant.counted m e at) in
          ap (λ xs. slice_index xs m) now ∙ c.count_reads.ensures m l
          ∙ ap (λ xs. slice_index xs m + occurrences (Read m) c.cursor.result) c.deref_mut.ensures.value
          ∙ ap (λ xs. slice_index c.loop-cell.wanted.items m + occurrences (Read m) xs) c.cursor.ensures.list ∙ more;
    }

pub returns-clause-reads : goal.returns-clause-reads
returns-clause-reads c = λ m l.
    let s = c.args.seqs.now in
    let e = is_there s.ends m (omega (arith, l, c.loop-cell.invariant.size)) in
    c.loop-cell.invariant.counted m e.0 e.1
    ∙ wanted_all s m e.0 c.loop-cell.cell c.cells-cell-end.ensures.kept e.1 (omega (arith, c.loop-cell-test.false, c.cells-cell-end.ensures.cells))
