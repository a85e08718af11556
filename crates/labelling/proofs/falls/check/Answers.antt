use Rattle.std.proofs.Common.{List, [], get_or, subst, refl, below_more, arith}
use Rattle.std.proofs.lemmas.Bool.{false≢true}
use Rattle.comm_sequence.specs.declared.comm.Comm.{Comm}
use Rattle.labelling.proofs.Falling.{consistent_where_none, not_where_one_falls, fall_of}
use Rattle.labelling.specs.Falls.{NeverFalls}
use Rattle.labelling.proofs.falls.check.Goals as goal

pub returns-in-Some-clause-fall : goal.returns-in-Some-clause-fall
returns-in-Some-clause-fall c =
    let h = c.in-Some.ensures in
    fall_of c.args.seqs.now.lists c.args.labels.now c.in-Some.fall c.loop-cell.cell c.cursor.result h.0 c.cursor.ensures.list h.1 h.2
    c.loop-cell.invariant

pub returns-in-Some-clause-consistent : goal.returns-in-Some-clause-consistent
returns-in-Some-clause-consistent c = (
  λ no. absurd (no refl),
  λ consistent e.
      let h = c.in-Some.ensures in
      not_where_one_falls c.args.seqs.now.lists c.args.labels.now c.in-Some.fall
      (fall_of c.args.seqs.now.lists c.args.labels.now c.in-Some.fall c.loop-cell.cell c.cursor.result h.0 c.cursor.ensures.list h.1 h.2
      c.loop-cell.invariant)
      consistent,
)

pub loop-cell-preserved : goal.loop-cell-preserved
loop-cell-preserved c =
    let P : List Comm → Type 0 = λ list. NeverFalls list c.args.labels.now in
    below_more (λ cell. NeverFalls (get_or c.args.seqs.now.lists cell []) c.args.labels.now) c.loop-cell.cell c.loop-cell.invariant
    (subst P c.cursor.ensures.list c.in_default.ensures)

pub returns-clause-consistent : goal.returns-clause-consistent
returns-clause-consistent c = (
  λ no. consistent_where_none c.args.seqs.now.lists c.args.labels.now (λ cell lt. c.loop-cell.invariant cell (omega arith)),
  λ consistent e. false≢true e,
)
