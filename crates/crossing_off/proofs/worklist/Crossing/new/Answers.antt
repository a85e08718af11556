use Rattle.std.proofs.Common.{◌≡◌, ◌+◌, ◌++◌, ◌∷◌, [], List, ℕ, length, slice_get, sym, ◌∙◌, ap, subst, arith}
use Rattle.comm_sequence.specs.declared.comm.Comm.{Comm}
use Rattle.crossing_off.specs.Greedy.{rest}
use Rattle.crossing_off.proofs.Ends.{first_may_wait, rest_may_wait}
use Rattle.crossing_off.proofs.Start.{IsStarted, started_more, complete_start}
use Rattle.crossing_off.proofs.worklist.Crossing.new.Goals as goal

pub note-requires : goal.note-requires
note-requires c =
    let s = c.args.seqs.now in
    let cell = c.loop-cell.cell in
    let is : c.new-rest.result ≡ rest s [] cell = c.new-rest.ensures ∙ c.cursor.ensures.list in
    first_may_wait 0 (rest s [] cell) c.front.result
    (rest_may_wait s [] cell c.cursor.ensures.kept (omega (arith, c.loop-cell-test.true, c.cells-cell-end.ensures.cells)))
    (c.front.ensures ∙ ap (λ xs. slice_get xs 0) is)

pub loop-cell-preserved : goal.loop-cell-preserved
loop-cell-preserved c =
    let s = c.args.seqs.now in
    let cell = c.loop-cell.cell in
    let old = c.loop-cell.crossing in
    let new = c.note.new.self in
    let is : c.new-rest.result ≡ rest s [] cell = c.new-rest.ensures ∙ c.cursor.ensures.list in
    let front = sym (c.front.ensures ∙ ap (λ xs. slice_get xs 0) is) in
    let P : List (List Comm) → Type 0 = λ rests. IsStarted s rests new old.held.items old.wanted.items old.order.items (cell + 1) in
    let items = c.in_ok-push.ensures.items ∙ ap (λ x. old.rests.items ++ x ∷ []) is in
    subst P (sym items)
    (started_more s old.rests.items old.waiting new old.held.items old.wanted.items old.order.items cell c.front.result
    (omega (arith, c.loop-cell-test.true, c.cells-cell-end.ensures.cells)) c.loop-cell.invariant front c.note.ensures)

pub returns-clause-complete : goal.returns-clause-complete
returns-clause-complete c =
    let s = c.args.seqs.now in
    let now = c.loop-cell.crossing in
    let P : ℕ → Type 0 = λ n. IsStarted s now.rests.items now.waiting now.held.items now.wanted.items now.order.items n in
    let all : c.loop-cell.cell ≡ length s.lists = omega (arith, c.loop-cell-test.false, c.loop-cell.auto.cell-end, c.cells-cell-end.ensures.cells) in
    complete_start s c.args.buffer now (subst P all c.loop-cell.invariant)
