use Rattle.std.proofs.Common.{map, ap, sym, subst, ◌∙◌}
use Rattle.std.proofs.lemmas.Result.{err_from_is_err_and}
use Rattle.cell_types.specs.Typed.{block_of, plain}
use Rattle.cell_types.specs.declared.cell.Cell.{Cell}
use Rattle.comm_sequence.specs.Differing.{all_differing, differing, IsFirst}
use Rattle.comm_sequence.specs.bodies.Unrolling.{IsShallow}
use Rattle.comm_sequence.proofs.Cells.{first_at}
use Rattle.comm_sequence.proofs.Unrolled.{cell_shallow}
use Rattle.comm_sequence.proofs.gathering.parts_of.Goals as goal

pub parts_of_cell-requires : goal.parts_of_cell-requires
parts_of_cell-requires c =
    let body = c.as_slice.ensures.value ∙ ap (λ (cell : Cell). cell.body.items) c.cell-item.is in
    subst (λ xs. IsShallow (block_of xs)) (sym body)
    (cell_shallow c.args.program.now c.cells-cell-items.result.now c.loop-index.index c.cell-item.result c.cells-cell-items.ensures.sound
    c.cells-cell-items.ensures.cells c.loop-index-test.true)

pub returns-in_err-parts_of_cell-clause-first : goal.returns-in_err-parts_of_cell-clause-first
returns-in_err-parts_of_cell-clause-first c =
    let p = err_from_is_err_and c.from_residual.result c.from_residual.ensures.1 in
    let i = c.loop-index.index in
    let body = c.as_slice.ensures.value ∙ ap (λ (cell : Cell). cell.body.items) c.cell-item.is in
    let e = c.in_err-parts_of_cell.field-0.0 in
    rw (p.1, p.2)
    (first_at c.cells-cell-items.result.now i c.cell-item.result (all_differing (plain c.args.program.now)) e c.loop-index-test.true
    c.loop-index.invariant.differing
    (subst (λ xs. IsFirst (map (λ line. (i, line)) (differing (block_of xs))) e) body c.in_err-parts_of_cell.ensures.first))
