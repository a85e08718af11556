use Rattle.std.proofs.Common.{◌≡◌, ◌∙◌, get_or, subst, List}
use Rattle.cell_types.specs.declared.cell.Cell.{Cell}
use Rattle.image_build.proofs.EachCell.{cell_is, in_grid, in_lists}
use Rattle.image_build.proofs.cells.cell_image.Goals as goal

pub emit_cell-requires-clause-cell : goal.emit_cell-requires-clause-cell
emit_cell-requires-clause-cell c = in_grid c.args.program.now c.args.cell c.cells.ensures.sound c.requires.cell

pub takes-requires : goal.takes-requires
takes-requires c = in_lists c.args.program.now c.args.seqs.now c.args.cell c.requires.seqs c.requires.cell

pub emits-requires : goal.emits-requires
emits-requires c = in_lists c.args.program.now c.args.seqs.now c.args.cell c.requires.seqs c.requires.cell

pub returns : goal.returns
returns c =
    let x = c.index-cells-from.result in
    let is = subst (λ i. x ≡ get_or c.cells.result.now i x) c.from.ensures c.index-cells-from.is in
    let at = subst (λ (ys : List Cell). x ≡ get_or ys c.args.cell x) c.cells.ensures.cells is in
    cell_is c.args.program.now c.args.seqs.now c.args.cell x _ _ _ c.requires.seqs c.requires.cell at
    c.takes.ensures.takes c.emits.ensures.emits (c.from_vec-code.ensures ∙ c.in_ok-emit_cell.ensures.code)
