use Rattle.std.proofs.Common.{◌≡◌, ◌∙◌, get_or, ap, subst, sym}
use Rattle.cell_code.specs.ShapedCells.{IsShapedCell}
use Rattle.cell_types.specs.Solo.{code_of}
use Rattle.cell_types.specs.Typed.{plain, block_of}
use Rattle.cell_codegen.specs.Bounds.{SmallBlock}
use Rattle.cell_codegen.specs.Emission.{body_code}
use Rattle.cell_codegen.specs.Following.{Follows}
use Rattle.cell_codegen.specs.Shapes.{IsSoundCode, cell_image}
use Rattle.cell_codegen.proofs.Found.{if_ok, is_small, is_followed, communicates, is_sound_code, is_shaped}
use Rattle.cell_codegen.proofs.cells.emit_cell.Goals as goal

pub emit_body-requires-clause-small : goal.emit_body-requires-clause-small
emit_body-requires-clause-small c =
    let x = c.index-cells-from.result in
    let is = subst (λ i. x ≡ get_or c.cells-cells.result.now i x) c.from.ensures c.index-cells-from.is in
    let e = ap block_of (c.as_slice.ensures.value ∙ ap (λ y. y.body.items) (sym c.index-cells-from.is)) in
    subst SmallBlock (sym e)
    (is_small c.args.program.now c.args.cell x c.requires.cell c.cells-cells.result.now c.cells-cells.ensures.cells is c.cells-cells.ensures.sound)

pub returns-clause-follows : goal.returns-clause-follows
returns-clause-follows c =
    let x = c.index-cells-from.result in
    let is = subst (λ i. x ≡ get_or c.cells-cells.result.now i x) c.from.ensures c.index-cells-from.is in
    let e = ap block_of (c.as_slice.ensures.value ∙ ap (λ y. y.body.items) (sym c.index-cells-from.is)) in
    let all = is_followed c.args.program.now c.args.cell x c.requires.cell c.cells-cells.result.now c.cells-cells.ensures.cells is
    c.cells-cells.ensures.sound in
    if_ok c.emit_body.result _ _
    (λ code h input streams.
    subst (λ is. Follows is (plain c.args.program.now) c.args.cell input streams) (ap body_code (sym e) ∙ sym h) (all input streams))
    c.emit_body.ensures

pub returns-clause-communicates : goal.returns-clause-communicates
returns-clause-communicates c =
    let x = c.index-cells-from.result in
    let is = subst (λ i. x ≡ get_or c.cells-cells.result.now i x) c.from.ensures c.index-cells-from.is in
    communicates c.args.program.now c.args.cell x c.requires.cell c.cells-cells.result.now c.cells-cells.ensures.cells is
    c.cells-cells.ensures.sound

pub returns-clause-sound : goal.returns-clause-sound
returns-clause-sound c =
    let x = c.index-cells-from.result in
    let is = subst (λ i. x ≡ get_or c.cells-cells.result.now i x) c.from.ensures c.index-cells-from.is in
    let e = ap block_of (c.as_slice.ensures.value ∙ ap (λ y. y.body.items) (sym c.index-cells-from.is)) in
    let all = is_sound_code c.args.program.now c.args.cell x c.requires.cell c.cells-cells.result.now c.cells-cells.ensures.cells is
    c.cells-cells.ensures.sound in
    if_ok c.emit_body.result _ _
    (λ code h. subst (λ is. IsSoundCode (code_of (plain c.args.program.now) c.args.cell) is) (ap body_code (sym e) ∙ sym h) all)
    c.emit_body.ensures

pub returns-clause-shaped : goal.returns-clause-shaped
returns-clause-shaped c =
    let x = c.index-cells-from.result in
    let is = subst (λ i. x ≡ get_or c.cells-cells.result.now i x) c.from.ensures c.index-cells-from.is in
    let e = ap block_of (c.as_slice.ensures.value ∙ ap (λ y. y.body.items) (sym c.index-cells-from.is)) in
    let all = is_shaped c.args.program.now c.args.cell x c.requires.cell c.cells-cells.result.now c.cells-cells.ensures.cells is
    c.cells-cells.ensures.sound in
    if_ok c.emit_body.result _ _
    (λ code h alike.
    subst (λ is. IsShapedCell (cell_image (plain c.args.program.now) c.args.cell is)) (ap body_code (sym e) ∙ sym h) (all alike))
    c.emit_body.ensures
