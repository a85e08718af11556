use Rattle.std.proofs.Common.{◌≡◌, ◌<◌, ◌≤◌, arith, length, true, List, [], ◌∷◌, ◌++◌, ◌+◌, map, take, set, refl, sym, ap, subst, ◌∙◌, rules, append-nil, append_assoc}
use Rattle.std.proofs.lemmas.List.{length_push, length-map, length-set, map-set, nil_from_length}
use Rattle.std.proofs.lemmas.Result.{err_from_is_err_and}
use Rattle.std.specs.Vec.Iter.{into_iter_items}
use Rattle.sys_base.specs.Grid.{cell_count}
use Rattle.cell_tree.specs.Depth.{cell_loops, cell_stack}
use Rattle.cell_types.specs.bodies.Declarations.{place_faults, HasMarks}
use Rattle.cell_types.specs.Faults.{IsFirst}
use Rattle.cell_types.specs.Names.{cell_index, extent_of, named_message}
use Rattle.cell_types.specs.bodies.Tables.{named_in}
use Rattle.cell_types.specs.Typed.{plain_cell}
use Rattle.cell_types.specs.Written.{WrittenCell, written, written_cell}
use Rattle.cell_types.proofs.CellLoop.{CellsSoFar, cell_taken, cells_all, cells_more, holds_of_taken, inner_stops, none_taken, place_stops}
use Rattle.cell_types.proofs.declared_cells.resolve_cells.Goals as goal

pub loop-cell-init : goal.loop-cell-init
loop-cell-init c =
    let given = c.into_iter-cell-iterator.ensures.into_iter_gives in (
      none_taken c.args.grid.now (named_in c.args.messages.now) c.args.declared (into_iter_items c.into_iter-cell-iterator.result)
          c.from-count.result c.in_ok-marks.marks.items (map plain_cell c.in_ok-cells.cells.items)
          (c.from-count.ensures ∙ c.cells.ensures.cells) (given.0 ∙ c.into_vec-cell-items.ensures) (search rules) c.in_ok-cells.ensures.cells,
      search rules,
    )

pub declare_cell-requires : goal.declare_cell-requires
declare_cell-requires c = c.loop-cell.invariant.0.marks_count

pub resolve_cell-requires-clause-stack : goal.resolve_cell-requires-clause-stack
resolve_cell-requires-clause-stack c =
    holds_of_taken (λ cell. cell_stack cell ≤ 256) c.args.declared c.loop-cell.yielded (into_iter_items c.next.new.self) c.in-Some.cell
    (c.loop-cell.invariant.0.all ∙ ap (λ left. c.loop-cell.yielded ++ left) c.in-Some.ensures.steps.0) c.requires.stack

pub resolve_cell-requires-clause-loops : goal.resolve_cell-requires-clause-loops
resolve_cell-requires-clause-loops c =
    holds_of_taken (λ cell. cell_loops cell ≤ 16) c.args.declared c.loop-cell.yielded (into_iter_items c.next.new.self) c.in-Some.cell
    (c.loop-cell.invariant.0.all ∙ ap (λ left. c.loop-cell.yielded ++ left) c.in-Some.ensures.steps.0) c.requires.loops

pub index_mut-requires : goal.index_mut-requires
index_mut-requires c =
    omega (arith, c.loop-cell.invariant.0.codes_count, length-map c.loop-cell.cells.items plain_cell, c.in_ok-index.ensures.index.1, c.from.ensures)

pub returns-in_err-index : goal.returns-in_err-index
returns-in_err-index c source same_grid same_cells same_messages =
    let cell = c.in-Some.cell in
    let taken = c.loop-cell.yielded in
    let so_far = c.loop-cell.invariant.0.so_far source same_grid same_cells same_messages in
    let read = cell_taken source c.args.declared taken (into_iter_items c.next.new.self) cell same_cells
    (c.loop-cell.invariant.0.all ∙ ap (λ left. taken ++ left) c.in-Some.ensures.steps.0) in
    let p = err_from_is_err_and c.from_residual-in_err-index.result c.from_residual-in_err-index.ensures.1 in
    rw (p.1, p.2) (place_stops (written source) (named_in c.args.messages.now)
    (same_messages ∙ ap (λ h. map (named_message h) source.messages) same_grid) cell
    (cell_index (extent_of (written source)) cell.place) refl
    c.loop-cell.marks.items (map plain_cell c.loop-cell.cells.items) (length taken) so_far read.0 read.1 _
    (subst (λ h. (earlier : List WrittenCell) → HasMarks h earlier c.loop-cell.marks.items
    → IsFirst (place_faults h earlier cell.place cell.line) c.in_err-index.field-0.0) same_grid c.in_err-index.ensures.faults
    (take (length taken) (written source).cells) so_far.marked))

pub returns-in_err-cells-2 : goal.returns-in_err-cells-2
returns-in_err-cells-2 c source same_grid same_cells same_messages =
    let cell = c.in-Some.cell in
    let taken = c.loop-cell.yielded in
    let so_far = c.loop-cell.invariant.0.so_far source same_grid same_cells same_messages in
    let read = cell_taken source c.args.declared taken (into_iter_items c.next.new.self) cell same_cells
    (c.loop-cell.invariant.0.all ∙ ap (λ left. taken ++ left) c.in-Some.ensures.steps.0) in
    let p = err_from_is_err_and c.from_residual-in_err-cells-2.result c.from_residual-in_err-cells-2.ensures.1 in
    rw (p.1, p.2) (inner_stops (written source) (named_in c.args.messages.now)
    (same_messages ∙ ap (λ h. map (named_message h) source.messages) same_grid) cell
    c.in_ok-index.index (c.in_ok-index.ensures.index.0 ∙ ap (λ h. cell_index h cell.place) same_grid)
    c.loop-cell.marks.items (map plain_cell c.loop-cell.cells.items) (length taken) so_far read.0 read.1 _
    (subst (λ h. (earlier : List WrittenCell) → HasMarks h earlier c.loop-cell.marks.items
    → place_faults h earlier cell.place cell.line ≡ []) same_grid c.in_ok-index.ensures.faults
    (take (length taken) (written source).cells) so_far.marked) c.in_err-cells-2.ensures)

pub loop-cell-preserved : goal.loop-cell-preserved
loop-cell-preserved c =
    let cell = c.in-Some.cell in
    let taken = c.loop-cell.yielded in
    let rest = into_iter_items c.next.new.self in
    let index = c.in_ok-index.index in
    let made = c.in_ok-cells-2.field-0 in
    let before = c.loop-cell.invariant.0 in
    let all = before.all ∙ ap (λ left. taken ++ left) c.in-Some.ensures.steps.0 in
    let marks = c.in_ok-index.ensures.index.2 in
    let codes = ap (λ k. map plain_cell (set c.loop-cell.cells.items k made)) c.from.ensures ∙ map-set plain_cell c.loop-cell.cells.items index made in (
      record {
        all = all ∙ sym (append_assoc taken (cell ∷ []) rest);
        marks_count = ap length marks ∙ length-set c.loop-cell.marks.items index true ∙ before.marks_count;
        codes_count = ap length codes ∙ length-set (map plain_cell c.loop-cell.cells.items) index (plain_cell made) ∙ before.codes_count;
        so_far = λ source same_grid same_cells same_messages.
            let so_far = before.so_far source same_grid same_cells same_messages in
            let read = cell_taken source c.args.declared taken rest cell same_cells all in
            let more = cells_more (written source) (named_in c.args.messages.now)
            (same_messages ∙ ap (λ h. map (named_message h) source.messages) same_grid) cell
            index (c.in_ok-index.ensures.index.0 ∙ ap (λ h. cell_index h cell.place) same_grid)
            c.loop-cell.marks.items (map plain_cell c.loop-cell.cells.items) (length taken) so_far read.0 read.1 (plain_cell made)
            (subst (λ h. index < cell_count h) same_grid c.in_ok-index.ensures.index.1)
            (subst (λ h. (earlier : List WrittenCell) → HasMarks h earlier c.loop-cell.marks.items
            → place_faults h earlier cell.place cell.line ≡ []) same_grid c.in_ok-index.ensures.faults
            (take (length taken) (written source).cells) so_far.marked) c.in_ok-cells-2.ensures.0 c.in_ok-cells-2.ensures.1 in
            subst (CellsSoFar (written source) c.declare_cell.new.declared.items (map plain_cell (set c.loop-cell.cells.items c.from.result made))) (sym (length_push taken cell))
            (subst (λ ms. CellsSoFar (written source) ms (map plain_cell (set c.loop-cell.cells.items c.from.result made)) (length taken + 1)) (sym marks)
            (subst (λ cs. CellsSoFar (written source) (set c.loop-cell.marks.items index true) cs (length taken + 1)) (sym codes) more));
      },
      omega (arith, c.loop-cell.invariant.1, c.in-Some.ensures.steps.1, ap length c.in-Some.ensures.steps.0),
    )

pub returns : goal.returns
returns c source same_grid same_cells same_messages =
    let taken = c.loop-cell.yielded in
    let left = nil_from_length _ (sym c.loop-cell.invariant.1 ∙ c.in-None.ensures.steps.0) in
    let whole = c.loop-cell.invariant.0.all ∙ ap (λ left. taken ++ left) left ∙ append-nil taken in
    let count = length-map source.cells written_cell in
    let all = cells_all (written source) c.loop-cell.marks.items (map plain_cell c.loop-cell.cells.items) (length taken)
    (c.loop-cell.invariant.0.so_far source same_grid same_cells same_messages)
    (omega (arith, count, ap length same_cells, ap length whole)) in
    (all.0, ap (map plain_cell) c.from_vec.ensures ∙ all.1)
