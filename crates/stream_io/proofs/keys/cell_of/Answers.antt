use Rattle.std.proofs.Common.{◌≡◌, ◌+◌, ◌*◌, ◌/◌, ◌%◌, ◌∙◌, Some, inl, inr, ap, sym, arith}
use Rattle.std.proofs.Math.Nat.{div-add-mod, mul_comm}
use Rattle.sys_base.specs.Grid.{row_of, col_of}
use Rattle.stream_io.proofs.KeyParts.{key_parts, row_below, col_below, row_number, col_number}
use Rattle.stream_io.proofs.keys.cell_of.Goals as goal

pub returns-in_err-row-clause-only : goal.returns-in_err-row-clause-only
returns-in_err-row-clause-only c = λ cell inside is.
    let parts = key_parts c.args.grid.now c.rows-rows.ensures.extent cell inside c.args.key.now is c.split_once.result c.split_once.ensures.cases in
    absurd (rw c.in_err-row.was at parts)

pub returns-in_err-row-2-clause-only : goal.returns-in_err-row-2-clause-only
returns-in_err-row-2-clause-only c = λ cell inside is.
    let g = c.args.grid.now in
    let extent = c.rows-rows.ensures.extent in
    let parts = rw c.in_ok-row.was at (key_parts g extent cell inside c.args.key.now is c.split_once.result c.split_once.ensures.cases) in
    let row = row_number g extent cell inside c.in_ok-row.row.now c.parse.result c.ok.result parts.0 c.parse.ensures.value.0 c.ok.ensures.value in
    absurd (let e = sym c.in_err-row-2.was ∙ row in cc)

pub returns-in_err-col-clause-only : goal.returns-in_err-col-clause-only
returns-in_err-col-clause-only c = λ cell inside is.
    let g = c.args.grid.now in
    let extent = c.rows-rows.ensures.extent in
    let parts = rw c.in_ok-row.was at (key_parts g extent cell inside c.args.key.now is c.split_once.result c.split_once.ensures.cases) in
    let col = col_number g extent cell c.in_ok-row.col.now c.parse-2.result c.ok-2.result parts.1 c.parse-2.ensures.value.0 c.ok-2.ensures.value in
    absurd (let e = sym c.in_err-col.was ∙ col in cc)

pub returns-then-row-rows-clause-only : goal.returns-then-row-rows-clause-only
returns-then-row-rows-clause-only c = λ cell inside is.
    let g = c.args.grid.now in
    let extent = c.rows-rows.ensures.extent in
    let parts = rw c.in_ok-row.was at (key_parts g extent cell inside c.args.key.now is c.split_once.result c.split_once.ensures.cases) in
    let row = row_number g extent cell inside c.in_ok-row.row.now c.parse.result c.ok.result parts.0 c.parse.ensures.value.0 c.ok.ensures.value in
    let col = col_number g extent cell c.in_ok-row.col.now c.parse-2.result c.ok-2.result parts.1 c.parse-2.ensures.value.0 c.ok-2.ensures.value in
    let r : c.in_ok-row-2.row ≡ row_of g cell = (let e = sym c.in_ok-row-2.was ∙ row in cc) in
    let k : c.in_ok-col.col ≡ col_of g cell = (let e = sym c.in_ok-col.was ∙ col in cc) in
    absurd (elim c.then-row-rows.either [
      | inl past ↦ omega (arith, past, r, row_below g extent cell inside, c.rows-rows.ensures.rows)
      | inr past ↦ omega (arith, past.1, k, col_below g extent cell, c.cols-cols.ensures.cols)
    ])

pub returns-clause-only : goal.returns-clause-only
returns-clause-only c = λ cell inside is.
    let g = c.args.grid.now in
    let extent = c.rows-rows.ensures.extent in
    let parts = rw c.in_ok-row.was at (key_parts g extent cell inside c.args.key.now is c.split_once.result c.split_once.ensures.cases) in
    let row = row_number g extent cell inside c.in_ok-row.row.now c.parse.result c.ok.result parts.0 c.parse.ensures.value.0 c.ok.ensures.value in
    let col = col_number g extent cell c.in_ok-row.col.now c.parse-2.result c.ok-2.result parts.1 c.parse-2.ensures.value.0 c.ok-2.ensures.value in
    let r : c.in_ok-row-2.row ≡ row_of g cell = (let e = sym c.in_ok-row-2.was ∙ row in cc) in
    let k : c.in_ok-col.col ≡ col_of g cell = (let e = sym c.in_ok-col.was ∙ col in cc) in
    let whole : row_of g cell * g.cols + col_of g cell ≡ cell = ap (λ n. n + cell % g.cols) (mul_comm (cell / g.cols) g.cols) ∙ div-add-mod cell g.cols in
    let row_is : c.from.result ≡ row_of g cell = omega (arith, c.from.ensures, r) in
    let cols_is : c.from-2.result ≡ g.cols = omega (arith, c.from-2.ensures, c.cols-cols.ensures.cols) in
    let col_is : c.from-3.result ≡ col_of g cell = omega (arith, c.from-3.ensures, k) in
    ap Some (rw (row_is, cols_is, col_is) whole)
