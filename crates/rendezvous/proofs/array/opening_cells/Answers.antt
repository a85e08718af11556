use Rattle.std.proofs.Common.{◌≡◌, ◌∙◌, [], Some, ap, option_map, refl, slice_get, subst, sym, arith}
use Rattle.std.proofs.lemmas.Option.{slice_get_read}
use Rattle.std.specs.Option.{unwrap_or}
use Rattle.std.specs.Prelude.{slice_index_or}
use Rattle.rendezvous.specs.bodies.UnderWay.{IsOpening}
use Rattle.rendezvous.proofs.Places.{each_push}
use Rattle.rendezvous.proofs.array.opening_cells.Goals as goal
use Rattle.rendezvous.proofs.array.opening_cells.Goals.{in-None, in-Some}

pub loop-index-preserved : goal.loop-index-preserved
loop-index-preserved c =
    let inputs = c.args.inputs.now.cells in
    let index = c.loop-index.index in
    let given = c.get.ensures.4 (omega arith) [] in
    let input : c.match-get.input.now ≡ slice_index_or inputs index [] =
    elim c.match-get.branch [
      | in-Some w ↦
          ap (λ b. b.now) w.input-is ∙ w.as_slice-input.ensures
          ∙ ap (λ o. unwrap_or (option_map (λ x. x.now) o) []) (sym w.in-Some.is) ∙ given
      | in-None w ↦
          ap (λ b. b.now) w.input-is ∙ ap (λ o. unwrap_or (option_map (λ x. x.now) o) []) (sym w.in-None.is) ∙ given
    ] in
    let at = subst (λ xs. slice_get xs index ≡ Some c.cell-item.result) c.cells-cell-items.ensures.cells
    (slice_get_read c.cells-cell-items.result.now _ index c.cell-item.result refl c.loop-index-test.true c.cell-item.is) in
    let here : IsOpening c.args.program.now inputs index c.in_ok-new.field-0 =
    record {
      code = c.cell-item.result;
      at = at;
      cell = c.in_ok-new.ensures.cell;
      input = c.in_ok-new.ensures.input ∙ input;
      held = c.in_ok-new.ensures.held;
      before = c.in_ok-new.ensures.before;
    } in
    record {
      many = omega (arith, c.in_ok-push.ensures.len, c.loop-index.invariant.many);
      opening = λ i r at.
          each_push (IsOpening c.args.program.now inputs) c.loop-index.cells.items c.in_ok-new.field-0
          c.loop-index.invariant.opening
          (subst (λ n. IsOpening c.args.program.now inputs n c.in_ok-new.field-0)
          (omega (arith, c.loop-index.invariant.many, c.loop-index.cells.ok)) here) i r
          (subst (λ xs. slice_get xs i ≡ Some r) c.in_ok-push.ensures.items at);
    }
