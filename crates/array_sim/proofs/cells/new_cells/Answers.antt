-- The next cell has its own image and input.
use Rattle.std.proofs.Common.{◌≡◌, ◌+◌, drop, length, ap, sym, subst, ◌∙◌, arith}
use Rattle.std.proofs.lemmas.List.{length_push}
use Rattle.cell_code.specs.declared.image.CellImage.{CellImage}
use Rattle.array_model.specs.States.{cell_of}
use Rattle.cell_machine.specs.Machine.{IsReached, Machine, new_machine}
use Rattle.array_sim.specs.Simulations.{inputs_of}
use Rattle.array_sim.proofs.Machines.{each_more, image_here, next_input}
use Rattle.array_sim.proofs.cells.new_cells.Goals as goal

pub new_cell-requires-clause-input : goal.new_cell-requires-clause-input
new_cell-requires-clause-input c =
    let n = length c.loop-input.machines.items in
    let at : c.len-cell.result ≡ length c.loop-input.machines.items = omega arith in
    let next = next_input c.args.inputs.cells _ n c.in-Some.input _ c.loop-input.invariant.rest
    c.in-Some.ensures.steps.0 in
    let item = image_here c.args.image.now c.as_slice.result.now c.index-as_slice-cell.result c.len-cell.result n
    c.as_slice.ensures
    c.index-as_slice-cell.is at (omega (arith, c.requires.shaped.cells, c.requires.lists, next.inside))
    in
    ap length c.into_vec.ensures ∙ ap length (sym next.input_is)
    ∙ c.requires.counted n (omega (arith, c.requires.lists, next.inside)) ∙ ap (λ (i : CellImage). i.takes) (sym item)

pub loop-input-preserved : goal.loop-input-preserved
loop-input-preserved c =
    let n = length c.loop-input.machines.items in
    let at : c.len-cell.result ≡ length c.loop-input.machines.items = omega arith in
    let next = next_input c.args.inputs.cells _ n c.in-Some.input _ c.loop-input.invariant.rest
    c.in-Some.ensures.steps.0 in
    let item = image_here c.args.image.now c.as_slice.result.now c.index-as_slice-cell.result c.len-cell.result n
    c.as_slice.ensures
    c.index-as_slice-cell.is at (omega (arith, c.requires.shaped.cells, c.requires.lists, next.inside))
    in
    let long : length c.push.new.self.items ≡ n + 1 = ap length c.in_ok-push.ensures.items
    ∙ length_push c.loop-input.machines.items _ in
    record {
      rest = next.left_is ∙ ap (λ k. drop k c.args.inputs.cells) (sym long);
      short = omega (arith, long, next.inside);
      new =
          each_more (λ k (m : Machine). m ≡ new_machine k (cell_of c.args.image.now k)
          (inputs_of c.args.inputs.cells k))
          c.loop-input.machines.items _ _ c.in_ok-push.ensures.items c.loop-input.invariant.new
          (c.in_ok-machine.ensures.machine ∙ ap
          (λ k. new_machine k c.index-as_slice-cell.result c.into_vec.result.items) at
          ∙ ap (λ i. new_machine n i c.into_vec.result.items) item
          ∙ ap (new_machine n (cell_of c.args.image.now n)) (c.into_vec.ensures ∙ sym next.input_is));
      reached =
          each_more (λ k m. IsReached (cell_of c.args.image.now k) m) c.loop-input.machines.items _ _
          c.in_ok-push.ensures.items
          c.loop-input.invariant.reached (subst
          (λ i. IsReached i c.in_ok-machine.machine) item c.in_ok-machine.ensures.reached);
    }
