use Rattle.std.proofs.Common.{◌≡◌, ℕ, ◌+◌, List, [], ◌∷◌, ◌++◌, map, ap, sym, ◌∙◌, arith}
use Rattle.std.proofs.lemmas.List.FromFn.{map-range_with_len_more}
use Rattle.sys_base.specs.Groups.{below}
use Rattle.cell_code.specs.Rows.{State}
use Rattle.array_sim.specs.Simulations.{states_in}
use Rattle.image_runs.proofs.reporting.outputs_of.Goals as goal

-- the value of one more number
one_more : {X : Type 0} (f : ℕ → X) (n : ℕ) (old new : List X) (x : X) → old ≡ map f (below n) → x ≡ f n
    → new ≡ old ++ x ∷ [] → new ≡ map f (below (n + 1))
one_more {X} f n old new x so_far here pushed =
    pushed
    ∙ ap (λ (xs : List X). xs ++ x ∷ []) so_far
    ∙ ap (λ (y : X). map f (below n) ++ y ∷ []) here
    ∙ sym (map-range_with_len_more f 0 n n (omega arith))

pub loop-cell-preserved : goal.loop-cell-preserved
loop-cell-preserved c =
    let r = c.output.ensures.reached in
    one_more (λ (k : ℕ). (states_in c.args.sim.now.array k).held.output) c.loop-cell.cell c.loop-cell.cells _ c.in_ok-from_slice.field-0
    c.loop-cell.invariant
    (c.in_ok-from_slice.ensures
    ∙ c.output.ensures.output r.last r.after.stands
    ∙ ap (λ (s : ℕ → State). (s c.loop-cell.cell).held.output) r.after.stands.cells)
    c.in_ok-push.ensures.ok
