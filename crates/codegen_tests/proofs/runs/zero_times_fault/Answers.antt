use Rattle.std.proofs.Common.{[], ◌∷◌, refl}
use Rattle.codegen_tests.proofs.runs.zero_times_fault.Goals as goal

pub returns-clause-shaped : goal.returns-clause-shaped
returns-clause-shaped c =
    rw c.in_ok-code.ensures
    (c.checked_cells_are_shaped.ensures _ (0 ∷ 1 ∷ 2 ∷ 3 ∷ 2 ∷ 1 ∷ 0 ∷ []) 20 refl)
