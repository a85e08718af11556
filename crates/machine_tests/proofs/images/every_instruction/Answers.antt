use Rattle.std.proofs.Common.{[], ◌∷◌, refl}
use Rattle.machine_tests.proofs.images.every_instruction.Goals as goal

pub returns-clause-shaped : goal.returns-clause-shaped
returns-clause-shaped c =
    rw c.in_ok-code.ensures
    (c.checked_cells_are_shaped.ensures _
    (0 ∷ 0 ∷ 0 ∷ 1 ∷ 2 ∷ 3 ∷ 2 ∷ 0 ∷ 0 ∷ 0 ∷ 1 ∷ 1 ∷ 0 ∷ 1 ∷ 1 ∷ 0 ∷ 1 ∷ 0 ∷ 1 ∷ 0 ∷ 1 ∷ 0 ∷ []) 60 refl)
