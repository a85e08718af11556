-- The groups of a small image's links.
use Rattle.std.proofs.Common.{◌≡◌, [], ◌∷◌, refl}
use Rattle.cell_code.specs.declared.image.MessageImage.{MessageImage}
use Rattle.cell_code.specs.Images.{grouped_links}

-- two messages with one label and one with another go from the first cell of a row of two to the second, and one with no words goes back
the_groups_of_a_link : grouped_links (record { rows = 1; cols = 2 })
    (record { from = 0; to = 1; length = 1; label = 4; route = 1 ∷ [] }
    ∷ record { from = 0; to = 1; length = 2; label = 0; route = 1 ∷ [] }
    ∷ record { from = 1; to = 0; length = 0; label = 0; route = 7 ∷ [] }
    ∷ record { from = 0; to = 1; length = 1; label = 4; route = 1 ∷ [] }
    ∷ [])
    ≡ (1, (0, 1 ∷ []) ∷ (4, 0 ∷ 3 ∷ []) ∷ []) ∷ []
the_groups_of_a_link = refl
