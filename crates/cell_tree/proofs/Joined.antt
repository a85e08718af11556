-- Pieces that are written one after another.
use Rattle.std.proofs.Common.{◌≡◌, ℕ, ◌++◌, List, ap, sym, ◌∙◌, append_assoc}
use Rattle.std.proofs.lemmas.List.Concat.{flat_map-append}
use Rattle.cell_tree.specs.Pieces.{Piece, joined}

-- two texts that are written one after the other
pub joined_next : (old middle new : List ℕ) (first second : List Piece) → middle ≡ old ++ joined first
    → new ≡ middle ++ joined second → new ≡ old ++ joined (first ++ second)
joined_next old middle new first second one two =
    two ∙ ap (λ bytes. bytes ++ joined second) one ∙ append_assoc old (joined first) (joined second)
    ∙ ap (λ bytes. old ++ bytes) (sym (flat_map-append (λ (piece : Piece). piece.gap ++ piece.word) first second))
