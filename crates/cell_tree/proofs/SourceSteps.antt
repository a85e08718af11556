-- The parts of a source, as they are printed one after another.
use Rattle.std.proofs.Common.{◌≡◌, ℕ, ◌++◌, List, [], ◌∷◌, ap, subst, ◌∙◌}
use Rattle.std.specs.List.{flat_map}
use Rattle.cell_tree.proofs.Joined.{joined_next}
use Rattle.cell_tree.specs.Canonical.{settings_pieces, link_pieces, message_pieces, cell_pieces, canonical}
use Rattle.cell_tree.specs.Pieces.{Piece, joined}
use Rattle.cell_tree.specs.declared.source.CellDecl.{CellDecl}
use Rattle.cell_tree.specs.declared.source.LinkDecl.{LinkDecl}
use Rattle.cell_tree.specs.declared.source.MessageDecl.{MessageDecl}
use Rattle.cell_tree.specs.declared.source.Source.{Source}

-- what is written after each part, and after the newline at the end
pub source_step : (source : Source) (empty one two three four new : List ℕ)
    (links : List LinkDecl) (messages : List MessageDecl) (cells : List CellDecl)
    → links ≡ source.links → messages ≡ source.messages → cells ≡ source.cells
    → empty ≡ [] → one ≡ empty ++ joined (settings_pieces source) → two ≡ one ++ joined (flat_map link_pieces links)
    → three ≡ two ++ joined (flat_map message_pieces messages) → four ≡ three ++ joined (flat_map cell_pieces cells)
    → new ≡ four ++ 10 ∷ [] → new ≡ canonical source
source_step source empty one two three four new links messages cells l m c e p q r s end =
    let A : List Piece = settings_pieces source in
    let B : List Piece = flat_map link_pieces source.links in
    let C : List Piece = flat_map message_pieces source.messages in
    let D : List Piece = flat_map cell_pieces source.cells in
    let P : List ℕ → Type 0 = λ bytes. one ≡ bytes ++ joined A in
    let Q : List LinkDecl → Type 0 = λ ds. two ≡ one ++ joined (flat_map link_pieces ds) in
    let R : List MessageDecl → Type 0 = λ ds. three ≡ two ++ joined (flat_map message_pieces ds) in
    let S : List CellDecl → Type 0 = λ ds. four ≡ three ++ joined (flat_map cell_pieces ds) in
    end ∙ ap (λ bytes. bytes ++ 10 ∷ [])
    (joined_next [] three four (A ++ B ++ C) D
    (joined_next [] two three (A ++ B) C
    (joined_next [] one two A B (subst P e p) (subst Q l q)) (subst R m r)) (subst S c s))
