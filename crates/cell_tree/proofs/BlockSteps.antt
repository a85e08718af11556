-- The statements of a block, as they are printed one after another.
use Rattle.std.proofs.Common.{◌≡◌, ℕ, ◌+◌, ◌++◌, List, map, ap, sym, subst, ◌∙◌}
use Rattle.std.proofs.lemmas.List.Folds.{flat_map-map}
use Rattle.std.specs.List.{flat_map}
use Rattle.std.specs.Prelude.{codes}
use Rattle.cell_tree.proofs.Joined.{joined_next}
use Rattle.cell_tree.specs.Pieces.{Piece, joined, after, space, line}
use Rattle.cell_tree.specs.Statement.{Printed, block, statement_pieces}
use Rattle.cell_tree.specs.declared.statement.Stmt.{Stmt}

-- a block is its brace, its statements one level deeper, and its end
block_is : (body : List Stmt) (depth : ℕ) → block (map statement_pieces body) depth
    ≡ after space (codes "{") ++ flat_map (λ s. statement_pieces s (depth + 1)) body ++ after (line depth) (codes "}")
block_is body depth =
    let P : List Piece → List Piece = λ pieces. after space (codes "{") ++ pieces ++ after (line depth) (codes "}") in
    ap P (flat_map-map {A = Stmt} {B = Printed} {C = Piece} (λ (printed : Printed). printed (depth + 1)) statement_pieces body)

-- what is written before, after the brace, after the statements and after the end of a block
pub block_step : (old opened filled new : List ℕ) (body : List Stmt) (depth inner : ℕ) → inner ≡ depth + 1
    → opened ≡ old ++ joined (after space (codes "{"))
    → filled ≡ opened ++ joined (flat_map (λ s. statement_pieces s inner) body)
    → new ≡ filled ++ joined (after (line depth) (codes "}"))
    → new ≡ old ++ joined (block (map statement_pieces body) depth)
block_step old opened filled new body depth inner deeper brace statements end =
    let P : ℕ → Type 0 = λ k. filled ≡ opened ++ joined (flat_map (λ s. statement_pieces s k) body) in
    let A : List Piece = after space (codes "{") in
    let B : List Piece = flat_map (λ s. statement_pieces s (depth + 1)) body in
    let C : List Piece = after (line depth) (codes "}") in
    joined_next old filled new (A ++ B) C (joined_next old opened filled A B brace (subst P deeper statements)) end
    ∙ ap (λ pieces. old ++ joined pieces) (sym (block_is body depth))
