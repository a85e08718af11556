-- How long the canonical text of the source of pairs is.
use Rattle.std.proofs.Common.{◌≡◌, ℕ, ◌+◌, ◌*◌, ◌<◌, ◌≤◌, ◌++◌, List, [], ◌∷◌, length, length-append, refl, sym, ap, ◌∙◌, arith}
use Rattle.std.specs.Prelude.{nat_le, sum_by, codes}
use Rattle.std.specs.Fmt.{digits}
use Rattle.std.specs.List.{flat_map, All}
use Rattle.std.proofs.lemmas.Bool.{leb-true}
use Rattle.std.proofs.lemmas.List.Concat.{flat_map-append}
use Rattle.std.proofs.lemmas.List.Elements.{All-head, All-tail}
use Rattle.std.proofs.lemmas.List.Sums.{sum_by-cons}
use Rattle.sys_base.specs.Groups.{below}
use Rattle.sys_base.specs.declared.limits.TheConstants.{SOURCE_BYTES}
use Rattle.cell_tree.specs.Canonical.{canonical_pieces, canonical}
use Rattle.cell_tree.specs.Pieces.{Piece, joined}
use Rattle.pair_gen.specs.Generated.{source_of}
use Rattle.pair_gen.proofs.Below.{passes_below}
use Rattle.pair_laws.specs.bodies.Printed.{pair_pieces, head_pieces, last_pieces, paired_pieces, first_pieces, all_pieces}
use Rattle.pair_laws.proofs.Printed.{all_printed}
use Rattle.pair_laws.proofs.Room.{sum_same, sum_both}

-- how many bytes some pieces have
abbrev size : List Piece → ℕ
size ps = length (joined ps)

both_sizes : (ps qs : List Piece) → size (ps ++ qs) ≡ size ps + size qs
both_sizes ps qs =
    ap length (flat_map-append (λ (piece : Piece). piece.gap ++ piece.word) ps qs) ∙ length-append (joined ps) (joined qs)

sizes : (f : ℕ → List Piece) (xs : List ℕ) → size (flat_map f xs) ≡ sum_by (λ x. size (f x)) xs
sizes f [] = refl
sizes f (x ∷ xs) =
    both_sizes (f x) (flat_map f xs) ∙ ap (λ n. size (f x) + n) (sizes f xs) ∙ sym (sum_by-cons (λ y. size (f y)) x xs)

-- the lines of one pair, in all cells
pair_size : (m : ℕ) → m < 24 → sum_by (λ c. size (pair_pieces c m)) (below 16) ≤ 33
unfolding digits
pair_size m within =
    leb-true (sum_by (λ c. size (pair_pieces c m)) (below 16)) 33
    (passes_below (λ k. nat_le (sum_by (λ c. size (pair_pieces c k)) (below 16)) 33) 24 m within refl)

-- of all pairs
pairs_size : (ms : List ℕ) → All (λ m. m < 24) ms → sum_by (λ c. size (flat_map (pair_pieces c) ms)) (below 16) ≤ 33 * length ms
pairs_size [] known = omega arith
pairs_size (m ∷ ms) known =
    let split : sum_by (λ c. size (flat_map (pair_pieces c) (m ∷ ms))) (below 16)
    ≡ sum_by (λ c. size (pair_pieces c m)) (below 16) + sum_by (λ c. size (flat_map (pair_pieces c) ms)) (below 16) =
    sum_same (λ c. size (flat_map (pair_pieces c) (m ∷ ms))) (λ c. size (pair_pieces c m) + size (flat_map (pair_pieces c) ms)) (below 16)
    (λ c. both_sizes (pair_pieces c m) (flat_map (pair_pieces c) ms))
    ∙ sum_both (λ c. size (pair_pieces c m)) (λ c. size (flat_map (pair_pieces c) ms)) (below 16) in
    omega (
      arith,
      split,
      pair_size m (All-head (λ k. k < 24) m ms known),
      pairs_size ms (All-tail (λ k. k < 24) m ms known),
    )

-- the other lines of the cells
others_size : sum_by (λ c. size (head_pieces c) + size last_pieces) (below 16) ≤ 4000
unfolding digits
others_size = leb-true (sum_by (λ c. size (head_pieces c) + size last_pieces) (below 16)) 4000 refl

-- and the lines before them
first_size : size first_pieces ≤ 2000
unfolding digits source_of
first_size = leb-true (size first_pieces) 2000 refl

cells_size : (ms : List ℕ) → All (λ m. m < 24) ms → sum_by (λ c. size (paired_pieces ms c)) (below 16) ≤ 4000 + 33 * length ms
cells_size ms known =
    let each : (c : ℕ) → size (paired_pieces ms c) ≡ (size (head_pieces c) + size last_pieces) + size (flat_map (pair_pieces c) ms) =
    λ c. omega (
      arith,
      both_sizes (head_pieces c) (flat_map (pair_pieces c) ms ++ last_pieces),
      both_sizes (flat_map (pair_pieces c) ms) last_pieces,
    ) in
    let split : sum_by (λ c. size (paired_pieces ms c)) (below 16)
    ≡ sum_by (λ c. size (head_pieces c) + size last_pieces) (below 16) + sum_by (λ c. size (flat_map (pair_pieces c) ms)) (below 16) =
    sum_same (λ c. size (paired_pieces ms c)) (λ c. (size (head_pieces c) + size last_pieces) + size (flat_map (pair_pieces c) ms)) (below 16) each
    ∙ sum_both (λ c. size (head_pieces c) + size last_pieces) (λ c. size (flat_map (pair_pieces c) ms)) (below 16) in
    omega (arith, split, others_size, pairs_size ms known)

-- the whole text
pub text_size : (ms : List ℕ) → All (λ m. m < 24) ms → length ms ≤ 20000 → length (canonical (source_of ms)) ≤ SOURCE_BYTES
text_size ms known few =
    let pieces : size (canonical_pieces (source_of ms)) ≡ size (all_pieces ms) = ap size (all_printed ms) in
    let parts : size (all_pieces ms) ≡ size first_pieces + size (flat_map (paired_pieces ms) (below 16)) =
    both_sizes first_pieces (flat_map (paired_pieces ms) (below 16)) in
    let text : length (canonical (source_of ms)) ≡ size (canonical_pieces (source_of ms)) + 1 =
    length-append (joined (canonical_pieces (source_of ms))) (codes "\n") in
    omega (arith, text, pieces, parts, sizes (paired_pieces ms) (below 16), first_size, cells_size ms known, few)
