-- Lists that numbers one after another give.
use Rattle.std.proofs.Common.{ℕ, ◌≡◌, ◌+◌, List, [], ◌∷◌, ◌++◌, map, flat_map, sym, ap, ◌∙◌, arith}
use Rattle.std.specs.List.{range_with_len}
use Rattle.std.proofs.lemmas.List.{append-nil}
use Rattle.std.proofs.lemmas.List.Concat.{flat_map-append}
use Rattle.std.proofs.lemmas.List.Folds.{flat_map-map}
use Rattle.std.proofs.lemmas.List.FromFn.{map-range_with_len_more}

-- what one number more adds
pub flat_map_range : {X : Type 0} (f : ℕ → List X) (n : ℕ) → flat_map f (range_with_len 0 (n + 1)) ≡ flat_map f (range_with_len 0 n) ++ f n
flat_map_range {X} f n =
    let before : List (List X) = map f (range_with_len 0 n) in
    sym (flat_map-map (λ (xs : List X). xs) f (range_with_len 0 (n + 1)))
    ∙ ap (flat_map (λ (xs : List X). xs)) (map-range_with_len_more f 0 n n (omega arith))
    ∙ flat_map-append (λ (xs : List X). xs) before (f n ∷ [])
    ∙ ap (λ xs. flat_map (λ (ys : List X). ys) before ++ xs) (append-nil (f n))
    ∙ ap (λ xs. xs ++ f n) (flat_map-map (λ (xs : List X). xs) f (range_with_len 0 n))
