-- One more step of the lists that the printer's loops write.
use Rattle.std.proofs.Common.{◌≡◌, ℕ, ◌+◌, ◌*◌, ◌++◌, [], ◌∷◌, List, ap, ◌∙◌, append_assoc, arith, refl}
use Rattle.std.specs.Prelude.{codes}
use Rattle.std.proofs.Math.ListN.{replicate}
use Rattle.std.proofs.lemmas.List.{replicate-append-replicate}
use Rattle.std.specs.List.{flat_map}
use Rattle.sys_base.specs.Key.{key_text}
use Rattle.sys_base.specs.declared.key.Key.TheVariants as K
use Rattle.sys_base.specs.declared.kinds.Dir.{Dir}
use Rattle.cell_tree.specs.Canonical.{route_pieces, dir_text}
use Rattle.cell_tree.specs.Pieces.{after, space}

-- one more open block indents by two more spaces
pub indent_more : (n : ℕ) → replicate {A = ℕ} (2 * n) 32 ++ (32 ∷ 32 ∷ []) ≡ replicate {A = ℕ} (2 * (n + 1)) 32
indent_more n =
    let e : 2 * n + 2 ≡ 2 * (n + 1) = omega arith in
    replicate-append-replicate {A = ℕ} (2 * n) 2 32 ∙ ap (λ (k : ℕ). replicate {A = ℕ} k 32) e

-- a route that is given is its keyword and its directions
pub route_given : (dirs : List Dir) → (dirs ≡ [] → ⊥)
    → route_pieces dirs ≡ after space (key_text K.Route) ++ flat_map (λ dir. after space (dir_text dir)) dirs
route_given [] given = absurd (given refl)
route_given (dir ∷ dirs) given = refl

-- a line's white space with one more open block
pub indent_step : (before now next : List ℕ) (n : ℕ) → now ≡ before ++ codes "\n" ++ replicate {A = ℕ} (2 * n) 32
    → next ≡ now ++ (32 ∷ 32 ∷ []) → next ≡ before ++ codes "\n" ++ replicate {A = ℕ} (2 * (n + 1)) 32
indent_step before now next n so_far step =
    step ∙ ap (λ bytes. bytes ++ (32 ∷ 32 ∷ [])) so_far ∙
    append_assoc (before ++ codes "\n") (replicate {A = ℕ} (2 * n) 32) (32 ∷ 32 ∷ []) ∙ ap (λ bytes. before ++ codes "\n" ++ bytes) (indent_more n)
