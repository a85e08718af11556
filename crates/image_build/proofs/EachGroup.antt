-- The images of groups, one after another.
use Rattle.std.proofs.Common.{◌≡◌, ℕ, zero, suc, ◌+◌, ◌<◌, ◌≤◌, List, [], ◌∷◌, ◌++◌, Some, None, map, option_map, length, slice_get, take, refl, sym, ap, ◌∙◌, arith}
use Rattle.std.specs.Option.{option_map_or}
use Rattle.cell_code.specs.declared.image.Group.{Group}
use Rattle.program_image.specs.ImageOf.{group_image}

-- one group more
pub group_there : (gs : List (ℕ × List ℕ)) (place label : ℕ) (members : List ℕ)
    → Some label ≡ option_map (λ (g : ℕ × List ℕ). g.0) (slice_get gs place)
    → members ≡ option_map_or (λ (g : ℕ × List ℕ). g.1) (slice_get gs place) []
    → (place < length gs)
    × (map group_image (take (place + 1) gs) ≡ map group_image (take place gs) ++ record { label = label; members = members } ∷ [])
group_there [] place label members l m = absurd (cc)
group_there (g ∷ gs) zero label members l m =
    let e : g.0 ≡ label = cc in
    let one : group_image g ≡ record { label = label; members = members } =
    ap (λ n. record { label = n; members = g.1 }) e ∙ ap (λ ms. record { label = label; members = ms }) (sym m) in
    (omega arith, ap (λ (y : Group). y ∷ []) one)
group_there (g ∷ gs) (suc place) label members l m =
    let s : suc place + 1 ≡ suc (place + 1) = omega arith in
    let rest = group_there gs place label members l m in
    let inside = rest.0 in (
      omega (arith, inside),
      ap (λ (n : ℕ). map group_image (take n (g ∷ gs))) s ∙ ap (λ (r : List Group). group_image g ∷ r) rest.1,
    )

-- all groups
pub all_there : (gs : List (ℕ × List ℕ)) (place : ℕ)
    → None ≡ option_map (λ (g : ℕ × List ℕ). g.0) (slice_get gs place) → place ≤ length gs → take place gs ≡ gs
all_there [] zero n h = refl
all_there [] (suc place) n h = absurd (omega (arith, h))
all_there (g ∷ gs) zero n h = absurd (cc)
all_there (g ∷ gs) (suc place) n h = ap (λ r. g ∷ r) (all_there gs place n (omega (arith, h)))
