-- The links of shaped images.
use Rattle.std.proofs.Common.{◌<◌, ◌*◌, ℕ, List, All, nat_lt, length, map, subst, arith}
use Rattle.std.proofs.lemmas.List.{get_or-map, length-map}
use Rattle.std.proofs.lemmas.List.Elements.{All-filter, All-map, All-same}
use Rattle.std.proofs.lemmas.List.FromFn.{get_or-range_with_len, length-range_with_len}
use Rattle.sys_base.specs.Groups.{below}
use Rattle.cell_code.specs.Images.{IsShaped, grouped_links, link_groups}
use Rattle.cell_code.specs.declared.image.Image.{Image}
use Rattle.cell_code.specs.declared.image.LinkImage.{LinkImage}
use Rattle.array_model.specs.States.{cells}

-- the numbers below one
all_below : (n : ℕ) → All (λ k. k < n) (below n)
all_below n k d h =
    let inside : k < n = omega (arith, h, length-range_with_len 0 n) in
    omega (arith, inside, get_or-range_with_len 0 n k d inside)

-- the links with a group
grouped_fit : (image : Image) → All (λ (l : ℕ × List (ℕ × List ℕ)). l.0 < 4 * cells image) (grouped_links image.grid image.messages)
grouped_fit image =
    All-filter (λ (link : ℕ × List (ℕ × List ℕ)). nat_lt 0 (length link.1)) (λ (l : ℕ × List (ℕ × List ℕ)). l.0 < 4 * cells image) _
    (All-map (λ (l : ℕ × List (ℕ × List ℕ)). l.0 < 4 * cells image) _ _ (all_below (4 * cells image)))

-- each link of a shaped image is one of its grid
pub links_fit : (image : Image) → IsShaped image → All (λ (link : LinkImage). link.link < 4 * cells image) image.links
links_fit image shaped k d h =
    let inside : k < length (map link_groups image.links) = omega (arith, h, length-map image.links link_groups) in
    let all = All-same (λ (l : ℕ × List (ℕ × List ℕ)). l.0 < 4 * cells image) _ _ shaped.links (grouped_fit image) in
    subst (λ (l : ℕ × List (ℕ × List ℕ)). l.0 < 4 * cells image) (get_or-map link_groups image.links k d (link_groups d) h)
    (all k (link_groups d) inside)
