-- What is known of a fabric that is opened.
use Rattle.std.proofs.Common.{◌≡◌, ℕ, ◌*◌, ◌<◌, List, [], None, length, get_or, nat_eq, position, ap, subst, ◌∙◌, arith}
use Rattle.std.proofs.lemmas.List.{get_or_default}
use Rattle.sys_base.specs.Grid.{cell_count}
use Rattle.cell_code.specs.declared.image.Image.{Image}
use Rattle.cell_code.specs.declared.image.LinkImage.{LinkImage}
use Rattle.link_queues.specs.Tables.{Laid, Table, IsFabric, link_of}
use Rattle.link_queues.specs.declared.link.Link.{Link}

-- what holds of the fields holds of what contracts see
pub seen : (image : Image) (cap : ℕ) (t : Table) (f : Laid) → record { image = image; cap = cap; table = t } ≡ f
    → IsFabric image cap t → IsFabric f.image f.cap f.table
seen image cap t f e k = subst (λ (g : Laid). IsFabric g.image g.cap g.table) e k

-- the link that the code reads
pub link_seen : (image : Image) (cap : ℕ) (t : Table) (f : Laid) → record { image = image; cap = cap; table = t } ≡ f
    → IsFabric image cap t → (links : List Link) → links ≡ t.links → (l i : ℕ) (x : Link)
    → l < 4 * cell_count f.image.grid → i ≡ l → x ≡ get_or links i x → x ≡ link_of f.table l
link_seen image cap t f e k links all l i x inside same is =
    let no_link : Link = record { entry = None; bound = 0; slots = [] } in
    let there : i < length t.links =
    omega (arith, inside, same, k.laid_out.links, ap (λ (g : Laid). cell_count g.image.grid) e)
    in
    is ∙ ap (λ (xs : List Link). get_or xs i x) all ∙ get_or_default t.links i x no_link there ∙ ap (link_of t) same ∙ ap (λ (g : Laid). link_of g.table l) e

-- the entry of a link among the links of the image
pub entry_seen : (image : Image) (cap : ℕ) (t : Table) (f : Laid) → record { image = image; cap = cap; table = t } ≡ f
    → IsFabric image cap t → (l : ℕ) → l < 4 * cell_count f.image.grid
    → (link_of f.table l).entry ≡ position (λ (x : LinkImage). nat_eq x.link l) f.image.links
entry_seen image cap t f e k l h =
    let g : IsFabric f.image f.cap f.table = seen image cap t f e k in
    g.laid_out.entries l (omega (arith, h, g.laid_out.links))
