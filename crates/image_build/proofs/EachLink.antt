-- The images of links, one after another.
use Rattle.std.proofs.Common.{◌≡◌, ℕ, zero, suc, ◌+◌, ◌*◌, ◌<◌, ◌≤◌, Bool, true, false, cond, nat_lt, List, [], ◌∷◌, ◌++◌, map, filter, length, slice_index, refl, sym, ap, subst, ◌∙◌, arith}
use Rattle.std.proofs.lemmas.Bool.{lt-ltb}
use Rattle.std.proofs.lemmas.List.FromFn.{filter_of_map_range_with_len_more, length-map-range_with_len}
use Rattle.std.specs.List.{range_with_len}
use Rattle.sys_base.specs.Grid.{cell_count}
use Rattle.cell_code.specs.Images.{grouped_links}
use Rattle.cell_code.specs.declared.image.Group.{Group}
use Rattle.cell_code.specs.declared.image.LinkImage.{LinkImage}
use Rattle.cell_code.specs.declared.image.MessageImage.{MessageImage}
use Rattle.cell_types.specs.Code.{ProgramCode}
use Rattle.cell_types.specs.Groups.{below, groups, lengths_of, routes_of}
use Rattle.queue_plan.specs.Grouping.{all_groups, groups_at}
use Rattle.program_image.specs.ImageOf.{group_image, link_image, messages_of}
use Rattle.image_build.proofs.Grouped.{grouped_before}

abbrev is_grouped : ℕ × List (ℕ × List ℕ) → Bool
is_grouped link = nat_lt 0 (length link.1)

kept : (gs : List (ℕ × List ℕ)) → (gs ≡ [] → ⊥) → nat_lt 0 (length gs) ≡ true
kept [] h = absurd (h refl)
kept (g ∷ gs) h = lt-ltb 0 (suc (length gs)) (omega arith)

map_append : {A B : Type 0} (h : A → B) (xs ys : List A) → map h (xs ++ ys) ≡ map h xs ++ map h ys
map_append h [] ys = refl
map_append h (x ∷ xs) ys = ap (λ r. h x ∷ r) (map_append h xs ys)

same_map : {A : Type 0} (f g : ℕ → A) (a n : ℕ) → ((k : ℕ) → a ≤ k → k < a + n → f k ≡ g k)
    → map f (range_with_len a n) ≡ map g (range_with_len a n)
same_map f g a zero h = refl
same_map f g a (suc n) h =
    ap (λ y. y ∷ map f (range_with_len (a + 1) n)) (h a (omega arith) (omega arith))
    ∙ ap (λ r. g a ∷ r) (same_map f g (a + 1) n (λ k low high. h k (omega (arith, low)) (omega (arith, high))))

and_none : {A : Type 0} (xs : List A) → xs ++ [] ≡ xs
and_none [] = refl
and_none (x ∷ xs) = ap (λ r. x ∷ r) (and_none xs)

dropped : (gs : List (ℕ × List ℕ)) → map group_image gs ≡ [] → nat_lt 0 (length gs) ≡ false
dropped [] h = refl
dropped (g ∷ gs) h = absurd (cc)

-- a link more that has a group
pub link_more : (p : ProgramCode) (links : List (List (ℕ × List ℕ))) (n queue : ℕ) (its : List Group) (old new : List LinkImage)
    → its ≡ map group_image (groups_at links n) → (its ≡ [] → ⊥) → queue ≡ slice_index p.queues n
    → old ≡ map (link_image p) (grouped_before links n)
    → new ≡ old ++ record { link = n; queues = queue; groups = its } ∷ []
    → new ≡ map (link_image p) (grouped_before links (n + 1))
link_more p links n queue its old new is some queue_is so_far step =
    let f : ℕ → ℕ × List (ℕ × List ℕ) = λ link. (link, groups_at links link) in
    let more = filter_of_map_range_with_len_more is_grouped f 0 n n (omega arith) in
    let keeps = kept (groups_at links n) (λ none. some (is ∙ ap (map group_image) none)) in
    step ∙ ap (λ q. old ++ record { link = n; queues = q; groups = its } ∷ []) queue_is
    ∙ ap (λ gs. old ++ record { link = n; queues = slice_index p.queues n; groups = gs } ∷ []) is
    ∙ ap (λ (ls : List LinkImage). ls ++ link_image p (f n) ∷ []) so_far
    ∙ sym (map_append (link_image p) (grouped_before links n) (f n ∷ []))
    ∙ ap (λ b. map (link_image p) (grouped_before links n ++ cond b (f n ∷ []) [])) (sym keeps)
    ∙ ap (map (link_image p)) (sym more)

-- a link more without one
pub link_passed : (p : ProgramCode) (links : List (List (ℕ × List ℕ))) (n : ℕ) (its : List Group) (old : List LinkImage)
    → its ≡ map group_image (groups_at links n) → its ≡ [] → old ≡ map (link_image p) (grouped_before links n)
    → old ≡ map (link_image p) (grouped_before links (n + 1))
link_passed p links n its old is none so_far =
    let f : ℕ → ℕ × List (ℕ × List ℕ) = λ link. (link, groups_at links link) in
    let more = filter_of_map_range_with_len_more is_grouped f 0 n n (omega arith) in
    so_far ∙ ap (map (link_image p)) (sym (and_none (grouped_before links n)))
    ∙ ap (λ b. map (link_image p) (grouped_before links n ++ cond b (f n ∷ []) [])) (sym (dropped (groups_at links n) (sym is ∙ none)))
    ∙ ap (map (link_image p)) (sym more)

-- the links with a group are those of the image
pub links_are : (p : ProgramCode) (labels : List ℕ) (links : List (List (ℕ × List ℕ))) (n : ℕ)
    → map (λ (m : MessageImage). m.route) (messages_of p labels) ≡ routes_of p
    → map (λ (m : MessageImage). m.label) (messages_of p labels) ≡ labels
    → map (λ (m : MessageImage). m.length) (messages_of p labels) ≡ lengths_of p
    → links ≡ all_groups p labels (lengths_of p)
    → ((link : ℕ) → link < 4 * cell_count p.grid
    → groups_at (all_groups p labels (lengths_of p)) link ≡ groups (routes_of p) labels (lengths_of p) link)
    → n ≡ 4 * cell_count p.grid
    → grouped_before links n ≡ grouped_links p.grid (messages_of p labels)
links_are p labels links n r l s same at long =
    let of : List (List ℕ) → List ℕ → List ℕ → List (ℕ × List (ℕ × List ℕ)) =
    λ r l s. filter is_grouped (map (λ link. (link, groups r l s link)) (below (4 * cell_count p.grid))) in
    ap (λ k. grouped_before links k) long
    ∙ ap (λ ls. grouped_before ls (4 * cell_count p.grid)) same
    ∙ ap (filter is_grouped) (same_map (λ link. (link, groups_at (all_groups p labels (lengths_of p)) link))
    (λ link. (link, groups (routes_of p) labels (lengths_of p) link)) 0 (4 * cell_count p.grid)
    (λ k low high. ap (λ gs. (k, gs)) (at k (omega (arith, high)))))
    ∙ ap (λ x. of x labels (lengths_of p)) (sym r)
    ∙ ap (λ x. of (map (λ (m : MessageImage). m.route) (messages_of p labels)) x (lengths_of p)) (sym l)
    ∙ ap (λ x. of (map (λ (m : MessageImage). m.route) (messages_of p labels)) (map (λ (m : MessageImage). m.label) (messages_of p labels)) x) (sym s)

-- there are as many groups as queues
pub in_groups : (p : ProgramCode) (labels : List ℕ) (links : List (List (ℕ × List ℕ))) (queues : List ℕ) (n : ℕ)
    → links ≡ all_groups p labels (lengths_of p) → queues ≡ p.queues → length p.queues ≡ 4 * cell_count p.grid
    → n < length queues → n < length links
in_groups p labels links queues n same is long inside =
    let many = length-map-range_with_len (groups (routes_of p) labels (lengths_of p)) 0 (4 * cell_count p.grid) in
    subst (λ (ls : List (List (ℕ × List ℕ))). n < length ls) (sym same) (omega (arith, many, long, ap length is, inside))
