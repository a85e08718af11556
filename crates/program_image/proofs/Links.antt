-- The links of the image of a program: their groups, which fit their queues.
use Rattle.std.proofs.Common.{◌≡◌, ℕ, ◌*◌, ◌<◌, ◌≤◌, ◌⊎◌, Bool, true, false, cond, ◌||◌, nat_eq, List, [], ◌∷◌, map, filter, length, get_or, slice_get, slice_index, All, refl, sym, ap, subst, ◌∙◌, inl, inr, arith}
use Rattle.std.proofs.lemmas.Bool.{cases_Bool, eqb-true, ltb-false}
use Rattle.std.proofs.lemmas.List.{length-map, nil_from_length}
use Rattle.std.proofs.lemmas.List.Elements.{All-map, All-nil}
use Rattle.std.proofs.lemmas.Option.{slice_get-get_or}
use Rattle.sys_base.specs.Grid.{cell_count}
use Rattle.sys_base.specs.Groups.{below, groups, is_one_of}
use Rattle.cell_code.specs.Marks.{groups_of, link_of}
use Rattle.cell_code.specs.declared.image.Group.{Group}
use Rattle.cell_code.specs.declared.image.LinkImage.{LinkImage}
use Rattle.cell_code.specs.declared.image.MessageImage.{MessageImage}
use Rattle.cell_types.specs.Code.{ProgramCode}
use Rattle.cell_types.specs.Groups.{groups_on, lengths_of, routes_of}
use Rattle.queue_plan.specs.Grouping.{all_groups, groups_at}
use Rattle.queue_plan.specs.Lacks.{lacks}
use Rattle.program_image.specs.ImageOf.{group_image, image_of, link_image, messages_of}
use Rattle.program_image.proofs.Layers.{GroupsAtLinks, GroupsFit}
use Rattle.program_image.proofs.Listed.{is_grouped, of_link}
use Rattle.program_image.proofs.Lists.{in_range, range_holds}
use Rattle.program_image.proofs.Messages.{labels_are, lengths_are, routes_are}

-- ---- the link with an id among those that have groups

module _ (program : ProgramCode) (f : ℕ → List (ℕ × List ℕ)) where
  abbrev links_of : List ℕ → List LinkImage
  links_of xs = map (link_image program) (filter is_grouped (map (λ k. (k, f k)) xs))

  -- a link has these groups if its id is there, and its queues are those of the program's link unless it has no group
  pub record Is (l : ℕ) (known : Bool) (link : LinkImage) : Type 0 where
    pub groups : link.groups ≡ map group_image (cond known (f l) [])
    pub queues : (link.groups ≡ []) ⊎ (link.queues ≡ slice_index program.queues l)

  here : (l x : ℕ) (xs : List ℕ) → Is l (is_one_of xs l) (link_of (links_of xs) l) → (same : Bool) → nat_eq l x ≡ same
      → Is l (same || is_one_of xs l) (cond same (link_image program (x, f x)) (link_of (links_of xs) l))
  here l x xs ih true e =
      let is : x ≡ l = sym (eqb-true l x e) in
      record {
        groups = ap (λ k. map group_image (f k)) is;
        queues = inr (ap (slice_index program.queues) is);
      }
  here l x xs ih false e = ih

  -- a link without a group is as good as none
  gone : (l x : ℕ) (xs : List ℕ) → f x ≡ [] → Is l (is_one_of xs l) (link_of (links_of xs) l) → (same : Bool)
      → nat_eq l x ≡ same → Is l (same || is_one_of xs l) (link_of (links_of xs) l)
  gone l x xs none ih true e =
      let nothing : f l ≡ [] = ap f (eqb-true l x e) ∙ none in
      let both : cond (is_one_of xs l) (f l) [] ≡ f l =
      elim (cases_Bool (is_one_of xs l)) [
        | inl t ↦ ap (λ b. cond b (f l) []) t
        | inr t ↦ ap (λ b. cond b (f l) []) t ∙ sym nothing
      ]
      in
      record { groups = ih.groups ∙ ap (map group_image) both; queues = ih.queues }
  gone l x xs none ih false e = ih

  pub found : (l : ℕ) (xs : List ℕ) → Is l (is_one_of xs l) (link_of (links_of xs) l)
  found l [] = record { groups = refl; queues = inl refl }
  found l (x ∷ xs) =
      let ih = found l xs in
      let rest = filter is_grouped (map (λ k. (k, f k)) xs) in
      let with_it : Bool → List LinkImage = λ b. map (link_image program) (cond b ((x, f x) ∷ rest) rest) in
      let known : Bool = nat_eq l x || is_one_of xs l in
      elim (cases_Bool (is_grouped (x, f x))) [
        | inl t ↦ subst (λ b. Is l known (link_of (with_it b) l)) (sym t) (here l x xs ih (nat_eq l x) refl)
        | inr t ↦
            let short : length (f x) ≤ 0 = ltb-false 0 (length (f x)) t in
            let none : f x ≡ [] = nil_from_length (f x) (omega (arith, short)) in
            subst (λ b. Is l known (link_of (with_it b) l)) (sym t) (gone l x xs none ih (nat_eq l x) refl)
      ]

-- ---- the image

module _ (program : ProgramCode) (labels : List ℕ) (long : length labels ≡ length program.messages) where
  abbrev count : ℕ
  count = 4 * cell_count program.grid

  -- the groups of a link are the program's
  groups_same : (l : ℕ) → of_link program labels l ≡ groups_on program labels l
  groups_same l =
      ap (λ rs. groups rs (map (λ (m : MessageImage). m.label) (messages_of program labels))
      (map (λ (m : MessageImage). m.length) (messages_of program labels)) l) (routes_are program labels)
      ∙ ap (λ ls. groups (routes_of program) ls (map (λ (m : MessageImage). m.length) (messages_of program labels)) l)
      (labels_are program labels long)
      ∙ ap (λ ns. groups (routes_of program) labels ns l) (lengths_are program labels)

  link_is : (l : ℕ) → Is program (of_link program labels) l (is_one_of (below count) l)
      (link_of (image_of program labels).links l)
  link_is l = found program (of_link program labels) l (below count)

  known : (l : ℕ) → l < count → is_one_of (below count) l ≡ true
  known l h = in_range 0 count l (omega arith) (omega (arith, h))

  -- there are as many groups as the program has there
  pub groups_long : (l : ℕ) → l < count
      → length (groups_of (image_of program labels) l) ≡ length (groups_on program labels l)
  groups_long l h =
      let its = (link_of (image_of program labels).links l).groups in
      length-map its (λ (g : Group). g.members)
      ∙ ap length ((link_is l).groups ∙ ap (λ b. map group_image (cond b (of_link program labels l) [])) (known l h))
      ∙ length-map (of_link program labels l) group_image ∙ ap length (groups_same l)

  module _ (enough : lacks (all_groups program labels (lengths_of program)) program.queues ≡ []) (fit : GroupsFit)
      (at_links : GroupsAtLinks) where
    -- the groups of a link of the program fit its queues
    fitting : (l : ℕ) → l < count
        → All (λ (g : ℕ × List ℕ). length g.1 ≤ slice_index program.queues l) (groups_on program labels l)
    fitting l h = λ k d inside.
        let e : groups_at (all_groups program labels (lengths_of program)) l ≡ groups_on program labels l =
        at_links program labels (lengths_of program) l h in
        fit (all_groups program labels (lengths_of program)) program.queues l k (get_or (groups_on program labels l) k d)
        enough (ap (λ gs. slice_get gs k) e ∙ slice_get-get_or (groups_on program labels l) k d inside)

    abbrev Fits : ℕ → List Group → Type 0
    Fits queues gs = All (λ (group : List ℕ). length group ≤ queues) (map (λ (g : Group). g.members) gs)

    -- as groups of the image
    fits_there : (l : ℕ) → l < count → Fits (slice_index program.queues l) (map group_image (of_link program labels l))
    fits_there l h =
        subst (λ gs. Fits (slice_index program.queues l) (map group_image gs)) (sym (groups_same l))
        (All-map (λ (group : List ℕ). length group ≤ slice_index program.queues l) (λ (g : Group). g.members)
        (map group_image (groups_on program labels l))
        (All-map (λ (g : Group). length g.members ≤ slice_index program.queues l) group_image (groups_on program labels l)
        (fitting l h)))

    pub fits : (l : ℕ) → All (λ (group : List ℕ). length group ≤ (link_of (image_of program labels).links l).queues)
        (groups_of (image_of program labels) l)
    fits l =
        let link = link_of (image_of program labels).links l in
        let is = link_is l in
        let nothing : link.groups ≡ [] → Fits link.queues link.groups =
        λ e. subst (Fits link.queues) (sym e) (All-nil (λ (group : List ℕ). length group ≤ link.queues)) in
        elim (cases_Bool (is_one_of (below count) l)) [
          | inl t ↦
              let e : link.groups ≡ map group_image (of_link program labels l) =
              is.groups ∙ ap (λ b. map group_image (cond b (of_link program labels l) [])) t in
              let inside : l < count = omega (arith, range_holds 0 count l t) in
              elim (is.queues) [
                | inl none ↦ nothing none
                | inr same ↦
                    subst (λ q. Fits q link.groups) (sym same)
                    (subst (Fits (slice_index program.queues l)) (sym e) (fits_there l inside))
              ]
          | inr t ↦ nothing (is.groups ∙ ap (λ b. map group_image (cond b (of_link program labels l) [])) t)
        ]
