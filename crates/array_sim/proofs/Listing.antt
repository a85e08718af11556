-- The actors that may be enabled at some time include each that is enabled.
use Rattle.std.proofs.Common.{◌≡◌, ℕ, ◌+◌, ◌*◌, ◌<◌, ◌||◌, ◌++◌, pred, Bool, true, false, cond, nat_eq, nat_lt, List, [], ◌∷◌, length, get_or, take, map, filter, refl, ap, sym, subst, ◌∙◌, arith, inl, inr, eqb-true}
use Rattle.std.specs.List.{flat_map, list_any}
use Rattle.std.specs.Option.{is_some}
use Rattle.std.proofs.lemmas.Bool.{and_parts, cases_Bool, or_cases, or_left, or_right, ltb-true}
use Rattle.std.proofs.lemmas.List.{append-nil}
use Rattle.std.proofs.lemmas.List.Elements.{filter-append, filter_more}
use Rattle.sys_base.specs.Groups.{below, groups}
use Rattle.sys_base.specs.declared.actor.Actor.{Actor}
use Rattle.sys_base.specs.declared.actor.Actor.TheVariants.{Cell, Forward, Bind}
use Rattle.cell_code.specs.Images.{IsShaped, link_groups}
use Rattle.cell_code.specs.Marks.{groups_of, hops, link_of, may_bind}
use Rattle.cell_code.specs.declared.image.Group.{Group}
use Rattle.cell_code.specs.declared.image.Image.{Image}
use Rattle.cell_code.specs.declared.image.LinkImage.{LinkImage}
use Rattle.cell_code.specs.declared.image.MessageImage.{MessageImage}
use Rattle.array_model.specs.States.{ArrayState, Inputs, cells}
use Rattle.array_model.specs.Steps.{enabled, is_enabled, where_holds}
use Rattle.array_sim.specs.bodies.Inside.{scanned}

-- a state is there just where the test holds
pub where_some : (b : Bool) (s : ArrayState) → is_some (where_holds b s) ≡ b
where_some true s = refl
where_some false s = refl

-- ---- links with a group

abbrev Named : Type 0
Named = ℕ × List (ℕ × List ℕ)

abbrev is_grouped : Named → Bool
is_grouped x = nat_lt 0 (length x.1)

abbrev named : List Named → ℕ → Bool
named xs l = list_any (λ (x : Named). nat_eq l x.0) xs

named_link : (links : List LinkImage) (l : ℕ) → 0 < length (map (λ (g : Group). g.members) (link_of links l).groups)
    → named (map link_groups links) l ≡ true
named_link [] l h = absurd (omega arith)
named_link (link ∷ links) l h =
    let ih : 0 < length (map (λ (g : Group). g.members) (link_of links l).groups)
    → named (map link_groups links) l ≡ true =
    named_link links l
    in
    elim (cases_Bool (nat_eq l link.link)) [
      | inl t ↦ or_left _ _ t
      | inr t ↦
          or_right _ _
          (ih (subst (λ b. 0 < length (map (λ (g : Group). g.members) (cond b link (link_of links l)).groups)) t h))
    ]

named_kept : (f : ℕ → List (ℕ × List ℕ)) (xs : List ℕ) (l : ℕ)
    → named (filter is_grouped (map (λ k. (k, f k)) xs)) l ≡ true → is_grouped (l, f l) ≡ true
named_kept f [] l h = absurd (cc)
named_kept f (x ∷ xs) l h =
    let ih : named (filter is_grouped (map (λ k. (k, f k)) xs)) l ≡ true
    → is_grouped (l, f l) ≡ true = named_kept f xs l in
    let rest = filter is_grouped (map (λ k. (k, f k)) xs) in
    elim (cases_Bool (is_grouped (x, f x))) [
      | inl t ↦
          let here : (nat_eq l x || named rest l) ≡ true =
          subst (λ b. named (cond b ((x, f x) ∷ rest) rest) l ≡ true) t h
          in
          elim (or_cases (nat_eq l x) (named rest l) here) [
            | inl e ↦ subst (λ k. is_grouped (k, f k) ≡ true) (sym (eqb-true l x e)) t
            | inr e ↦ ih e
          ]
      | inr t ↦ ih (subst (λ b. named (cond b ((x, f x) ∷ rest) rest) l ≡ true) t h)
    ]

bound_links : (links : List LinkImage)
    → map (λ (link : LinkImage). Bind link.link) links ≡ map (λ (x : Named). Bind x.0) (map link_groups links)
bound_links [] = refl
bound_links (link ∷ links) = ap (λ r. Bind link.link ∷ r) (bound_links links)

kept_links : (p : Actor → Bool) (f : ℕ → List (ℕ × List ℕ)) (xs : List ℕ)
    → ((l : ℕ) → p (Bind l) ≡ true → is_grouped (l, f l) ≡ true)
    → filter p (map (λ (x : Named). Bind x.0) (filter is_grouped (map (λ k. (k, f k)) xs))) ≡ filter p (map Bind xs)
kept_links p f [] h = refl
kept_links p f (x ∷ xs) h =
    let ih : filter p (map (λ (y : Named). Bind y.0) (filter is_grouped (map (λ k. (k, f k)) xs))) ≡ filter p
    (map Bind xs) =
    kept_links p f xs h
    in
    let rest = filter is_grouped (map (λ k. (k, f k)) xs) in
    elim (cases_Bool (is_grouped (x, f x))) [
      | inl t ↦
          ap (λ b. filter p (map (λ (y : Named). Bind y.0) (cond b ((x, f x) ∷ rest) rest))) t
          ∙ ap (λ r. cond (p (Bind x)) (Bind x ∷ r) r) ih
      | inr t ↦
          let no : p (Bind x) ≡ false =
          elim (cases_Bool (p (Bind x))) [
            | inl e ↦ let g : is_grouped (x, f x) ≡ true = h x e in absurd (cc)
            | inr e ↦ e
          ]
          in
          ap (λ b. filter p (map (λ (y : Named). Bind y.0) (cond b ((x, f x) ∷ rest) rest))) t
          ∙ ih ∙ sym (ap (λ b. cond b (Bind x ∷ filter p (map Bind xs)) (filter p (map Bind xs))) no)
    ]

-- ---- the whole list

module _ (image : Image) (shaped : IsShaped image) (inputs : Inputs) (cap : ℕ) (s : ArrayState) where
  abbrev test : Actor → Bool
  test = is_enabled image inputs cap s

  abbrev groups_at : ℕ → List (ℕ × List ℕ)
  groups_at l =
      groups (map (λ (m : MessageImage). m.route) image.messages) (map (λ (m : MessageImage). m.label) image.messages)
      (map (λ (m : MessageImage). m.length) image.messages) l

  has_group : (l : ℕ) → test (Bind l) ≡ true → is_grouped (l, groups_at l) ≡ true
  has_group l t =
      let may : may_bind image s.marks s.bound l ≡ true = sym (where_some _ _) ∙ t in
      let some : 0 < length (groups_of image l) =
      omega (arith, ltb-true (s.bound l) (length (groups_of image l)) (and_parts _ _ may).0)
      in
      named_kept groups_at (below (4 * cells image)) l
      (subst (λ xs. named xs l ≡ true) shaped.links (named_link image.links l some))

  links_are : filter test (map (λ (link : LinkImage). Bind link.link) image.links)
      ≡ filter test (map Bind (below (4 * cells image)))
  links_are =
      ap (filter test) (bound_links image.links) ∙ ap
      (λ xs. filter test (map (λ (x : Named). Bind x.0) xs)) shaped.links
      ∙ kept_links test groups_at (below (4 * cells image)) has_group

  abbrev first : List Actor
  first = map Cell (below (cells image))

  abbrev second : List Actor
  second = flat_map (λ m. map (Forward m) (below (pred (hops image m)))) (below (length image.messages))

  abbrev third : List Actor
  third = map (λ (link : LinkImage). Bind link.link) image.links

  abbrev all_links : List Actor
  all_links = map Bind (below (4 * cells image))

  pub enabled_is : filter test (scanned image) ≡ enabled image inputs cap s
  enabled_is =
      filter-append test first (second ++ third) ∙ ap (λ r. filter test first ++ r) (filter-append test second third)
      ∙ ap (λ r. filter test first ++ (filter test second ++ r)) links_are
      ∙ sym (ap (λ r. filter test first ++ r) (filter-append test second all_links))
      ∙ sym (filter-append test first (second ++ all_links))

-- ---- the list, made by a scan

-- one actor more: it is listed where it passes
list_more : (p : Actor → Bool) (xs items new : List Actor) (i : ℕ) (d : Actor) (b : Bool) → i < length xs
    → items ≡ filter p (take i xs) → b ≡ p (get_or xs i d) → new ≡ items ++ cond b (get_or xs i d ∷ []) []
    → new ≡ filter p (take (i + 1) xs)
list_more p xs items new i d b k before is after =
    after ∙ ap (λ r. r ++ cond b (get_or xs i d ∷ []) []) before
    ∙ ap (λ t. filter p (take i xs) ++ cond t (get_or xs i d ∷ []) []) is ∙ sym (filter_more p xs i d k)

pub list_taken : (p : Actor → Bool) (xs items new : List Actor) (i : ℕ) (d : Actor) (b : Bool) → i < length xs
    → items ≡ filter p (take i xs) → b ≡ p (get_or xs i d) → b ≡ true → new ≡ items ++ get_or xs i d ∷ []
    → new ≡ filter p (take (i + 1) xs)
list_taken p xs items new i d b k before is passes after =
    list_more p xs items new i d b k before is
    (after ∙ ap (λ t. items ++ cond t (get_or xs i d ∷ []) []) (sym passes))

pub list_left : (p : Actor → Bool) (xs items new : List Actor) (i : ℕ) (d : Actor) (b : Bool) → i < length xs
    → items ≡ filter p (take i xs) → b ≡ p (get_or xs i d) → b ≡ false → new ≡ items → new ≡ filter p (take (i + 1) xs)
list_left p xs items new i d b k before is fails after =
    list_more p xs items new i d b k before is
    (after ∙ sym (append-nil items) ∙ ap (λ t. items ++ cond t (get_or xs i d ∷ []) []) (sym fails))
