-- The groups of a shaped image are those that come of its messages' routes, labels and lengths.
use Rattle.std.proofs.Common.{◌≡◌, ℕ, ◌*◌, ◌<◌, ◌≤◌, max, Bool, true, false, cond, ◌&&◌, ◌||◌, nat_eq, nat_lt, List, [], ◌∷◌, length, map, filter, fold, slice_index, slice_index_or, All, refl, sym, ap, subst, ◌∙◌, arith, inl, inr, eqb-true, eq-eqb}
use Rattle.std.proofs.lemmas.Bool.{and_right, cases_Bool, cases_lt, false_from_ne_true, ltb-false, or_left, or_right}
use Rattle.std.proofs.lemmas.List.{get_or-map, length-map, nil_from_length}
use Rattle.std.proofs.lemmas.List.Elements.{All-head, All-tail}
use Rattle.sys_base.specs.Groups.{below, greatest, groups, is_one_of, labelled, rising, users}
use Rattle.array_runs.specs.Grouping.{GroupsCome}
use Rattle.array_runs.proofs.Members.{below_member, find_place, member_below}
use Rattle.cell_code.specs.Images.{IsShaped, IsShapedMessage, link_groups}
use Rattle.cell_code.specs.Marks.{groups_of, hops, link_at, link_of, message_of, no_message}
use Rattle.cell_code.specs.declared.image.Group.{Group}
use Rattle.cell_code.specs.declared.image.Image.{Image}
use Rattle.cell_code.specs.declared.image.LinkImage.{LinkImage}
use Rattle.cell_code.specs.declared.image.MessageImage.{MessageImage}
use Rattle.array_model.specs.States.{cells}
use Rattle.array_model.proofs.Mapped.{Bindable, frame}
use Rattle.array_model.proofs.Routes.{links_inside, some_links}

-- ---- lists

-- what stands beside a number in a list, if it stands there
abbrev look : List (ℕ × List (ℕ × List ℕ)) → ℕ → List (ℕ × List ℕ)
look [] l = []
look (x ∷ xs) l = cond (nat_eq l x.0) x.1 (look xs l)

abbrev members : List (ℕ × List ℕ) → List (List ℕ)
members gs = map (λ (g : ℕ × List ℕ). g.1) gs

member_lists : (gs : List Group) → members (map (λ (g : Group). (g.label, g.members)) gs) ≡ map (λ (g : Group). g.members) gs
member_lists [] = refl
member_lists (g ∷ gs) = ap (λ r. g.members ∷ r) (member_lists gs)

look_links : (links : List LinkImage) (l : ℕ)
    → members (look (map link_groups links) l) ≡ map (λ (g : Group). g.members) (link_of links l).groups
look_links [] l = refl
look_links (link ∷ links) l =
    let ih : members (look (map link_groups links) l) ≡ map (λ (g : Group). g.members) (link_of links l).groups = look_links links l in
    let mine : Bool → List (List ℕ) = λ b. members (cond b (link_groups link).1 (look (map link_groups links) l)) in
    let theirs : Bool → List (List ℕ) = λ b. map (λ (g : Group). g.members) (cond b link (link_of links l)).groups in
    elim (cases_Bool (nat_eq l link.link)) [
      | inl t ↦ ap mine t ∙ member_lists link.groups ∙ sym (ap theirs t)
      | inr t ↦ ap mine t ∙ ih ∙ sym (ap theirs t)
    ]

abbrev is_grouped : ℕ × List (ℕ × List ℕ) → Bool
is_grouped link = nat_lt 0 (length link.1)

cond_none : (b : Bool) (gs : List (ℕ × List ℕ)) → gs ≡ [] → cond b gs [] ≡ []
cond_none true gs e = e
cond_none false gs e = refl

look_kept : (f : ℕ → List (ℕ × List ℕ)) (xs : List ℕ) (l : ℕ)
    → look (filter is_grouped (map (λ k. (k, f k)) xs)) l ≡ cond (is_one_of xs l) (f l) []
look_kept f [] l = refl
look_kept f (x ∷ xs) l =
    let ih : look (filter is_grouped (map (λ k. (k, f k)) xs)) l ≡ cond (is_one_of xs l) (f l) [] = look_kept f xs l in
    let rest = filter is_grouped (map (λ k. (k, f k)) xs) in
    let goal : Bool → List (ℕ × List ℕ) = λ b. cond (b || is_one_of xs l) (f l) [] in
    let with_it : Bool → List (ℕ × List ℕ) = λ b. look (cond b ((x, f x) ∷ rest) rest) l in
    elim (cases_Bool (is_grouped (x, f x))) [
      | inl t ↦ elim (cases_Bool (nat_eq l x)) [
        | inl e ↦
            ap with_it t ∙ ap (λ b. cond b (f x) (look rest l)) e ∙ ap f (sym (eqb-true l x e)) ∙ sym (ap goal e)
        | inr e ↦ ap with_it t ∙ ap (λ b. cond b (f x) (look rest l)) e ∙ ih ∙ sym (ap goal e)
      ]
      | inr t ↦ elim (cases_Bool (nat_eq l x)) [
        | inl e ↦
            let short : length (f x) ≤ 0 = ltb-false 0 (length (f x)) t in
            let none : f l ≡ [] = ap f (eqb-true l x e) ∙ nil_from_length (f x) (omega arith) in
            ap with_it t ∙ ih ∙ cond_none (is_one_of xs l) (f l) none ∙ sym none ∙ sym (ap goal e)
        | inr e ↦ ap with_it t ∙ ih ∙ sym (ap goal e)
      ]
    ]

none_kept : (test : ℕ → Bool) (xs : List ℕ) → ((m : ℕ) → is_one_of xs m ≡ true → test m ≡ false) → filter test xs ≡ []
none_kept test [] h = refl
none_kept test (x ∷ xs) h =
    ap (λ b. cond b (x ∷ filter test xs) (filter test xs)) (h x (or_left _ _ (eq-eqb x x refl)))
    ∙ none_kept test xs (λ m t. h m (or_right _ _ t))

greatest_within : (a q : ℕ) (gs : List (List ℕ)) → a ≤ q → All (λ (g : List ℕ). length g ≤ q) gs
    → fold max a (map (λ (g : List ℕ). length g) gs) ≤ q
greatest_within a q [] h all = h
greatest_within a q (g ∷ gs) h all =
    greatest_within (max a (length g)) q gs
    (omega (arith, h, All-head (λ (x : List ℕ). length x ≤ q) g gs all)) (All-tail (λ (x : List ℕ). length x ≤ q) g gs all)

lengths_of : (gs : List (ℕ × List ℕ)) → map (λ (g : ℕ × List ℕ). length g.1) gs ≡ map (λ (g : List ℕ). length g) (members gs)
lengths_of [] = refl
lengths_of (g ∷ gs) = ap (λ r. length g.1 ∷ r) (lengths_of gs)

-- ---- the image

module _ (image : Image) (shaped : IsShaped image) where
  abbrev pub routes : List (List ℕ)
  routes = map (λ (m : MessageImage). m.route) image.messages

  abbrev pub labels : List ℕ
  labels = map (λ (m : MessageImage). m.label) image.messages

  abbrev pub lengths : List ℕ
  lengths = map (λ (m : MessageImage). m.length) image.messages

  abbrev all_links : ℕ
  all_links = 4 * cells image

  pub shaped_message : (m : ℕ) → m < length image.messages → IsShapedMessage image.grid (message_of image m)
  shaped_message m l = shaped.messages m no_message l

  pub reaches : (m : ℕ) → m < length image.messages → 0 < hops image m
  reaches m l =
      let s = shaped_message m l in
      some_links image.grid _ s.path.leads.0 _ _ s.path.leads.1 s.apart

  pub linked : (m i : ℕ) → m < length image.messages → i < hops image m → link_at image m i < all_links
  linked m i l h =
      let s = shaped_message m l in
      links_inside image.grid _ s.path.leads.0 _ _ i s.path.leads.1 s.from h

  route_is : (m : ℕ) → m < length image.messages → (message_of image m).route ≡ slice_index_or routes m []
  route_is m l = sym (get_or-map (λ (x : MessageImage). x.route) image.messages m no_message [] l)

  groups_are : (l : ℕ) → groups_of image l ≡ members (cond (is_one_of (below all_links) l) (groups routes labels lengths l) [])
  groups_are l =
      sym (look_links image.links l) ∙ ap (λ xs. members (look xs l)) shaped.links
      ∙ ap members (look_kept (groups routes labels lengths) (below all_links) l)

  -- past the last link there is no group
  pub none_past : Bindable image
  none_past l h =
      groups_are l ∙ ap (λ b. members (cond b (groups routes labels lengths l) []))
      (false_from_ne_true _ (λ t. omega (arith, member_below all_links l t)))

  no_users : (l : ℕ) → all_links ≤ l → users routes lengths l ≡ []
  no_users l h =
      none_kept (λ m. nat_lt 0 (slice_index lengths m) && is_one_of (slice_index_or routes m []) l) (below (length routes))
      (λ m t.
      let known : m < length image.messages =
      omega (arith, member_below (length routes) m t, length-map image.messages (λ (x : MessageImage). x.route))
      in
      and_right _ _ (false_from_ne_true _ (λ there.
      let f = find_place (message_of image m).route l
      (subst (λ r. is_one_of r l ≡ true) (sym (route_is m known)) there)
      in
      omega (arith, f.is, h, linked m f.place known f.inside))))

  groups_same : (l : ℕ) → groups_of image l ≡ members (groups routes labels lengths l)
  groups_same l =
      elim (cases_lt l all_links) [
        | inl h ↦
            groups_are l ∙ ap (λ b. members (cond b (groups routes labels lengths l) [])) (below_member all_links l h)
        | inr h ↦
            let none : members (groups routes labels lengths l) ≡ [] =
            ap (λ us. members (map (λ label. (label, labelled labels us label)) (rising (map (slice_index labels) us))))
            (no_users l h)
            in
            none_past l h ∙ sym none
      ]

  pub groups_come : ((l : ℕ) → All (λ (group : List ℕ). length group ≤ (link_of image.links l).queues) (groups_of image l))
      → GroupsCome (frame image) routes labels lengths
  groups_come fits =
      record {
        messages = sym (length-map image.messages (λ (x : MessageImage). x.route));
        route = λ m l. route_is m l;
        label = λ m l. sym (get_or-map (λ (x : MessageImage). x.label) image.messages m no_message 0 l);
        words = λ m l. sym (get_or-map (λ (x : MessageImage). x.length) image.messages m no_message 0 l);
        groups_of = λ l. groups_same l;
        enough = λ l.
            subst (λ ns. greatest ns ≤ (link_of image.links l).queues) (sym (lengths_of (groups routes labels lengths l)))
            (subst (λ gs. greatest (map (λ (g : List ℕ). length g) gs) ≤ (link_of image.links l).queues) (groups_same l)
            (greatest_within 0 (link_of image.links l).queues (groups_of image l) (omega arith) (fits l)));
      }
