-- The groups of a shaped image are those that come of its messages' routes, labels and lengths.
use Rattle.std.proofs.Common.{◌≡◌, ℕ, zero, suc, ◌+◌, ◌*◌, ◌<◌, ◌≤◌, Bool, true, false, cond, ◌&&◌, ◌||◌, nat_eq, nat_lt, List, [], ◌∷◌, ◌++◌, length, map, filter, count_by, slice_index, slice_index_or, refl, sym, ap, subst, ◌∙◌, arith, inl, inr, eqb-true, eq-eqb}
use Rattle.std.specs.List.{concat, range_with_len}
use Rattle.std.proofs.lemmas.Bool.{and_right, both_ways, cases_Bool, cases_lt, false_from_ne_true, ltb-false, or_left, or_right}
use Rattle.std.proofs.lemmas.List.{get_or-map, length-map, nil_from_length}
use Rattle.std.proofs.lemmas.List.Sums.{sum_by-append, sum_by-cons}
use Rattle.sys_base.specs.Grid.{cell_count}
use Rattle.sys_base.specs.Groups.{below, greatest, groups, is_one_of, labelled, need, rising, users}
use Rattle.array_runs.specs.Frame.{Frame}
use Rattle.array_runs.specs.Regular.{IsGrouped}
use Rattle.array_runs.proofs.GroupsCome.{groups_grouped}
use Rattle.array_runs.proofs.Members.{below_member, find_place, member_below}
use Rattle.cell_code.specs.Images.{IsShaped, IsShapedMessage, link_groups}
use Rattle.cell_code.specs.Marks.{groups_of, hops, link_at, link_of, message_of, no_message}
use Rattle.cell_code.specs.declared.image.Group.{Group}
use Rattle.cell_code.specs.declared.image.Image.{Image}
use Rattle.cell_code.specs.declared.image.LinkImage.{LinkImage}
use Rattle.cell_code.specs.declared.image.MessageImage.{MessageImage}
use Rattle.link_queues.proofs.Routes.{links_inside, some_links}

-- what stands beside a number in a list, if it stands there
abbrev look : List (ℕ × List (ℕ × List ℕ)) → ℕ → List (ℕ × List ℕ)
look [] l = []
look (x ∷ xs) l = cond (nat_eq l x.0) x.1 (look xs l)

abbrev members : List (ℕ × List ℕ) → List (List ℕ)
members gs = map (λ (g : ℕ × List ℕ). g.1) gs

member_lists : (gs : List Group) → members (map (λ (g : Group). (g.label, g.members)) gs) ≡ map (λ (g : Group). g.members) gs
member_lists [] = refl
member_lists (g ∷ gs) = ap (λ r. g.members ∷ r) (member_lists gs)

look_links : (links : List LinkImage) (l : ℕ)
    → members (look (map link_groups links) l) ≡ map (λ (g : Group). g.members) (link_of links l).groups
look_links [] l = refl
look_links (link ∷ links) l =
    let ih : members (look (map link_groups links) l) ≡ map (λ (g : Group). g.members) (link_of links l).groups = look_links links l in
    let mine : Bool → List (List ℕ) = λ b. members (cond b (link_groups link).1 (look (map link_groups links) l)) in
    let theirs : Bool → List (List ℕ) = λ b. map (λ (g : Group). g.members) (cond b link (link_of links l)).groups in
    elim (cases_Bool (nat_eq l link.link)) [
      | inl t ↦ ap mine t ∙ member_lists link.groups ∙ sym (ap theirs t)
      | inr t ↦ ap mine t ∙ ih ∙ sym (ap theirs t)
    ]

abbrev is_grouped : ℕ × List (ℕ × List ℕ) → Bool
is_grouped link = nat_lt 0 (length link.1)

cond_none : (b : Bool) (gs : List (ℕ × List ℕ)) → gs ≡ [] → cond b gs [] ≡ []
cond_none true gs e = e
cond_none false gs e = refl

look_kept : (f : ℕ → List (ℕ × List ℕ)) (xs : List ℕ) (l : ℕ)
    → look (filter is_grouped (map (λ k. (k, f k)) xs)) l ≡ cond (is_one_of xs l) (f l) []
look_kept f [] l = refl
look_kept f (x ∷ xs) l =
    let ih : look (filter is_grouped (map (λ k. (k, f k)) xs)) l ≡ cond (is_one_of xs l) (f l) [] = look_kept f xs l in
    let rest = filter is_grouped (map (λ k. (k, f k)) xs) in
    let goal : Bool → List (ℕ × List ℕ) = λ b. cond (b || is_one_of xs l) (f l) [] in
    let with_it : Bool → List (ℕ × List ℕ) = λ b. look (cond b ((x, f x) ∷ rest) rest) l in
    elim (cases_Bool (is_grouped (x, f x))) [
      | inl t ↦ elim (cases_Bool (nat_eq l x)) [
        | inl e ↦
            ap with_it t ∙ ap (λ b. cond b (f x) (look rest l)) e ∙ ap f (sym (eqb-true l x e)) ∙ sym (ap goal e)
        | inr e ↦ ap with_it t ∙ ap (λ b. cond b (f x) (look rest l)) e ∙ ih ∙ sym (ap goal e)
      ]
      | inr t ↦ elim (cases_Bool (nat_eq l x)) [
        | inl e ↦
            let short : length (f x) ≤ 0 = ltb-false 0 (length (f x)) t in
            let none : f l ≡ [] = ap f (eqb-true l x e) ∙ nil_from_length (f x) (omega arith) in
            ap with_it t ∙ ih ∙ cond_none (is_one_of xs l) (f l) none ∙ sym none ∙ sym (ap goal e)
        | inr e ↦ ap with_it t ∙ ih ∙ sym (ap goal e)
      ]
    ]

none_kept : (test : ℕ → Bool) (xs : List ℕ) → ((m : ℕ) → is_one_of xs m ≡ true → test m ≡ false) → filter test xs ≡ []
none_kept test [] h = refl
none_kept test (x ∷ xs) h =
    ap (λ b. cond b (x ∷ filter test xs) (filter test xs)) (h x (or_left _ _ (eq-eqb x x refl)))
    ∙ none_kept test xs (λ m t. h m (or_right _ _ t))

-- ---- how often a number stands in a list

abbrev pub times : ℕ → List ℕ → ℕ
times m xs = count_by (nat_eq m) xs

pub times_cons : (m x : ℕ) (xs : List ℕ) → times m (x ∷ xs) ≡ cond (nat_eq m x) 1 0 + times m xs
times_cons m x xs = sum_by-cons (λ y. cond {A = ℕ} (nat_eq m y) 1 0) x xs

pub times_append : (m : ℕ) (xs ys : List ℕ) → times m (xs ++ ys) ≡ times m xs + times m ys
times_append m xs ys = sum_by-append (λ y. cond {A = ℕ} (nat_eq m y) 1 0) xs ys

times_filter : (m : ℕ) (p : ℕ → Bool) (xs : List ℕ) → times m (filter p xs) ≤ times m xs
times_filter m p [] = omega arith
times_filter m p (x ∷ xs) =
    let ih : times m (filter p xs) ≤ times m xs = times_filter m p xs in
    elim (cases_Bool (p x)) [
      | inl t ↦ omega (arith, ih, times_cons m x xs, times_cons m x (filter p xs), ap (λ b. times m (cond b (x ∷ filter p xs) (filter p xs))) t)
      | inr t ↦ omega (arith, ih, times_cons m x xs, ap (λ b. times m (cond b (x ∷ filter p xs) (filter p xs))) t)
    ]

times_out : (m : ℕ) (p : ℕ → Bool) (xs : List ℕ) → p m ≡ false → times m (filter p xs) ≡ 0
times_out m p [] f = refl
times_out m p (x ∷ xs) f =
    let ih : times m (filter p xs) ≡ 0 = times_out m p xs f in
    elim (cases_Bool (p x)) [
      | inl t ↦
          let apart : nat_eq m x ≡ false = false_from_ne_true _ (λ e. both_ways (p m) f (ap p (eqb-true m x e) ∙ t)) in
          omega (
            arith,
            ih,
            times_cons m x (filter p xs),
            ap (λ b. cond {A = ℕ} b 1 0) apart,
            ap (λ b. times m (cond b (x ∷ filter p xs) (filter p xs))) t,
          )
      | inr t ↦ omega (arith, ih, ap (λ b. times m (cond b (x ∷ filter p xs) (filter p xs))) t)
    ]

times_range : (m a n : ℕ) → (times m (range_with_len a n) ≤ 1) × (m < a → times m (range_with_len a n) ≡ 0)
times_range m a zero = (omega arith, λ h. refl)
times_range m a (suc n) =
    let ih : (times m (range_with_len (a + 1) n) ≤ 1) × (m < a + 1 → times m (range_with_len (a + 1) n) ≡ 0) =
    times_range m (a + 1) n
    in
    elim (cases_Bool (nat_eq m a)) [
      | inl e ↦
          let here : m ≡ a = eqb-true m a e in
          let none : times m (range_with_len (a + 1) n) ≡ 0 = ih.1 (omega (arith, here)) in
          let all : times m (range_with_len a (suc n)) ≡ 1 =
          omega (arith, none, times_cons m a (range_with_len (a + 1) n), ap (λ b. cond {A = ℕ} b 1 0) e)
          in
          (omega (arith, all), λ h. absurd (omega (arith, h, here)))
      | inr e ↦
          let all : times m (range_with_len a (suc n)) ≡ times m (range_with_len (a + 1) n) =
          omega (arith, times_cons m a (range_with_len (a + 1) n), ap (λ b. cond {A = ℕ} b 1 0) e)
          in
          (omega (arith, all, ih.0), λ h. all ∙ ih.1 (omega (arith, h)))
    ]

times_below : (m n : ℕ) → times m (below n) ≤ 1
times_below m n = (times_range m 0 n).0

times_rising : (m : ℕ) (xs : List ℕ) → times m (rising xs) ≤ 1
times_rising m xs =
    omega (arith, times_filter m (is_one_of xs) (below (1 + greatest xs)), times_below m (1 + greatest xs))

module _ (labels us : List ℕ) (m : ℕ) (once : times m us ≤ 1) where
  times_groups : (ts : List ℕ)
      → times m (concat (members (map (λ label. (label, labelled labels us label)) ts))) ≤ times (slice_index labels m) ts
  times_groups [] = omega arith
  times_groups (t ∷ ts) =
      let rest = concat (members (map (λ label. (label, labelled labels us label)) ts)) in
      let ih : times m rest ≤ times (slice_index labels m) ts = times_groups ts in
      elim (cases_Bool (nat_eq (slice_index labels m) t)) [
        | inl e ↦ omega (
          arith,
          ih,
          times_append m (labelled labels us t) rest,
          times_cons (slice_index labels m) t ts,
          ap (λ b. cond {A = ℕ} b 1 0) e,
          times_filter m (λ x. nat_eq (slice_index labels x) t) us,
          once,
        )
        | inr e ↦ omega (
          arith,
          ih,
          times_append m (labelled labels us t) rest,
          times_cons (slice_index labels m) t ts,
          ap (λ b. cond {A = ℕ} b 1 0) e,
          times_out m (λ x. nat_eq (slice_index labels x) t) us e,
        )
      ]

-- ---- the image

module _ (image : Image) (shaped : IsShaped image) where
  abbrev pub routes : List (List ℕ)
  routes = map (λ (m : MessageImage). m.route) image.messages

  abbrev pub labels : List ℕ
  labels = map (λ (m : MessageImage). m.label) image.messages

  abbrev pub lengths : List ℕ
  lengths = map (λ (m : MessageImage). m.length) image.messages

  abbrev all_links : ℕ
  all_links = 4 * cell_count image.grid

  pub shaped_message : (m : ℕ) → m < length image.messages → IsShapedMessage image.grid (message_of image m)
  shaped_message m l = shaped.messages m no_message l

  pub reaches : (m : ℕ) → m < length image.messages → 0 < hops image m
  reaches m l =
      let s = shaped_message m l in
      some_links image.grid _ s.path.leads.0 _ _ s.path.leads.1 s.apart

  pub linked : (m i : ℕ) → m < length image.messages → i < hops image m → link_at image m i < all_links
  linked m i l h =
      let s = shaped_message m l in
      links_inside image.grid _ s.path.leads.0 _ _ i s.path.leads.1 s.from h

  route_is : (m : ℕ) → m < length image.messages → (message_of image m).route ≡ slice_index_or routes m []
  route_is m l = sym (get_or-map (λ (x : MessageImage). x.route) image.messages m no_message [] l)

  groups_are : (l : ℕ) → groups_of image l ≡ members (cond (is_one_of (below all_links) l) (groups routes labels lengths l) [])
  groups_are l =
      sym (look_links image.links l) ∙ ap (λ xs. members (look xs l)) shaped.links
      ∙ ap members (look_kept (groups routes labels lengths) (below all_links) l)

  -- past the last link there is no group
  pub none_past : (l : ℕ) → 4 * cell_count image.grid ≤ l → groups_of image l ≡ []
  none_past l h =
      groups_are l ∙ ap (λ b. members (cond b (groups routes labels lengths l) []))
      (false_from_ne_true _ (λ t. omega (arith, member_below all_links l t)))

  no_users : (l : ℕ) → all_links ≤ l → users routes lengths l ≡ []
  no_users l h =
      none_kept (λ m. nat_lt 0 (slice_index lengths m) && is_one_of (slice_index_or routes m []) l) (below (length routes))
      (λ m t.
      let known : m < length image.messages =
      omega (arith, member_below (length routes) m t, length-map image.messages (λ (x : MessageImage). x.route))
      in
      and_right _ _ (false_from_ne_true _ (λ there.
      let f = find_place (message_of image m).route l
      (subst (λ r. is_one_of r l ≡ true) (sym (route_is m known)) there)
      in
      omega (arith, f.is, h, linked m f.place known f.inside))))

  groups_same : (l : ℕ) → groups_of image l ≡ members (groups routes labels lengths l)
  groups_same l =
      elim (cases_lt l all_links) [
        | inl h ↦
            groups_are l ∙ ap (λ b. members (cond b (groups routes labels lengths l) [])) (below_member all_links l h)
        | inr h ↦
            let none : members (groups routes labels lengths l) ≡ [] =
            ap (λ us. members (map (λ label. (label, labelled labels us label)) (rising (map (slice_index labels) us))))
            (no_users l h)
            in
            none_past l h ∙ sym none
      ]

  pub one_group : (l m : ℕ) → count_by (nat_eq m) (concat (groups_of image l)) ≤ 1
  one_group l m =
      let us = users routes lengths l in
      let once : times m us ≤ 1 =
      omega (
        arith,
        times_filter m (λ x. nat_lt 0 (slice_index lengths x) && is_one_of (slice_index_or routes x []) l)
            (below (length routes)),
        times_below m (length routes),
      )
      in
      omega (
        arith,
        ap (λ gs. times m (concat gs)) (groups_same l),
        times_groups labels us m once (rising (map (slice_index labels) us)),
        times_rising (slice_index labels m) (map (slice_index labels) us),
      )

  abbrev frame : Frame
  frame =
      record {
        cells = cell_count image.grid;
        messages = length image.messages;
        links = all_links;
        sender = λ m. (message_of image m).from;
        receiver = λ m. (message_of image m).to;
        words = λ m. (message_of image m).length;
        label = λ m. (message_of image m).label;
        route = λ m. (message_of image m).route;
        queues = λ l. need routes labels lengths l;
        groups = groups_of image;
      }

  pub grouped : IsGrouped frame
  grouped =
      groups_grouped frame routes labels lengths (record {
        messages = sym (length-map image.messages (λ (x : MessageImage). x.route));
        route = λ m l. route_is m l;
        label = λ m l. sym (get_or-map (λ (x : MessageImage). x.label) image.messages m no_message 0 l);
        words = λ m l. sym (get_or-map (λ (x : MessageImage). x.length) image.messages m no_message 0 l);
        groups_of = λ l. groups_same l;
        enough = λ l. omega arith;
      })
