-- The groups that come of routes, labels and lengths are as a regular array has them.
use Rattle.std.proofs.Common.{◌≡◌, ℕ, ◌<◌, ◌≤◌, true, nat_lt, List, [], ◌∷◌, length, get_or, map, slice_index, slice_index_or, refl, sym, ap, subst, ◌∙◌, arith, inl, inr, ltb-true, lt-ltb, eqb-true, eq-eqb, true≢false}
use Rattle.std.specs.List.{concat}
use Rattle.std.proofs.lemmas.Bool.{and_from, and_parts, cases_lt}
use Rattle.std.proofs.lemmas.List.{get_or-map, get_or_past, length-map}
use Rattle.sys_base.specs.Groups.{below, groups, is_one_of, labelled, rising, users}
use Rattle.array_runs.specs.Frame.{Frame, hops, link_at}
use Rattle.array_runs.specs.Grouping.{GroupsCome}
use Rattle.array_runs.specs.Regular.{IsGrouped}
use Rattle.array_runs.proofs.Groups.{among_all, in_later}
use Rattle.array_runs.proofs.Members.{below_member, filter_member, find_place, greatest_member, map_member, member_at, member_below, member_filter, member_map, member_rising, place_of_member, rising_member, rising_rises}

map_pairs : {A : Type 0} (f : ℕ → List ℕ) (h : List ℕ → A) (xs : List ℕ)
    → map (λ (g : ℕ × List ℕ). h g.1) (map (λ t. (t, f t)) xs) ≡ map (λ t. h (f t)) xs
map_pairs f h [] = refl
map_pairs f h (x ∷ xs) = ap (λ r. h (f x) ∷ r) (map_pairs f h xs)

module _ (p : Frame) (routes : List (List ℕ)) (labels lengths : List ℕ) (h : GroupsCome p routes labels lengths) where
  abbrev using : ℕ → List ℕ
  using l = users routes lengths l

  -- the labels of a link's groups
  abbrev ranks : ℕ → List ℕ
  ranks l = rising (map (slice_index labels) (using l))

  abbrev group : ℕ → ℕ → List ℕ
  group l t = labelled labels (using l) t

  groups_are : (l : ℕ) → p.groups l ≡ map (group l) (ranks l)
  groups_are l = h.groups_of l ∙ map_pairs (group l) (λ g. g) (ranks l)

  -- a message that goes by a link, with words
  record Uses (l m : ℕ) : Type 0 where
    known : m < p.messages
    words : 0 < p.words m
    route : is_one_of (p.route m) l ≡ true

  uses : (l m : ℕ) → is_one_of (using l) m ≡ true → Uses l m
  uses l m t =
      let f = member_filter _ (below (length routes)) m t in
      let parts = and_parts (nat_lt 0 (slice_index lengths m)) (is_one_of (slice_index_or routes m []) l) f.1 in
      let known : m < p.messages = omega (arith, member_below (length routes) m f.0, h.messages) in
      let some : 0 < slice_index lengths m = ltb-true _ _ parts.0 in
      record {
        known = known;
        words = omega (arith, some, h.words m known);
        route = ap (λ r. is_one_of r l) (h.route m known) ∙ parts.1;
      }

  user : (l m : ℕ) → Uses l m → is_one_of (using l) m ≡ true
  user l m u =
      let some : 0 < slice_index lengths m = omega (arith, u.words, h.words m u.known) in
      filter_member _ (below (length routes)) m (below_member (length routes) m (omega (arith, u.known, h.messages)))
      (and_from _ _ (lt-ltb _ _ some) (sym (ap (λ r. is_one_of r l) (h.route m u.known)) ∙ u.route))

  -- a member of a group
  record InOne (l j m : ℕ) : Type 0 where
    inside : j < length (ranks l)
    uses_it : Uses l m
    label : slice_index labels m ≡ get_or (ranks l) j 0

  group_at : (l j : ℕ) → j < length (ranks l) → get_or (p.groups l) j [] ≡ group l (get_or (ranks l) j 0)
  group_at l j g = ap (λ r. get_or r j []) (groups_are l) ∙ get_or-map (group l) (ranks l) j 0 [] g

  group_count : (l : ℕ) → length (p.groups l) ≡ length (ranks l)
  group_count l = ap length (groups_are l) ∙ length-map (ranks l) (group l)

  in_one : (l j m : ℕ) → is_one_of (get_or (p.groups l) j []) m ≡ true → InOne l j m
  in_one l j m t =
      elim (cases_lt j (length (ranks l))) [
        | inl g ↦
            let f = member_filter _ (using l) m (subst (λ r. is_one_of r m ≡ true) (group_at l j g) t) in
            record { inside = g; uses_it = uses l m f.0; label = eqb-true _ _ f.1 }
        | inr g ↦ absurd (true≢false (sym t ∙ ap (λ r. is_one_of r m) (get_or_past (p.groups l) j [] (omega (
          arith,
          group_count l,
        )))))
      ]

  in_group_of : (l j m : ℕ) → j < length (ranks l) → is_one_of (using l) m ≡ true
      → slice_index labels m ≡ get_or (ranks l) j 0 → is_one_of (get_or (p.groups l) j []) m ≡ true
  in_group_of l j m g u e =
      subst (λ r. is_one_of r m ≡ true) (sym (group_at l j g)) (filter_member _ (using l) m u (eq-eqb _ _ e))

  grouped_at : (m i : ℕ) → m < p.messages → 0 < p.words m → i < hops p m
      → is_one_of (concat (p.groups (link_at p m i))) m ≡ true
  grouped_at m i l w g =
      let k : ℕ = link_at p m i in
      let u : is_one_of (using k) m ≡ true =
      user k m (record { known = l; words = w; route = member_at (p.route m) i g })
      in
      let r = find_place (ranks k) (slice_index labels m)
      (member_rising (map (slice_index labels) (using k)) (slice_index labels m) (member_map (slice_index labels)
      (using k) m u))
      in
      among_all m (p.groups k) r.place (in_group_of k r.place m r.inside u (sym r.is))

  filled_at : (l j : ℕ) → j < length (p.groups l) → 0 < length (get_or (p.groups l) j [])
  filled_at l j g =
      let inside : j < length (ranks l) = omega (arith, group_count l) in
      let m = map_member (slice_index labels) (using l) (get_or (ranks l) j 0)
      (rising_member (map (slice_index labels) (using l)) (get_or (ranks l) j 0) (member_at (ranks l) j inside))
      in
      let r = find_place (get_or (p.groups l) j []) m.0 (in_group_of l j m.0 inside m.1 m.2) in
      omega (arith, r.inside)

  fits_at : (l j : ℕ) → j < length (p.groups l) → length (get_or (p.groups l) j []) ≤ p.queues l
  fits_at l j g =
      let inside : j < length (ranks l) = omega (arith, group_count l) in
      let t : ℕ = get_or (ranks l) j 0 in
      let size : is_one_of (map (λ g. length g.1) (groups routes labels lengths l)) (length (group l t)) ≡ true =
      subst (λ r. is_one_of r (length (group l t)) ≡ true) (sym (map_pairs (group l) length (ranks l)))
      (member_map (λ n. length (group l n)) (ranks l) t (member_at (ranks l) j inside))
      in
      omega (
        arith,
        ap length (group_at l j inside),
        greatest_member (map (λ (g : ℕ × List ℕ). length g.1) (groups routes labels lengths l)) (length (group l t)) size,
        h.enough l,
      )

  pub groups_grouped : IsGrouped p
  groups_grouped =
      record {
        member = λ l m t.
            let r = in_later m (p.groups l) 0 t refl in
            let u = (in_one l r.0.group m r.0.is).uses_it in
            let at = place_of_member (p.route m) l u.route in
            (u.known, (u.words, (at.0, at.1)));
        grouped = grouped_at;
        filled = filled_at;
        rising = λ l i j k m g a b.
            let x = in_one l i k a in
            let y = in_one l j m b in
            omega (
              arith,
              rising_rises (map (slice_index labels) (using l)) i j g y.inside,
              x.label,
              y.label,
              h.label k x.uses_it.known,
              h.label m y.uses_it.known,
            );
        fits = fits_at;
      }
