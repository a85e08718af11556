-- The first group of a link with a label, and the first lack of the links of a program.
use Rattle.std.proofs.Common.{◌≡◌, ℕ, zero, suc, ◌+◌, ◌*◌, ◌<◌, ◌⊎◌, ◌&&◌, Bool, true, false, cond, List, [], ◌∷◌, ◌++◌, Option, None, Some, All, inl, inr, filter_map, find, flat_map, length, map, nat_eq, nat_lt, slice_get, slice_index, slice_index_or, take, refl, sym, ap, subst, ◌∙◌, ⊎_elim, add-one, arith}
use Rattle.std.proofs.lemmas.Bool.{cases_eq, eq-eqb, ne_eqb}
use Rattle.std.proofs.lemmas.List.Elements.{All-filter, All-from_get_or, All-head, All-map, All-nil, All-tail}
use Rattle.std.proofs.lemmas.List.FromFn.{get_or-map-range_with_len, get_or-range_with_len, length-map-range_with_len, length-range_with_len}
use Rattle.std.proofs.lemmas.List.{length-map}
use Rattle.std.proofs.lemmas.Option.{none-some, same_Some, slice_get_within}
use Rattle.std.specs.List.{cons_option, range_with_len}
use Rattle.std.specs.Option.{option_map, option_map_or}
use Rattle.sys_base.specs.Grid.{cell_count}
use Rattle.cell_types.specs.Code.{ProgramCode}
use Rattle.cell_types.specs.Groups.{below, groups, is_one_of, labelled, lengths_of, rising, route, routes_of, users}
use Rattle.cell_types.specs.declared.program.Message.{Message}
use Rattle.queue_plan.specs.Grouping.{all_groups, groups_at}
use Rattle.queue_plan.specs.Lacks.{lack_of}
use Rattle.queue_plan.specs.declared.lack.Lack.{Lack}
use Rattle.accept.specs.bodies.Answers.{AreKnown, members_at}
use Rattle.accept.specs.Labelled.{lacks_of, members_of}

-- whether a group has the label
abbrev pub is_of : ℕ → ℕ × List ℕ → Bool
is_of label group = nat_eq group.0 label

-- ---- the first that passes

-- where nothing is found in a front of a list, its first does not pass, and the list finds what is found behind it
behind : {A : Type 0} (b : Bool) (y : A) (o found answer : Option A) → cond b (Some y) o ≡ None → (o ≡ None → found ≡ answer)
    → cond b (Some y) found ≡ answer
behind true y o found answer none rest = absurd (none-some y (sym none))
behind false y o found answer none rest = rest none

-- nothing passes up to one that does not pass either
none_more : {A : Type 0} (p : A → Bool) (xs : List A) (i : ℕ) (x : A) → find p (take i xs) ≡ None → slice_get xs i ≡ Some x
    → p x ≡ false → find p (take (suc i) xs) ≡ None
none_more p [] i x none at fails = refl
none_more p (y ∷ ys) zero x none at fails =
    let same : y ≡ x = cc in ap (λ b. cond b (Some y) None) (ap p same ∙ fails)
none_more p (y ∷ ys) (suc i) x none at fails =
    behind (p y) y (find p (take i ys)) (find p (take (suc i) ys)) None none (λ h. none_more p ys i x h at fails)

-- one that passes is found where none before it passes
first_passes : {A : Type 0} (p : A → Bool) (xs : List A) (i : ℕ) (x : A) → find p (take i xs) ≡ None → slice_get xs i ≡ Some x
    → p x ≡ true → find p xs ≡ Some x
first_passes p [] i x none at passes = at
first_passes p (y ∷ ys) zero x none at passes =
    let same : y ≡ x = cc in ap (λ b. cond b (Some y) (find p ys)) (ap p same ∙ passes) ∙ at
first_passes p (y ∷ ys) (suc i) x none at passes =
    behind (p y) y (find p (take i ys)) (find p ys) (Some x) none (λ h. first_passes p ys i x h at passes)

-- nothing is found where none up to the end passes
none_passes : {A : Type 0} (p : A → Bool) (xs : List A) (i : ℕ) → find p (take i xs) ≡ None → slice_get xs i ≡ None
    → find p xs ≡ None
none_passes p [] i none at = refl
none_passes p (y ∷ ys) zero none at = absurd (none-some y (sym at))
none_passes p (y ∷ ys) (suc i) none at =
    behind (p y) y (find p (take i ys)) (find p ys) None none (λ h. none_passes p ys i h at)

-- ---- the groups of a link

-- the group whose label is read at a place
group_read : (o : Option (ℕ × List ℕ)) (label : ℕ) → Some label ≡ option_map (λ (g : ℕ × List ℕ). g.0) o
    → (g : ℕ × List ℕ) × (o ≡ Some g) × (g.0 ≡ label)
group_read None label is = absurd (none-some label (sym is))
group_read (Some g) label is = (g, refl, cc)

-- no group stands where no label is read
no_group : (o : Option (ℕ × List ℕ)) → None ≡ option_map (λ (g : ℕ × List ℕ). g.0) o → o ≡ None
no_group None is = refl
no_group (Some g) is = absurd (none-some g.0 is)

module _ (links : List (ℕ × List ℕ)) (place : ℕ) where
  -- a place where a label is read is one of the link's
  pub place_within : (other : ℕ) → Some other ≡ option_map (λ (g : ℕ × List ℕ). g.0) (slice_get links place) → place < length links
  place_within other is =
      let g = group_read (slice_get links place) other is in slice_get_within links place g.0 g.1

  module _ (label : ℕ) (none : find (is_of label) (take place links) ≡ None) where
    -- behind a group with another label, still none has the label
    pub next_place : (other : ℕ) → Some other ≡ option_map (λ (g : ℕ × List ℕ). g.0) (slice_get links place) → (other ≡ label → ⊥)
        → find (is_of label) (take (place + 1) links) ≡ None
    next_place other is differ =
        let g = group_read (slice_get links place) other is in
        rw add-one (none_more (is_of label) links place g.0 none g.1 (ne_eqb g.0.0 label (λ e. differ (sym g.2 ∙ e))))

    -- the members of the group where the label is read are those of the first with that label
    pub members_there : (other : ℕ) → Some other ≡ option_map (λ (g : ℕ × List ℕ). g.0) (slice_get links place) → other ≡ label
        → option_map_or (λ (g : ℕ × List ℕ). g.1) (slice_get links place) []
        ≡ option_map_or (λ (g : ℕ × List ℕ). g.1) (find (is_of label) links) []
    members_there other is same =
        let g = group_read (slice_get links place) other is in
        ap (λ o. option_map_or (λ (h : ℕ × List ℕ). h.1) o [])
        (g.1 ∙ sym (first_passes (is_of label) links place g.0 none g.1 (eq-eqb g.0.0 label (g.2 ∙ same))))

    -- where no label is read any more, no group has the label
    pub none_there : None ≡ option_map (λ (g : ℕ × List ℕ). g.0) (slice_get links place)
        → [] ≡ option_map_or (λ (g : ℕ × List ℕ). g.1) (find (is_of label) links) []
    none_there is =
        ap (λ o. option_map_or (λ (h : ℕ × List ℕ). h.1) o [])
        (sym (none_passes (is_of label) links place none (no_group (slice_get links place) is)))

-- where the members of all groups are known, those of the first group with a label are
pub members_known : (p : ℕ × List ℕ → Bool) (links : List (ℕ × List ℕ)) (n : ℕ) → All (λ (g : ℕ × List ℕ). All (λ m. m < n) g.1) links
    → All (λ m. m < n) (option_map_or (λ (g : ℕ × List ℕ). g.1) (find p links) [])
members_known p [] n all = All-nil (λ m. m < n)
members_known p (g ∷ gs) n all =
    pick (p g) (find p gs) (All-head (λ (h : ℕ × List ℕ). All (λ m. m < n) h.1) g gs all)
    (members_known p gs n (All-tail (λ (h : ℕ × List ℕ). All (λ m. m < n) h.1) g gs all))
  where
    -- the first group, or what is found behind it
    pick : (b : Bool) (o : Option (ℕ × List ℕ)) → All (λ m. m < n) g.1
        → All (λ m. m < n) (option_map_or (λ (h : ℕ × List ℕ). h.1) o [])
        → All (λ m. m < n) (option_map_or (λ (h : ℕ × List ℕ). h.1) (cond b (Some g) o) [])
    pick true o here later = here
    pick false o here later = later

-- ---- the first lack

-- the first of some lists is in one of them
in_lists : {A : Type 0} (h : ℕ → List A) (a n : ℕ) (y : A) → slice_get (flat_map h (range_with_len a n)) 0 ≡ Some y
    → (i : ℕ) × (i < a + n) × (slice_get (h i) 0 ≡ Some y)
in_lists {A = A} h a zero y is = absurd (none-some y is)
in_lists {A = A} h a (suc n) y is =
    ⊎_elim (λ (here : slice_get (h a) 0 ≡ Some y). (a, omega arith, here))
    (λ (later : slice_get (flat_map h (range_with_len (a + 1) n)) 0 ≡ Some y).
    let there = in_lists h (a + 1) n y later in (there.0, omega (arith, there.1), there.2))
    (front (h a) (flat_map h (range_with_len (a + 1) n)) is)
  where
    -- the first of a list and more
    front : (xs ys : List A) → slice_get (xs ++ ys) 0 ≡ Some y → (slice_get xs 0 ≡ Some y) ⊎ (slice_get ys 0 ≡ Some y)
    front [] ys at = inr at
    front (x ∷ xs) ys at = inl at

module _ (members : ℕ → List ℕ) where
  -- the group of a label
  abbrev of_label : ℕ → ℕ × List ℕ
  of_label label = (label, members label)

  -- the group of a label that is found among later ones is found behind the group of another label too
  past : (label other : ℕ) (later : List (ℕ × List ℕ)) → find (is_of label) later ≡ Some (of_label label)
      → find (is_of label) (of_label other ∷ later) ≡ Some (of_label label)
  past label other later is =
      ⊎_elim (λ (same : other ≡ label).
      ap (λ b. cond b (Some (of_label other)) (find (is_of label) later)) (eq-eqb other label same)
      ∙ ap (λ l. Some (of_label l)) same)
      (λ (differ : other ≡ label → ⊥).
      ap (λ b. cond b (Some (of_label other)) (find (is_of label) later)) (ne_eqb other label differ) ∙ is)
      (cases_eq other label)

  -- The lack is one of the link, and the first group with its label has the members of that label.
  record IsOwn (id : ℕ) (links : List (ℕ × List ℕ)) (lack : Lack) : Type 0 where
    link : lack.link ≡ id
    group : find (is_of lack.label) links ≡ Some (of_label lack.label)

  -- the first lack for a group and later ones is for its own group, if the first for the later ones is
  step : (link queues label : ℕ) (b : Bool) (rest : List Lack) (later : List (ℕ × List ℕ)) (lack : Lack)
      → slice_get
      (cons_option (cond b (Some (record { link = link; label = label; need = length (members label); has = queues })) None) rest) 0
      ≡ Some lack
      → (slice_get rest 0 ≡ Some lack → IsOwn link later lack) → IsOwn link (of_label label ∷ later) lack
  step link queues label true rest later lack is own =
      let lacking : Lack = record { link = link; label = label; need = length (members label); has = queues } in
      let same : lacking ≡ lack = same_Some lacking lack is in
      record {
        link = sym (ap (λ (l : Lack). l.link) same);
        group =
            ap (λ b. cond b (Some (of_label label)) (find (is_of lack.label) later))
            (eq-eqb label lack.label (ap (λ (l : Lack). l.label) same))
            ∙ ap (λ (l : Lack). Some (of_label l.label)) same;
      }
  step link queues label false rest later lack is own =
      let o : IsOwn link later lack = own is in record { link = o.link; group = past lack.label label later o.group }

  -- the first lack for the groups of some labels is for its own group
  own_lack : (link queues : ℕ) (labels : List ℕ) (lack : Lack)
      → slice_get (filter_map (lack_of link queues) (map of_label labels)) 0 ≡ Some lack → IsOwn link (map of_label labels) lack
  own_lack link queues [] lack is = absurd (none-some lack is)
  own_lack link queues (label ∷ labels) lack is =
      step link queues label (nat_lt queues (length (members label))) (filter_map (lack_of link queues) (map of_label labels))
      (map of_label labels) lack is (own_lack link queues labels lack)

-- ---- the links of a program

module _ (p : ProgramCode) (labels : List ℕ) where
  -- the members of the groups at a link, by their labels
  abbrev by_label : ℕ → ℕ → List ℕ
  by_label link label = labelled labels (users (routes_of p) (lengths_of p) link) label

  -- the groups at a link are those of the link
  pub at_link : (link : ℕ) → link < 4 * cell_count p.grid
      → groups_at (all_groups p labels (lengths_of p)) link ≡ groups (routes_of p) labels (lengths_of p) link
  at_link link l =
      get_or-map-range_with_len (groups (routes_of p) labels (lengths_of p)) 0 (4 * cell_count p.grid) link link [] l (omega arith)

  -- there are groups for each link of the grid
  pub count_links : length (all_groups p labels (lengths_of p)) ≡ 4 * cell_count p.grid
  count_links = length-map-range_with_len (groups (routes_of p) labels (lengths_of p)) 0 (4 * cell_count p.grid)

  -- the members of the groups of a link are messages of the program
  pub all_known : (link : ℕ) → link < 4 * cell_count p.grid
      → AreKnown (all_groups p labels (lengths_of p)) link (length p.messages)
  all_known link inside =
      let message = λ (m : ℕ). m < length p.messages in
      let members : List ℕ = users (routes_of p) (lengths_of p) link in
      let kept : List ℕ = rising (map (slice_index labels) members) in
      let n = length (routes_of p) in
      let long : n ≡ length p.messages = length-map p.messages (λ (m : Message). m.route) in
      let count = length-range_with_len 0 n in
      let all : All message (below n) =
      All-from_get_or message (below n) 0 (λ i l. let at = get_or-range_with_len 0 n i 0 (omega arith) in omega arith) in
      let known : All message members =
      All-filter (λ m. nat_lt 0 (slice_index (lengths_of p) m) && is_one_of (route p m) link) message (below n) all in
      subst (All (λ (g : ℕ × List ℕ). All message g.1)) (sym (at_link link inside))
      (All-map (λ (g : ℕ × List ℕ). All message g.1) (λ label. (label, by_label link label)) kept
      (λ k d l. All-filter (λ m. nat_eq (slice_index labels m) (slice_index_or kept k d)) message members known))

  -- The first lack is at a link of the grid, and its group has the members of its label.
  pub record IsLacked (lack : Lack) : Type 0 where
    pub link : lack.link < 4 * cell_count p.grid
    pub members : members_at (all_groups p labels (lengths_of p)) lack.link lack.label ≡ members_of p labels lack.link lack.label

  -- the first of all lacks is such
  pub first_lack : (lack : Lack) → slice_get (lacks_of p labels) 0 ≡ Some lack → IsLacked lack
  first_lack lack is =
      let links = all_groups p labels (lengths_of p) in
      let lacking = λ (link : ℕ). filter_map (lack_of link (slice_index p.queues link)) (groups_at links link) in
      let found : (i : ℕ) × (i < 0 + length links) × (slice_get (lacking i) 0 ≡ Some lack) = in_lists lacking 0 (length links) lack is in
      let i : ℕ = found.0 in
      let inside : i < 4 * cell_count p.grid = omega (arith, count_links, found.1) in
      let own : IsOwn (by_label i) i (groups (routes_of p) labels (lengths_of p) i) lack =
      own_lack (by_label i) i (slice_index p.queues i) (rising (map (slice_index labels) (users (routes_of p) (lengths_of p) i))) lack
      (subst (λ gs. slice_get (filter_map (lack_of i (slice_index p.queues i)) gs) 0 ≡ Some lack) (at_link i inside) found.2) in
      record {
        link = subst (λ k. k < 4 * cell_count p.grid) (sym own.link) inside;
        members =
            subst (λ k. members_at links k lack.label ≡ members_of p labels k lack.label) (sym own.link)
            (ap (λ gs. option_map_or (λ (g : ℕ × List ℕ). g.1) (find (is_of lack.label) gs) []) (at_link i inside)
            ∙ ap (λ o. option_map_or (λ (g : ℕ × List ℕ). g.1) o []) own.group);
      }
