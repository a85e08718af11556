-- The laws of the groups of a link, each member by the place of its group.
use Rattle.std.proofs.Common.{◌≡◌, ℕ, ◌+◌, ◌<◌, ◌≤◌, ◌&&◌, ◌||◌, Bool, true, List, [], ◌∷◌, Option, None, Some, map, length, get_or, slice_get, slice_index, slice_index_or, nat_eq, nat_lt, sym, ◌∙◌, ap, subst, refl, true≢false, arith}
use Rattle.std.proofs.lemmas.Bool.{and_from, and_parts, eq-eqb, eqb-true, lt-ltb, ltb-true}
use Rattle.std.proofs.lemmas.List.{length-map}
use Rattle.std.proofs.lemmas.List.Elements.{filter_passes}
use Rattle.std.proofs.lemmas.List.Kept.{AllPairs-from_increasing, IsStrictlyIncreasing-filter}
use Rattle.std.proofs.lemmas.Option.{get_or_from_slice_get, slice_get-get_or, slice_get-map, slice_get_within}
use Rattle.std.specs.Option.{IsSomeAnd, option_map}
use Rattle.sys_base.specs.Groups.{below, greatest, groups, is_one_of, labelled, rising, users}
use Rattle.queue_plan.specs.Members.{HasMember, IsUser}
use Rattle.queue_plan.proofs.Found.{found, in_filter, in_map, in_range, range_holds}
use Rattle.queue_plan.proofs.Labels.{has_label, label_below, some}
use Rattle.queue_plan.proofs.SoundGroups.{below_rises}

module _ (routes : List (List ℕ)) (labels lengths : List ℕ) (link : ℕ) where
  -- the users of the link, and the labels that one of them has
  abbrev members : List ℕ
  members = users routes lengths link

  abbrev numbers : List ℕ
  numbers = rising (map (slice_index labels) members)

  -- the group of a label
  abbrev group : ℕ → ℕ × List ℕ
  group label = (label, labelled labels members label)

  -- the test of a user
  abbrev test : ℕ → Bool
  test message = nat_lt 0 (slice_index lengths message) && is_one_of (slice_index_or routes message []) link

  -- a member of the group at a place: the label there is its own, and it is a user
  placed : (place message : ℕ) → HasMember (groups routes labels lengths link) place message
      → (slice_get numbers place ≡ Some (slice_index labels message)) × (is_one_of members message ≡ true)
  placed place message h =
      at (slice_get numbers place) refl
      (subst (λ o. IsSomeAnd o (λ g. is_one_of g.1 message ≡ true)) (slice_get-map group numbers place) h)
    where
      at : (o : Option ℕ) → slice_get numbers place ≡ o → IsSomeAnd (option_map group o) (λ g. is_one_of g.1 message ≡ true)
          → (slice_get numbers place ≡ Some (slice_index labels message)) × (is_one_of members message ≡ true)
      at None e k = absurd k
      at (Some label) e k =
          let parts = and_parts (nat_eq (slice_index labels message) label) (is_one_of members message)
          (sym (in_filter (λ m. nat_eq (slice_index labels m) label) members message) ∙ k) in
          (e ∙ ap Some (sym (eqb-true (slice_index labels message) label parts.0)), parts.1)

  -- each member is a user
  pub member_law : (place message : ℕ) → HasMember (groups routes labels lengths link) place message
      → IsUser routes lengths link message
  member_law place message h =
      let all = and_parts (test message) (is_one_of (below (length routes)) message)
      (sym (in_filter test (below (length routes)) message) ∙ (placed place message h).1) in
      let both = and_parts (nat_lt 0 (slice_index lengths message)) (is_one_of (slice_index_or routes message []) link) all.0 in
      record {
        known = let l = range_holds 0 (length routes) message all.1 in omega arith;
        some = ltb-true 0 (slice_index lengths message) both.0;
        over = both.1;
      }

  -- the label of a group is that of each member
  pub label_law : (place message : ℕ) → HasMember (groups routes labels lengths link) place message
      → IsSomeAnd (slice_get (groups routes labels lengths link) place) (λ g. g.0 ≡ slice_index labels message)
  label_law place message h =
      subst (λ o. IsSomeAnd o (λ g. g.0 ≡ slice_index labels message))
      (sym (slice_get-map group numbers place ∙ ap (option_map group) (placed place message h).0)) refl

  -- the label of a user is one of those of the groups
  pub own_label : (message : ℕ) → is_one_of members message ≡ true → is_one_of numbers (slice_index labels message) ≡ true
  own_label message mine =
      let label = slice_index labels message in
      let there : is_one_of (map (slice_index labels) members) label ≡ true = in_map (slice_index labels) members message mine in
      let at = found (map (slice_index labels) members) label there in
      let low : label ≤ greatest (map (slice_index labels) members) =
      subst (λ n. n ≤ greatest (map (slice_index labels) members)) (get_or_from_slice_get (map (slice_index labels) members) at.0 label 0 at.1)
      (label_below (map (slice_index labels) members) at.0) in
      in_filter (is_one_of (map (slice_index labels) members)) (below (1 + greatest (map (slice_index labels) members))) label
      ∙ and_from (is_one_of (map (slice_index labels) members) label) (is_one_of (below (1 + greatest (map (slice_index labels) members))) label) there
      (in_range 0 (1 + greatest (map (slice_index labels) members)) label (omega arith) (omega arith))

  -- each user is a member of a group
  pub grouped_law : (message : ℕ) → IsUser routes lengths link message
      → (place : ℕ) × HasMember (groups routes labels lengths link) place message
  grouped_law message user =
      let label = slice_index labels message in
      let passes : test message ≡ true =
      and_from (nat_lt 0 (slice_index lengths message)) (is_one_of (slice_index_or routes message []) link)
      (lt-ltb 0 (slice_index lengths message) user.some) user.over in
      let mine : is_one_of members message ≡ true =
      in_filter test (below (length routes)) message
      ∙ and_from (test message) (is_one_of (below (length routes)) message) passes (in_range 0 (length routes) message (omega arith) (omega (arith, user.known))) in
      let placed = found numbers label (own_label message mine) in (
        placed.0,
        subst (λ o. IsSomeAnd o (λ g. is_one_of g.1 message ≡ true))
            (sym (slice_get-map group numbers placed.0 ∙ ap (option_map group) placed.1))
            (in_filter (λ m. nat_eq (slice_index labels m) label) members message
            ∙ and_from (nat_eq label label) (is_one_of members message) (eq-eqb label label refl) mine),
      )

  -- no group is empty
  pub filled_law : (place : ℕ) → place < length (groups routes labels lengths link)
      → (message : ℕ) × HasMember (groups routes labels lengths link) place message
  filled_law place within =
      let label = get_or numbers place 0 in
      let at : slice_get numbers place ≡ Some label = slice_get-get_or numbers place 0 (omega (arith, within, length-map numbers group)) in
      let had = filter_passes (is_one_of (map (slice_index labels) members)) (below (1 + greatest (map (slice_index labels) members)))
      place 0 (slice_get_within numbers place label at) in
      let one = first (labelled labels members label) (sym (has_label labels members label) ∙ had) in (
        one.0,
        subst (λ o. IsSomeAnd o (λ g. is_one_of g.1 one.0 ≡ true))
            (sym (slice_get-map group numbers place ∙ ap (option_map group) at)) one.1,
      )
    where
      first : (xs : List ℕ) → some xs ≡ true → (x : ℕ) × (is_one_of xs x ≡ true)
      first [] h = absurd (true≢false (sym h))
      first (x ∷ xs) h = (x, ap (λ b. b || is_one_of xs x) (eq-eqb x x refl))

  -- the members of a group have a lesser label than those of a later one
  pub rising_law : (i j a b : ℕ) → i < j → HasMember (groups routes labels lengths link) i a
      → HasMember (groups routes labels lengths link) j b → slice_index labels a < slice_index labels b
  rising_law i j a b before one other =
      let first = (placed i a one).0 in
      let second = (placed j b other).0 in
      let rises = AllPairs-from_increasing numbers
      (IsStrictlyIncreasing-filter (is_one_of (map (slice_index labels) members)) (below (1 + greatest (map (slice_index labels) members)))
      (below_rises (1 + greatest (map (slice_index labels) members)))) i j 0 before (slice_get_within numbers j (slice_index labels b) second) in
      omega (arith, rises, get_or_from_slice_get numbers i (slice_index labels a) 0 first, get_or_from_slice_get numbers j (slice_index labels b) 0 second)
