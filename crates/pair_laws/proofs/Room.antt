-- What the pairs take of the array: steps and queues.
use Rattle.std.proofs.Common.{◌≡◌, ℕ, zero, suc, ◌+◌, ◌*◌, ◌-◌, ◌<◌, ◌≤◌, ◌⊎◌, inl, inr, ⊎_elim, Bool, true, false, cond, filter, List, [], ◌∷◌, map, length, length-append, refl, sym, subst, ap, ap₂, ◌∙◌, arith, append_assoc, suc-mul}
use Rattle.std.specs.Prelude.{nat_eq, nat_le, nat_lt, not, ◌&&◌, ◌||◌, sum_by, max, fold, slice_index}
use Rattle.std.specs.List.{flat_map, list_any, All, slice_index_or}
use Rattle.std.proofs.Math.Nat.{mul-le-mul}
use Rattle.std.proofs.lemmas.Bool.{eqb-true, leb-true, false≢true, cases_lt}
use Rattle.std.proofs.lemmas.List.{length-map, get_or_past}
use Rattle.std.proofs.lemmas.List.Concat.{length-flat_map}
use Rattle.std.proofs.lemmas.List.Elements.{All-head, All-tail}
use Rattle.std.proofs.lemmas.List.FromFn.{length-range_with_len}
use Rattle.std.proofs.lemmas.List.Sums.{sum_by-cons, length-filter, count_by-le-length}
use Rattle.sys_base.specs.Grid.{cell_count}
use Rattle.sys_base.specs.declared.limits.TheConstants.{STEPS}
use Rattle.sys_base.specs.Groups.{below, greatest, is_one_of, rising, users, labelled, groups}
use Rattle.cell_types.specs.Code.{CellCode, ProgramCode}
use Rattle.cell_types.specs.Communications.{Communication, Writes, Emits, same_communication, block_communications, length_of}
use Rattle.cell_types.specs.Cost.{block_cost, cells_cost}
use Rattle.cell_types.specs.Groups.{bound, forwards, lengths_of, group_count, groups_on, link_ids, route, routes_of}
use Rattle.cell_types.specs.Resolved.{resolved_program}
use Rattle.cell_types.specs.declared.program.Message.{Message}
use Rattle.queue_plan.proofs.Counted.{rising_few}
use Rattle.pair_gen.proofs.Below.{passes_below}
use Rattle.pair_laws.specs.bodies.Paired.{paired}
use Rattle.pair_laws.proofs.Program.{body_code, bodies_are, body_cost, body_made, pair_made, made_of}
use Rattle.pair_laws.proofs.Same.{IsBare, own_costs, all_own, same_cost, same_all}

-- ---- sums

-- a sum of 16 numbers that are each within a bound
sixteen_within : (f : ℕ → ℕ) (n : ℕ) → ((c : ℕ) → f c ≤ n) → sum_by f (below 16) ≤ 16 * n
sixteen_within f n h =
    omega (arith, h 0, h 1, h 2, h 3, h 4, h 5, h 6, h 7, h 8, h 9, h 10, h 11, h 12, h 13, h 14, h 15)

-- a sum over some numbers of what is each within a bound
sum_within : (f : ℕ → ℕ) (n : ℕ) (xs : List ℕ) → ((c : ℕ) → f c ≤ n) → sum_by f xs ≤ length xs * n
sum_within f n [] h = omega arith
sum_within f n (x ∷ xs) h =
    let more : suc (length xs) * n ≡ length xs * n + n = suc-mul (length xs) n in
    omega (arith, sum_by-cons f x xs, h x, sum_within f n xs h, more)

pub sum_same : (f g : ℕ → ℕ) (xs : List ℕ) → ((c : ℕ) → f c ≡ g c) → sum_by f xs ≡ sum_by g xs
sum_same f g [] h = refl
sum_same f g (x ∷ xs) h = sum_by-cons f x xs ∙ ap₂ (λ (m n : ℕ). m + n) (h x) (sum_same f g xs h) ∙ sym (sum_by-cons g x xs)

pub sum_both : (f g : ℕ → ℕ) (xs : List ℕ) → sum_by (λ c. f c + g c) xs ≡ sum_by f xs + sum_by g xs
sum_both f g [] = refl
sum_both f g (x ∷ xs) =
    omega (arith, sum_by-cons (λ c. f c + g c) x xs, sum_by-cons f x xs, sum_by-cons g x xs, sum_both f g xs)

-- ---- communications

-- two in each pair
pair_two : (m : ℕ) → m < 24 → sum_by (λ c. length (pair_made c m)) (below 16) ≡ 2
pair_two m within =
    eqb-true (sum_by (λ c. length (pair_made c m)) (below 16)) 2
    (passes_below (λ k. nat_eq (sum_by (λ c. length (pair_made c k)) (below 16)) 2) 24 m within refl)

-- of all cells together
abbrev made_count : List ℕ → ℕ
made_count ms = sum_by (λ c. length (made_of ms c)) (below 16)

made_few : (ms : List ℕ) → All (λ m. m < 24) ms → made_count ms ≡ 16 + 2 * length ms
made_few [] known = refl
made_few (m ∷ ms) known =
    let each : (c : ℕ) → length (made_of (m ∷ ms) c) ≡ length (pair_made c m) + length (made_of ms c) =
    λ c. ap length (append_assoc (pair_made c m) (flat_map (pair_made c) ms) (Emits ∷ [])) ∙ length-append (pair_made c m) (made_of ms c) in
    let split : made_count (m ∷ ms) ≡ sum_by (λ c. length (pair_made c m)) (below 16) + made_count ms =
    sum_same (λ c. length (made_of (m ∷ ms) c)) (λ c. length (pair_made c m) + length (made_of ms c)) (below 16) each
    ∙ sum_both (λ c. length (pair_made c m)) (λ c. length (made_of ms c)) (below 16) in
    omega (
      arith,
      split,
      pair_two m (All-head (λ k. k < 24) m ms known),
      made_few ms (All-tail (λ k. k < 24) m ms known),
    )

-- ---- groups

-- the greatest of numbers within a bound
greatest_within : (labels members ls : List ℕ) (a n : ℕ) → a ≤ n → length members ≤ n
    → fold max a (map (λ (group : ℕ × List ℕ). length group.1) (map (λ label. (label, labelled labels members label)) ls)) ≤ n
greatest_within labels members [] a n low few = low
greatest_within labels members (l ∷ ls) a n low few =
    let fewer : length (labelled labels members l) ≤ length members =
    omega (
      arith,
      length-filter (λ message. nat_eq (slice_index labels message) l) members,
      count_by-le-length (λ message. nat_eq (slice_index labels message) l) members,
    ) in
    greatest_within labels members ls (max a (length (labelled labels members l))) n (omega arith) few

-- a link has no more users than there are messages
few_users : (routes : List (List ℕ)) (lengths : List ℕ) (link : ℕ) → length (users routes lengths link) ≤ length routes
few_users routes lengths link =
    let test : ℕ → Bool = λ message. nat_lt 0 (slice_index lengths message) && is_one_of (slice_index_or routes message []) link in
    omega (arith, length-filter test (below (length routes)), count_by-le-length test (below (length routes)), length-range_with_len 0 (length routes))

few_groups : (routes : List (List ℕ)) (labels lengths : List ℕ) (link : ℕ) → length (groups routes labels lengths link) ≤ length routes
few_groups routes labels lengths link =
    let members : List ℕ = users routes lengths link in
    let marks : List ℕ = map (slice_index labels) members in
    omega (
      arith,
      length-map {B = ℕ × List ℕ} (rising marks) (λ label. (label, labelled labels members label)),
      rising_few marks,
      length-map members (slice_index labels),
      few_users routes lengths link,
    )

pub need_within : (routes : List (List ℕ)) (labels lengths : List ℕ) (link : ℕ)
    → greatest (map (λ (group : ℕ × List ℕ). length group.1) (groups routes labels lengths link)) ≤ length routes
need_within routes labels lengths link =
    greatest_within labels (users routes lengths link) (rising (map (slice_index labels) (users routes lengths link))) 0 (length routes)
    (omega arith) (few_users routes lengths link)

-- a link on no route has no users
none_filtered : (p : ℕ → Bool) (xs : List ℕ) → ((x : ℕ) → p x ≡ false) → filter p xs ≡ []
none_filtered p [] h = refl
none_filtered p (x ∷ xs) h = ap (λ b. cond b (x ∷ filter p xs) (filter p xs)) (h x) ∙ none_filtered p xs h

-- ---- the program of the pairs

-- the routes of the messages
abbrev pub pair_routes : List (List ℕ)
pair_routes = routes_of (resolved_program (paired []))

-- no route has more than six links
short_route : (m : ℕ) → m < 24 → length (slice_index_or pair_routes m []) ≤ 6
short_route m within =
    leb-true (length (slice_index_or pair_routes m [])) 6 (passes_below (λ k. nat_le (length (slice_index_or pair_routes k [])) 6) 24 m within refl)

-- a link has 24 queues, or it is on no route
abbrev roomy : List ℕ → ℕ → Bool
roomy queues link = nat_le 24 (slice_index queues link) || not (list_any (λ r. is_one_of r link) pair_routes)

all_roomy : (link : ℕ) → link < 64 → roomy (resolved_program (paired [])).queues link ≡ true
all_roomy link within = passes_below (roomy (resolved_program (paired [])).queues) 64 link within refl

or_either : (a b : Bool) → (a || b) ≡ true → (a ≡ true) ⊎ (b ≡ true)
or_either true b h = inl refl
or_either false b h = inr h

or_none : (a b : Bool) → (a || b) ≡ false → (a ≡ false) × (b ≡ false)
or_none true b h = absurd (false≢true (sym h))
or_none false b h = (refl, h)

none_any : (routes : List (List ℕ)) (link : ℕ) → list_any (λ r. is_one_of r link) routes ≡ false
    → (m : ℕ) → is_one_of (slice_index_or routes m []) link ≡ false
none_any [] link h m = refl
none_any (r ∷ rs) link h zero = (or_none (is_one_of r link) (list_any (λ s. is_one_of s link) rs) h).0
none_any (r ∷ rs) link h (suc m) = none_any rs link (or_none (is_one_of r link) (list_any (λ s. is_one_of s link) rs) h).1 m

and_none : (a b : Bool) → b ≡ false → (a && b) ≡ false
and_none true b h = h
and_none false b h = refl

not_false : (b : Bool) → not b ≡ true → b ≡ false
not_false true h = absurd (false≢true h)
not_false false h = refl

-- a link on no route needs no queue
no_need : (routes : List (List ℕ)) (labels lengths : List ℕ) (link : ℕ) → list_any (λ r. is_one_of r link) routes ≡ false
    → greatest (map (λ (group : ℕ × List ℕ). length group.1) (groups routes labels lengths link)) ≡ 0
no_need routes labels lengths link h =
    let test : ℕ → Bool = λ message. nat_lt 0 (slice_index lengths message) && is_one_of (slice_index_or routes message []) link in
    let nobody : users routes lengths link ≡ [] =
    none_filtered test (below (length routes)) (λ m. and_none (nat_lt 0 (slice_index lengths m)) _ (none_any routes link h m)) in
    ap (λ members. greatest (map (λ (group : ℕ × List ℕ). length group.1)
    (map (λ label. (label, labelled labels members label)) (rising (map (slice_index labels) members))))) nobody

-- each link of the pairs has room for its groups
pub link_fits : (labels lengths : List ℕ) (link : ℕ) → link < 64
    → greatest (map (λ (group : ℕ × List ℕ). length group.1) (groups pair_routes labels lengths link))
    ≤ slice_index (resolved_program (paired [])).queues link
link_fits labels lengths link within =
    ⊎_elim
    (λ many. omega (arith, leb-true 24 (slice_index (resolved_program (paired [])).queues link) many, need_within pair_routes labels lengths link))
    (λ alone. omega (arith, no_need pair_routes labels lengths link (not_false (list_any (λ r. is_one_of r link) pair_routes) alone)))
    (or_either (nat_le 24 (slice_index (resolved_program (paired [])).queues link)) _ (all_roomy link within))

module _ (ms : List ℕ) (known : All (λ m. m < 24) ms) (p : ProgramCode) (is : IsBare (resolved_program (paired ms)) p) where
  -- the routes are the stated ones
  pub routes_are : routes_of p ≡ pair_routes
  routes_are = ap (map (λ (m : Message). m.route)) (sym is.messages)

  -- and there are 24 messages
  pub messages_are : length p.messages ≡ 24
  messages_are = ap length (sym is.messages)

  -- what the cells cost
  pub cost_within : cells_cost p ≤ 16 * (4 + 5 * length ms)
  cost_within =
      let sum : cells_cost p ≡ sum_by (λ c. block_cost (body_code ms c)) (below 16) =
      same_cost (resolved_program (paired ms)) p is ∙ sym (own_costs (resolved_program (paired ms)).cells) ∙ ap (sum_by block_cost) (bodies_are ms) in
      omega (arith, sum, sixteen_within (λ c. block_cost (body_code ms c)) (4 + 5 * length ms) (body_cost ms))

  -- what all cells communicate
  abbrev all : List Communication
  all = flat_map (λ (c : CellCode). block_communications c.body) p.cells

  all_count : length all ≡ 16 + 2 * length ms
  all_count =
      ap length (same_all (resolved_program (paired ms)) p is ∙ sym (all_own (resolved_program (paired ms)).cells) ∙ ap (flat_map block_communications) (bodies_are ms))
      ∙ length-flat_map block_communications (map (body_code ms) (below 16))
      ∙ sum_same (λ c. length (block_communications (body_code ms c))) (λ c. length (made_of ms c)) (below 16) (λ c. ap length (body_made ms known c))
      ∙ made_few ms known

  -- no message is longer
  length_within : (m : ℕ) → length_of p m ≤ 16 + 2 * length ms
  length_within m = omega (arith, count_by-le-length (same_communication (Writes m)) all, all_count)

  -- nor is its route
  route_within : (m : ℕ) → length (route p m) ≤ 6
  route_within m =
      let same : length (route p m) ≡ length (slice_index_or pair_routes m []) = ap (λ rs. length (slice_index_or rs m [])) routes_are in
      ⊎_elim
      (λ inside. omega (arith, same, short_route m inside))
      (λ past. omega (arith, same, ap length (get_or_past pair_routes m [] past)))
      (cases_lt m 24)

  -- words move so often
  forwards_within : forwards p ≤ 24 * ((16 + 2 * length ms) * 5)
  forwards_within =
      let each : (m : ℕ) → length_of p m * (length (route p m) - 1) ≤ (16 + 2 * length ms) * 5 =
      λ m. mul-le-mul (length_within m) (omega (arith, route_within m)) in
      let sum = sum_within (λ m. length_of p m * (length (route p m) - 1)) ((16 + 2 * length ms) * 5) (below (length p.messages)) each in
      let count : length (below (length p.messages)) ≡ 24 = length-range_with_len 0 (length p.messages) ∙ messages_are in
      subst (λ n. forwards p ≤ n * ((16 + 2 * length ms) * 5)) count sum

  -- and so many groups there are
  groups_within : (labels : List ℕ) → group_count p labels ≤ 64 * 24
  groups_within labels =
      let routes : length (routes_of p) ≡ 24 = ap length routes_are in
      let sum = sum_within (λ link. length (groups_on p labels link)) 24 (link_ids p)
      (λ link. omega (arith, few_groups (routes_of p) labels (lengths_of p) link, routes)) in
      let count : length (link_ids p) ≡ 64 = length-range_with_len 0 (4 * cell_count p.grid) ∙ ap (λ g. 4 * cell_count g) (sym is.grid) in
      subst (λ n. group_count p labels ≤ n * 24) count sum

  -- so the bound is within the limit
  pub bound_within : (labels : List ℕ) → length ms ≤ 20000 → bound p labels ≤ STEPS
  bound_within labels few = omega (arith, cost_within, forwards_within, groups_within labels, few)
