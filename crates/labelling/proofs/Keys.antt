-- Keys: their order, those of messages by a table, and the labels that they give.
use Rattle.std.proofs.Common.{◌≡◌, ℕ, ◌<◌, ◌≤◌, Bool, true, false, not, ◌&&◌, nat_eq, List, [], ◌∷◌, length, map, get_or, sym, ◌∙◌, ap, subst, inl, inr, ◌⊎◌, ⊎_elim, arith}
use Rattle.std.specs.Bool.{nat_lt}
use Rattle.std.specs.List.{filter, list_any}
use Rattle.std.proofs.lemmas.Bool.{cases_lt, cases_eq, cases_order, cases_Bool, or_cases, or_left, or_right, and_parts, and_from, eq-eqb, eqb-true, lt-ltb, ltb-true, false≢true, false_from_ne_true, not_from_false}
use Rattle.std.proofs.lemmas.List.Folds.{list_any_at}
use Rattle.std.proofs.lemmas.List.FromFn.{get_or-map-range_with_len, length-map-range_with_len}
use Rattle.cell_types.specs.Groups.{below}
use Rattle.comm_sequence.specs.Labels.{IsTable, Key, key, is_below, same_key, different, proposed}
use Rattle.comm_sequence.specs.Labels.Must.{Alone}
use Rattle.comm_sequence.specs.declared.comm.Comm.{Comm}
use Rattle.labelling.proofs.Closed.{must_join}
use Rattle.labelling.proofs.Ranges.{IsFirst, count_le, count_lt, finds_first, filter_lt, any_left}

-- what the order of two keys says of their numbers
abbrev Lower : Key → Key → Type 0
Lower j k = (j.earlier < k.earlier) ⊎ ((j.earlier ≡ k.earlier) × (j.least < k.least))

lower_from : (j k : Key) → is_below j k ≡ true → Lower j k
lower_from j k t =
    ⊎_elim
    (λ less. inl (ltb-true j.earlier k.earlier less))
    (λ both.
    let parts = and_parts (nat_eq j.earlier k.earlier) (nat_lt j.least k.least) both in
    inr (eqb-true j.earlier k.earlier parts.0, ltb-true j.least k.least parts.1))
    (or_cases (nat_lt j.earlier k.earlier) (nat_eq j.earlier k.earlier && nat_lt j.least k.least) t)

lower_to : (j k : Key) → Lower j k → is_below j k ≡ true
lower_to j k (inl less) =
    or_left (nat_lt j.earlier k.earlier) (nat_eq j.earlier k.earlier && nat_lt j.least k.least) (lt-ltb j.earlier k.earlier less)
lower_to j k (inr both) =
    or_right (nat_lt j.earlier k.earlier) (nat_eq j.earlier k.earlier && nat_lt j.least k.least)
    (and_from (nat_eq j.earlier k.earlier) (nat_lt j.least k.least) (eq-eqb j.earlier k.earlier both.0) (lt-ltb j.least k.least both.1))

-- a key below a key that is below a third one is below that
pub below_joins : (i j k : Key) → is_below i j ≡ true → is_below j k ≡ true → is_below i k ≡ true
below_joins i j k s t =
    lower_to i k
    (⊎_elim
    (λ a. ⊎_elim (λ b. inl (omega arith)) (λ b. inl (omega arith)) (lower_from j k t))
    (λ a. ⊎_elim (λ b. inl (omega arith)) (λ b. inr (omega arith, omega arith)) (lower_from j k t))
    (lower_from i j s))

-- no key is below itself
pub not_below_itself : (k : Key) → is_below k k ≡ false
not_below_itself k =
    false_from_ne_true (is_below k k)
    (λ t. ⊎_elim (λ a. omega arith) (λ a. let lt = a.1 in omega arith) (lower_from k k t))

-- keys with the same numbers are the same
pub same_numbers : (j k : Key) → j.earlier ≡ k.earlier → j.least ≡ k.least → j ≡ k
same_numbers j k e l =
    let make : ℕ → ℕ → Key = λ x y. record { earlier = x; least = y } in
    ap (λ x. make x j.least) e ∙ ap (make k.earlier) l

pub same_from_test : (j k : Key) → same_key j k ≡ true → j ≡ k
same_from_test j k t =
    let parts = and_parts (nat_eq j.earlier k.earlier) (nat_eq j.least k.least) t in
    same_numbers j k (eqb-true j.earlier k.earlier parts.0) (eqb-true j.least k.least parts.1)

pub test_from_same : (j k : Key) → j ≡ k → same_key j k ≡ true
test_from_same j k e =
    and_from (nat_eq j.earlier k.earlier) (nat_eq j.least k.least) (eq-eqb j.earlier k.earlier (ap (λ (x : Key). x.earlier) e))
    (eq-eqb j.least k.least (ap (λ (x : Key). x.least) e))

-- of two keys one is below the other, or they are the same
pub compare_keys : (j k : Key) → (is_below j k ≡ true) ⊎ ((j ≡ k) ⊎ (is_below k j ≡ true))
compare_keys j k =
    elim (cases_order j.earlier k.earlier) [
      | inl e ↦ elim (cases_order j.least k.least) [
        | inl l ↦ inr (inl (same_numbers j k e l))
        | inr (inl l) ↦ inl (lower_to j k (inr (e, l)))
        | inr (inr l) ↦ inr (inr (lower_to k j (inr (sym e, l))))
      ]
      | inr (inl e) ↦ inl (lower_to j k (inl e))
      | inr (inr e) ↦ inr (inr (lower_to k j (inl e)))
    ]

-- a test that some key passes is passed by some of the different keys
pub any_different : (r : Key → Bool) (ks : List Key) → list_any r ks ≡ true → list_any r (different ks) ≡ true
any_different r [] t = t
any_different r (k ∷ ks) t =
    let others = filter (λ j. not (same_key k j)) (different ks) in
    ⊎_elim
    (λ here. or_left (r k) (list_any r others) here)
    (λ not_here. or_right (r k) (list_any r others)
    (any_left r (λ j. not (same_key k j)) (different ks)
    (λ x passes. not_from_false (same_key k x)
    (false_from_ne_true (same_key k x) (λ same. false≢true (sym not_here ∙ ap r (same_from_test k x same) ∙ passes))))
    (any_different r ks
    (⊎_elim (λ here. absurd (false≢true (sym not_here ∙ here))) (λ later. later) (or_cases (r k) (list_any r ks) t)))))
    (cases_Bool (r k))

-- The keys of messages by a table.
module _ (lists : List (List Comm)) (count : ℕ) (must : ℕ → ℕ → Bool) (table : IsTable lists count must) where
  -- a message must come no later than itself
  itself : (a : ℕ) → a < count → must a a ≡ true
  itself a la = (table a a la la).1 (Alone a)

  -- what must come no later than what must come no later than a message
  joins : (a b c : ℕ) → a < count → b < count → c < count → must a b ≡ true → must b c ≡ true → must a c ≡ true
  joins a b c la lb lc h k = (table a c la lc).1 (must_join lists a b c ((table a b la lb).0 h) ((table b c lb lc).0 k))

  -- a later message has no fewer before it
  earlier_le : (a b : ℕ) → a < count → b < count → must a b ≡ true → (key must count a).earlier ≤ (key must count b).earlier
  earlier_le a b la lb h =
      count_le (λ x. must x a) (λ x. must x b) 0 count (λ x l u t. joins x a b (omega arith) la lb t h)

  -- if it has no more, it comes no later either
  no_later : (a b : ℕ) → a < count → b < count → must a b ≡ true → (key must count a).earlier ≡ (key must count b).earlier → must b a ≡ true
  no_later a b la lb h e =
      ⊎_elim
      (λ on. on)
      (λ off.
      let more : (key must count a).earlier < (key must count b).earlier =
      count_lt (λ x. must x a) (λ x. must x b) 0 count (λ x l u t. joins x a b (omega arith) la lb t h) b (omega arith) (omega arith) off (itself b lb) in
      absurd (omega arith))
      (cases_Bool (must b a))

  -- the least of those that must come no later than a message, and it no later than them
  pub first : (a : ℕ) → a < count → IsFirst (λ x. must x a && must a x) 0 (key must count a).least
  first a la =
      finds_first (λ x. must x a && must a x) 0 count a a (omega arith) (omega arith)
      (and_from (must a a) (must a a) (itself a la) (itself a la))

  least_le : (a x : ℕ) → a < count → must x a ≡ true → must a x ≡ true → (key must count a).least ≤ x
  least_le a x la h k =
      ⊎_elim
      (λ less. absurd (false≢true (sym ((first a la).none x (omega arith) less) ∙ and_from (must x a) (must a x) h k)))
      (λ le. le)
      (cases_lt x (key must count a).least)

  pub least_below : (a : ℕ) → a < count → (key must count a).least ≤ a
  least_below a la = least_le a a la (itself a la) (itself a la)

  pub least_both : (a : ℕ) → a < count → (must (key must count a).least a ≡ true) × (must a (key must count a).least ≡ true)
  least_both a la =
      let least = (key must count a).least in and_parts (must least a) (must a least) (first a la).passes

  -- two messages neither of which comes later have the same key
  pub same_keys : (a b : ℕ) → a < count → b < count → must a b ≡ true → must b a ≡ true → key must count a ≡ key must count b
  same_keys a b la lb h k =
      let x = (key must count a).least in
      let y = (key must count b).least in
      let lx : x < count = (let le = least_below a la in omega arith) in
      let ly : y < count = (let le = least_below b lb in omega arith) in
      let bx = least_both a la in
      let by_ = least_both b lb in
      let up : y ≤ x = least_le b x lb (joins x a b lx la lb bx.0 h) (joins b a x lb la lx k bx.1) in
      let down : x ≤ y = least_le a y la (joins y b a ly lb la by_.0 k) (joins a b y la lb ly h by_.1) in
      let e1 = earlier_le a b la lb h in
      let e2 = earlier_le b a lb la k in
      same_numbers (key must count a) (key must count b) (omega arith) (omega arith)

  -- of two messages with the same least number neither comes later
  pub neither_later : (a b : ℕ) → a < count → b < count → key must count a ≡ key must count b → (must a b ≡ true) × (must b a ≡ true)
  neither_later a b la lb e =
      let x = (key must count a).least in
      let y = (key must count b).least in
      let xy : x ≡ y = ap (λ (k : Key). k.least) e in
      let lx : x < count = (let le = least_below a la in omega arith) in
      let bx = least_both a la in
      let by_ = least_both b lb in
      let Before_b : ℕ → Type 0 = λ m. must m b ≡ true in
      let After_b : ℕ → Type 0 = λ m. must b m ≡ true in
      (joins a x b la lx lb bx.1 (subst Before_b (sym xy) by_.0), joins b x a lb lx la (subst After_b (sym xy) by_.1) bx.0)

  -- a later message has a higher key, or the same
  key_rises : (a b : ℕ) → a < count → b < count → must a b ≡ true → (is_below (key must count a) (key must count b) ≡ true) ⊎ (key must count a ≡ key must count b)
  key_rises a b la lb h =
      let le = earlier_le a b la lb h in
      ⊎_elim
      (λ e. inr (same_keys a b la lb h (no_later a b la lb h e)))
      (λ ne. inl (lower_to (key must count a) (key must count b) (inl (omega (arith, ne)))))
      (cases_eq (key must count a).earlier (key must count b).earlier)

  -- a message with a higher key has a higher label
  pub label_lt : (a b : ℕ) → a < count → is_below (key must count a) (key must count b) ≡ true → proposed must count a < proposed must count b
  label_lt a b la t =
      let ka = key must count a in
      let kb = key must count b in
      let keys = map (key must count) (below count) in
      let test : Key → Bool = λ k. is_below k kb && not (is_below k ka) in
      let passes : test ka ≡ true = and_from (is_below ka kb) (not (is_below ka ka)) t (not_from_false (is_below ka ka) (not_below_itself ka)) in
      let at : get_or keys a ka ≡ ka = get_or-map-range_with_len (key must count) 0 count a a ka la (omega arith) in
      filter_lt (λ k. is_below k ka) (λ k. is_below k kb) (different keys) (λ k s. below_joins k ka kb s t)
      (any_different test keys
      (list_any_at test keys a ka (let len = length-map-range_with_len (key must count) 0 count in omega arith) (ap test at ∙ passes)))

  -- messages with the same key have the same label
  pub label_same : (a b : ℕ) → key must count a ≡ key must count b → proposed must count a ≡ proposed must count b
  label_same a b e = ap (λ own. length (filter (λ k. is_below k own) (different (map (key must count) (below count))))) e

  -- a later message has no lower label
  pub label_le : (a b : ℕ) → a < count → b < count → must a b ≡ true → proposed must count a ≤ proposed must count b
  label_le a b la lb h =
      ⊎_elim
      (λ lower. let lt = label_lt a b la lower in omega arith)
      (λ same. let e = label_same a b same in omega arith)
      (key_rises a b la lb h)

  -- messages with the same label have the same key
  pub key_of_label : (a b : ℕ) → a < count → b < count → proposed must count a ≡ proposed must count b → key must count a ≡ key must count b
  key_of_label a b la lb e =
      elim (compare_keys (key must count a) (key must count b)) [
        | inl t ↦ let lt = label_lt a b la t in absurd (omega arith)
        | inr (inl same) ↦ same
        | inr (inr t) ↦ let lt = label_lt b a lb t in absurd (omega arith)
      ]
