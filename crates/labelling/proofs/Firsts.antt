-- The different keys are those of the messages that are the least with their key; and the labels by them.
use Rattle.std.proofs.Common.{◌≡◌, ℕ, zero, suc, ◌+◌, ◌-◌, ◌<◌, ◌≤◌, Bool, true, false, cond, not, ◌&&◌, ◌||◌, nat_eq, List, [], ◌∷◌, ◌++◌, length, map, take, get_or, sym, ◌∙◌, ap, subst, refl, ⊎_elim, arith}
use Rattle.std.specs.List.{count_by, filter, list_any, range_with_len}
use Rattle.std.proofs.lemmas.Bool.{cases_eq, eq-eqb, ne_eqb, false_from_ne_true, not_from_true, not_from_false}
use Rattle.std.proofs.lemmas.List.{get_or-map, length-map, map_more}
use Rattle.std.proofs.lemmas.List.FromFn.{get_or-map-range_with_len, length-map-range_with_len}
use Rattle.std.proofs.lemmas.List.Sums.{length-filter}
use Rattle.cell_types.specs.Groups.{below}
use Rattle.comm_sequence.specs.Labels.{IsTable, Key, key, is_below, same_key, different, proposed, IsProposal}
use Rattle.comm_sequence.specs.declared.comm.Comm.{Comm}
use Rattle.labelling.proofs.Keys.{same_from_test, test_from_same, same_keys, least_below, least_both}
use Rattle.labelling.proofs.Ranges.{any_at, any_passes, filter_more, filter_same, filter_twice, map_same, map_filter_same, map_twice, count_by_map}
use Rattle.labelling.specs.bodies.Ranks.{key_of, no_key, AreKeys}
use Rattle.labelling.specs.bodies.Sets.{is_before}
use Rattle.labelling.specs.declared.ranks.MessageKey.{MessageKey}
use Rattle.labelling.specs.declared.sets.MessageSet.{MessageSet}

-- whether no number from i on and before m has the same key as m
abbrev is_new : (ℕ → Key) → ℕ → ℕ → Bool
is_new f i m = not (list_any (λ a. same_key (f a) (f m)) (range_with_len i (m - i)))

-- the first number of a range is new
first_is_new : (f : ℕ → Key) (i : ℕ) → is_new f i i ≡ true
first_is_new f i =
    let none : i - i ≡ 0 = omega arith in ap (λ k. not (list_any (λ a. same_key (f a) (f i)) (range_with_len i k))) none

-- a later one is new where it is so from the next number on and the first one has another key
not_either : (x y : Bool) → not (x || y) ≡ (not y && not x)
not_either true true = refl
not_either true false = refl
not_either false true = refl
not_either false false = refl

new_from_next : (f : ℕ → Key) (i m : ℕ) → i + 1 ≤ m → is_new f i m ≡ (is_new f (i + 1) m && not (same_key (f i) (f m)))
new_from_next f i m le =
    let one_more : m - i ≡ suc (m - (i + 1)) = omega arith in
    ap (λ k. not (list_any (λ a. same_key (f a) (f m)) (range_with_len i k))) one_more
    ∙ not_either (same_key (f i) (f m)) (list_any (λ a. same_key (f a) (f m)) (range_with_len (i + 1) (m - (i + 1))))

-- the different keys are those of the new numbers
different_are_new : (f : ℕ → Key) (i n : ℕ) → different (map f (range_with_len i n)) ≡ map f (filter (is_new f i) (range_with_len i n))
different_are_new f i zero = refl
different_are_new f i (suc n) =
    let rest = range_with_len (i + 1) n in
    let other : Key → Bool = λ j. not (same_key (f i) j) in
    ap (λ ks. f i ∷ filter other ks) (different_are_new f (i + 1) n)
    ∙ ap (λ ks. f i ∷ ks) (filter_twice f (is_new f (i + 1)) other rest)
    ∙ ap (λ ms. f i ∷ map f ms) (sym (filter_same (is_new f i) (λ m. is_new f (i + 1) m && other (f m)) (i + 1) n (λ m l u. new_from_next f i m l)))
    ∙ sym (ap (λ b. map f (cond b (i ∷ filter (is_new f i) rest) (filter (is_new f i) rest))) (first_is_new f i))

-- a message is the first with its key exactly where it is the least that comes neither earlier nor later
new_where_least : (lists : List (List Comm)) (count : ℕ) (must : ℕ → ℕ → Bool) → IsTable lists count must → (m : ℕ) → m < count
    → is_new (key must count) 0 m ≡ nat_eq (key must count m).least m
new_where_least lists count must table m lm =
    let least = (key must count m).least in
    let test : ℕ → Bool = λ a. same_key (key must count a) (key must count m) in
    let low = least_below lists count must table m lm in
    ⊎_elim
    (λ e.
    not_from_false (list_any test (range_with_len 0 (m - 0)))
    (false_from_ne_true (list_any test (range_with_len 0 (m - 0)))
    (λ t.
    let h = any_passes test 0 (m - 0) t in
    let lt = h.within in
    let same = ap (λ (k : Key). k.least) (same_from_test (key must count h.at) (key must count m) h.passes) in
    let le = least_below lists count must table h.at (omega arith) in
    omega arith))
    ∙ sym (eq-eqb least m e))
    (λ ne.
    let both = least_both lists count must table m lm in
    let same = same_keys lists count must table least m (omega arith) lm both.0 both.1 in
    not_from_true (list_any test (range_with_len 0 (m - 0)))
    (any_at test 0 (m - 0) least (omega arith) (omega (arith, ne)) (test_from_same (key must count least) (key must count m) same))
    ∙ sym (ne_eqb least m ne))
    (cases_eq least m)

-- the key that is kept for a message is its key
kept : (lists : List (List Comm)) (keys : List MessageKey) (h : AreKeys lists (length keys) keys) (m : ℕ) → m < length keys
    → key_of (get_or keys m no_key) ≡ key h.must (length keys) m
kept lists keys h m lm =
    sym (get_or-map key_of keys m no_key (key_of no_key) lm) ∙ ap (λ ks. get_or ks m (key_of no_key)) h.keys_are
    ∙ get_or-map-range_with_len (key h.must (length keys)) 0 (length keys) m m (key_of no_key) lm (omega arith)

-- those of the messages that are the least with their key are the different keys
pub found_are_different : (lists : List (List Comm)) (keys found : List MessageKey) → AreKeys lists (length keys) keys
    → found ≡ map (λ m. get_or keys m no_key) (filter (λ m. nat_eq (get_or keys m no_key).least m) (below (length keys)))
    → map key_of found ≡ different (map key_of keys)
found_are_different lists keys found h e =
    let n = length keys in
    let f : ℕ → Key = key h.must n in
    let at : ℕ → MessageKey = λ m. get_or keys m no_key in
    let is_least : ℕ → Bool = λ m. nat_eq (at m).least m in
    ap (map key_of) e
    ∙ map_twice at key_of (filter is_least (below n))
    ∙ map_filter_same (λ m. key_of (at m)) f is_least 0 n (λ m l u. kept lists keys h m (omega arith))
    ∙ ap (map f)
    (filter_same is_least (is_new f 0) 0 n
    (λ m l u.
    ap (λ (k : Key). nat_eq k.least m) (kept lists keys h m (omega arith))
    ∙ sym (new_where_least lists n h.must h.table m (omega arith))))
    ∙ sym (different_are_new f 0 n)
    ∙ ap different (sym h.keys_are)

-- the number of different keys below its own is the label of each message
pub ranks_are_proposed : (lists : List (List Comm)) (keys found : List MessageKey) (labels : List ℕ) → AreKeys lists (length keys) keys
    → map key_of found ≡ different (map key_of keys)
    → labels ≡ map (λ own. count_by (λ k. is_below (key_of k) (key_of own)) found) keys → IsProposal lists (length keys) labels
ranks_are_proposed lists keys found labels h d e =
    let n = length keys in
    let f : ℕ → Key = key h.must n in
    let rank : Key → ℕ = λ own. count_by (λ k. is_below (key_of k) own) found in
    let label : Key → ℕ = λ own. length (filter (λ k. is_below k own) (different (map f (below n)))) in
    record {
      must = h.must;
      table = h.table;
      labels_are =
          e ∙ sym (map_twice key_of rank keys) ∙ ap (map rank) h.keys_are ∙ map_twice f rank (below n)
          ∙ map_same (λ m. rank (f m)) (proposed h.must n) 0 n
          (λ m l u.
          sym (count_by_map key_of (λ k. is_below k (f m)) found)
          ∙ sym (length-filter (λ k. is_below k (f m)) (map key_of found))
          ∙ ap (λ ks. length (filter (λ k. is_below k (f m)) ks)) (d ∙ ap different h.keys_are));
    }

-- the keys that are kept after some messages
abbrev pub kept_of : List MessageKey → ℕ → List MessageKey
kept_of keys n = map (λ m. get_or keys m no_key) (filter (λ m. nat_eq (get_or keys m no_key).least m) (below n))

-- those that are kept after one message more
pub kept_more : (keys found next : List MessageKey) (m : ℕ) (b : Bool) → found ≡ kept_of keys m
    → next ≡ found ++ cond b (get_or keys m no_key ∷ []) [] → nat_eq (get_or keys m no_key).least m ≡ b → next ≡ kept_of keys (m + 1)
kept_more keys found next m b h e t =
    e ∙ ap (λ xs. xs ++ cond b (get_or keys m no_key ∷ []) []) h
    ∙ ap (λ c. kept_of keys m ++ cond c (get_or keys m no_key ∷ []) []) (sym t)
    ∙ sym (filter_more (λ i. get_or keys i no_key) (λ i. nat_eq (get_or keys i no_key).least i) m)

-- the keys of all messages, by their sets
pub keys_by_sets : (lists : List (List Comm)) (count n : ℕ) (sets lent : List MessageSet) (keys found : List MessageKey)
    → IsTable lists n (is_before sets) → count ≡ n → length sets ≡ count → lent ≡ sets → found ≡ keys
    → map key_of keys ≡ map (key (is_before lent) (length lent)) (below (length lent))
    → (length found ≡ count) × AreKeys lists (length found) found
keys_by_sets lists count n sets lent keys found table e size same_sets same_keys h =
    let all : List MessageSet → ℕ → List Key = λ xs k. map (key (is_before xs) k) (below k) in
    let tables : ℕ → Type 0 = λ k. IsTable lists k (is_before sets) in
    let by_sets : map key_of found ≡ all sets (length sets) = ap (map key_of) same_keys ∙ h ∙ ap (λ xs. all xs (length xs)) same_sets in
    let long : length found ≡ length sets =
    sym (length-map found key_of) ∙ ap length by_sets ∙ length-map-range_with_len (key (is_before sets) (length sets)) 0 (length sets) in (
      long ∙ size,
      record {
        must = is_before sets;
        table = subst tables (let s : n ≡ length found = omega arith in s) table;
        keys_are = by_sets ∙ ap (all sets) (sym long);
      },
    )

-- one label more
pub ranked_more : (keys found lent : List MessageKey) (old new : List ℕ) (i label : ℕ) → i < length keys
    → old ≡ map (λ own. count_by (λ k. is_below (key_of k) (key_of own)) found) (take i keys) → lent ≡ found
    → label ≡ count_by (λ k. is_below (key_of k) (key_of (get_or keys i no_key))) lent → new ≡ old ++ label ∷ []
    → new ≡ map (λ own. count_by (λ k. is_below (key_of k) (key_of own)) found) (take (i + 1) keys)
ranked_more keys found lent old new i label lt h same said e =
    let rank : List MessageKey → MessageKey → ℕ = λ ks own. count_by (λ k. is_below (key_of k) (key_of own)) ks in
    e ∙ ap (λ xs. xs ++ label ∷ []) h
    ∙ ap (λ x. map (rank found) (take i keys) ++ x ∷ []) (said ∙ ap (λ ks. rank ks (get_or keys i no_key)) same)
    ∙ sym (map_more (rank found) keys i no_key lt)
