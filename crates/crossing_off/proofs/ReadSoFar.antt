-- How often messages are read, list by list.
use Rattle.std.proofs.Common.{◌≡◌, ◌≢◌, ℕ, zero, suc, ◌+◌, ◌<◌, ◌≤◌, ◌^◌, cond, nat_eq, nat_lt, List, [], ◌∷◌, Some, All, IsSomeAnd, length, get_or, set, slice_get, slice_index, slice_index_or, sym, ◌∙◌, ap, subst, refl, ⊎_elim, inl, inr, arith}
use Rattle.std.specs.Option.{option_map_or}
use Rattle.std.proofs.lemmas.Bool.{cases_eq, cases_lt, cases_order, eq-eqb, lt-ltb, le-ltb, ne_eqb}
use Rattle.std.proofs.lemmas.List.{get_or-set_same, get_or-set_other}
use Rattle.std.proofs.lemmas.List.Elements.{All-head, All-tail}
use Rattle.std.proofs.lemmas.List.Sums.{count_by-le-length, get_or-le-sum_by, sum_by-cons}
use Rattle.std.specs.List.{sum_by}
use Rattle.comm_sequence.specs.BufferedOrder.{occurrences, same}
use Rattle.comm_sequence.specs.Sequences.{Sequences, IsAtItsEnd, IsSequences, message_of}
use Rattle.comm_sequence.specs.declared.comm.Comm.{Comm}
use Rattle.comm_sequence.specs.declared.comm.Comm.TheVariants.{Write, Read}
use Rattle.crossing_off.specs.Greedy.{reads_of}
use Rattle.crossing_off.proofs.Counts.{occurs_cons}
use Rattle.crossing_off.proofs.Ends.{has_ends_at}

-- a cell that does not receive a message does not read it
none_read : (ends : List (ℕ × ℕ)) (cell m : ℕ) (e : ℕ × ℕ) (xs : List Comm) → All (IsAtItsEnd ends cell) xs → slice_get ends m ≡ Some e
    → e.1 ≢ cell → occurrences (Read m) xs ≡ 0
none_read ends cell m e [] own at other = refl
none_read ends cell m e (Write n ∷ xs) own at other =
    let tail = none_read ends cell m e xs (All-tail (IsAtItsEnd ends cell) (Write n) xs own) at other in
    omega (arith, tail, occurs_cons (Read m) (Write n) xs)
none_read ends cell m e (Read n ∷ xs) own at other =
    let tail = none_read ends cell m e xs (All-tail (IsAtItsEnd ends cell) (Read n) xs own) at other in
    ⊎_elim
    (λ (same : m ≡ n).
    let here : IsSomeAnd (slice_get ends n) (λ x. x.1 ≡ cell) = All-head (IsAtItsEnd ends cell) (Read n) xs own in
    let found : slice_get ends n ≡ Some e = ap (slice_get ends) (sym same) ∙ at in
    absurd (other (subst (λ o. IsSomeAnd o (λ (x : ℕ × ℕ). x.1 ≡ cell)) found here)))
    (λ (differ : m ≢ n). omega (arith, tail, occurs_cons (Read m) (Read n) xs, ap {B = ℕ} (λ b. cond b 1 0) (ne_eqb m n differ)))
    (cases_eq m n)

-- the reads of a message in the list of its receiver, if that is one of those so far
abbrev pub read_so_far : Sequences → ℕ → ℕ × ℕ → ℕ → ℕ
read_so_far s m e cell = cond (nat_lt e.1 cell) (occurrences (Read m) (slice_index_or s.lists e.1 [])) 0

-- one list more
pub wanted_more : (s : Sequences) (m : ℕ) (e : ℕ × ℕ) (cell old : ℕ) → IsSequences s → cell < length s.lists → slice_get s.ends m ≡ Some e
    → old ≡ read_so_far s m e cell → old + occurrences (Read m) (slice_index_or s.lists cell []) ≡ read_so_far s m e (cell + 1)
wanted_more s m e cell old sound l at is =
    let here = occurrences (Read m) (slice_index_or s.lists e.1 []) in
    ⊎_elim
    (λ (same : e.1 ≡ cell).
    let before = ap {B = ℕ} (λ b. cond b here 0) (le-ltb e.1 cell (omega arith)) in
    let after = ap {B = ℕ} (λ b. cond b here 0) (lt-ltb e.1 (cell + 1) (omega arith)) in
    let list = ap (λ c. occurrences (Read m) (slice_index_or s.lists c [])) same in
    omega (arith, is, before, after, list))
    (λ rest. ⊎_elim
    (λ (less : e.1 < cell).
    let before = ap {B = ℕ} (λ b. cond b here 0) (lt-ltb e.1 cell less) in
    let after = ap {B = ℕ} (λ b. cond b here 0) (lt-ltb e.1 (cell + 1) (omega arith)) in
    let none = none_read s.ends cell m e (slice_index_or s.lists cell []) (sound.owned cell l) at (λ q. omega arith) in
    omega (arith, is, before, after, none))
    (λ (more : cell < e.1).
    let before = ap {B = ℕ} (λ b. cond b here 0) (le-ltb e.1 cell (omega arith)) in
    let after = ap {B = ℕ} (λ b. cond b here 0) (le-ltb e.1 (cell + 1) (omega arith)) in
    let none = none_read s.ends cell m e (slice_index_or s.lists cell []) (sound.owned cell l) at (λ q. omega arith) in
    omega (arith, is, before, after, none))
    rest)
    (cases_order e.1 cell)

-- at first nothing is read
pub wanted_start : (s : Sequences) (m : ℕ) (e : ℕ × ℕ) → 0 ≡ read_so_far s m e 0
wanted_start s m e = sym (ap {B = ℕ} (λ b. cond b (occurrences (Read m) (slice_index_or s.lists e.1 [])) 0) (le-ltb e.1 0 (omega arith)))

-- in the end all lists are read
pub wanted_all : (s : Sequences) (m : ℕ) (e : ℕ × ℕ) (cell : ℕ) → IsSequences s → slice_get s.ends m ≡ Some e → length s.lists ≤ cell
    → read_so_far s m e cell ≡ reads_of s m
wanted_all s m e cell sound at all =
    let h = has_ends_at s m e sound at in
    ap {B = ℕ} (λ b. cond b (occurrences (Read m) (slice_index_or s.lists e.1 [])) 0) (lt-ltb e.1 cell (omega (arith, all, h.receiver_in)))
    ∙ sym (ap (λ o. option_map_or (λ (x : ℕ × ℕ). occurrences (Read m) (slice_index_or s.lists x.1 [])) o 0) at)

-- two lists are no longer than all of them
two_lists : (xs : List (List Comm)) (i j : ℕ) → i < j → j < length xs
    → length (get_or xs i []) + length (get_or xs j []) ≤ sum_by length xs
two_lists [] i j less lt = absurd (omega (arith, lt))
two_lists (x ∷ xs) i zero less lt = absurd (omega (arith, less))
two_lists (x ∷ xs) zero (suc j) less lt =
    omega (arith, sum_by-cons length x xs, get_or-le-sum_by length xs j [] (omega (arith, lt)))
two_lists (x ∷ xs) (suc i) (suc j) less lt =
    omega (arith, sum_by-cons length x xs, two_lists xs i j (omega (arith, less)) (omega (arith, lt)))

-- there is room for one list more
pub wanted_room : (s : Sequences) (m : ℕ) (e : ℕ × ℕ) (cell old : ℕ) → IsSequences s → cell < length s.lists → slice_get s.ends m ≡ Some e
    → old ≡ read_so_far s m e cell → old + length (slice_index_or s.lists cell []) < 2 ^ 32
wanted_room s m e cell old sound l at is =
    let here = slice_index_or s.lists e.1 [] in
    let one = count_by-le-length (same (Read m)) here in
    elim (cases_lt e.1 cell) as (λ _. old + length (slice_index_or s.lists cell []) < 2 ^ 32) [
      | inl before ↦
          let counted = ap {B = ℕ} (λ b. cond b (occurrences (Read m) here) 0) (lt-ltb e.1 cell before) in
          omega (arith, is, counted, one, two_lists s.lists e.1 cell before l, sound.few)
      | inr from ↦
          let none = ap {B = ℕ} (λ b. cond b (occurrences (Read m) here) 0) (le-ltb e.1 cell from) in
          omega (arith, is, none, get_or-le-sum_by length s.lists cell [] l, sound.few)
    ]

-- ---- along a list
-- a read is counted
pub one_read : (now : List ℕ) (list rest : List Comm) (x : Comm) (m index k : ℕ) → list ≡ x ∷ rest → x ≡ Read m → index ≡ m → index < length now
    → slice_index (set now index (slice_index now index + 1)) k + occurrences (Read k) rest ≡ slice_index now k + occurrences (Read k) list
one_read now list rest x m index k is read at l =
    let all : list ≡ Read m ∷ rest = is ∙ ap (λ y. y ∷ rest) read in
    let more : occurrences (Read k) list ≡ cond (nat_eq k m) 1 0 + occurrences (Read k) rest = ap (occurrences (Read k)) all ∙ occurs_cons (Read k) (Read m) rest in
    ⊎_elim
    (λ (same : k ≡ index).
    let now_is : slice_index (set now index (slice_index now index + 1)) k ≡ slice_index now k + 1 =
    ap (slice_index (set now index (slice_index now index + 1))) same ∙ get_or-set_same now index (slice_index now index + 1) 0 l ∙ ap (λ j. slice_index now j + 1) (sym same) in
    let one = ap {B = ℕ} (λ b. cond b 1 0) (eq-eqb k m (same ∙ at)) in
    omega (arith, now_is, more, one))
    (λ (differ : k ≢ index).
    let now_is = get_or-set_other now index k (slice_index now index + 1) 0 differ in
    let none = ap {B = ℕ} (λ b. cond b 1 0) (ne_eqb k m (λ e. differ (e ∙ sym at))) in
    omega (arith, now_is, more, none))
    (cases_eq k index)

-- what is counted grows by one at most
pub grows : (now : List ℕ) (index k : ℕ) → index < length now → slice_index (set now index (slice_index now index + 1)) k ≤ slice_index now k + 1
grows now index k l =
    ⊎_elim
    (λ (same : k ≡ index).
    let now_is : slice_index (set now index (slice_index now index + 1)) k ≡ slice_index now k + 1 =
    ap (slice_index (set now index (slice_index now index + 1))) same ∙ get_or-set_same now index (slice_index now index + 1) 0 l ∙ ap (λ j. slice_index now j + 1) (sym same) in
    omega (arith, now_is))
    (λ (differ : k ≢ index).
    let now_is = get_or-set_other now index k (slice_index now index + 1) 0 differ in
    omega (arith, now_is))
    (cases_eq k index)

-- a write is not counted
pub no_read : (list rest : List Comm) (x : Comm) (k : ℕ) → list ≡ x ∷ rest → ((m : ℕ) → x ≡ Read m → ⊥) → occurrences (Read k) rest ≡ occurrences (Read k) list
no_read list rest (Write n) k is other =
    let more = ap (occurrences (Read k)) is ∙ occurs_cons (Read k) (Write n) rest in
    omega (arith, more)
no_read list rest (Read n) k is other = absurd (other n refl)

-- the operations after the first one are on messages
pub rest_known : (n : ℕ) (list rest : List Comm) (x : Comm) → list ≡ x ∷ rest → All (λ e. message_of e < n) list
    → (message_of x < n) × All (λ e. message_of e < n) rest
rest_known n list rest x is known =
    let P : Comm → Type 0 = λ e. message_of e < n in
    let all : All P (x ∷ rest) = subst (All P) is known in
    (All-head P x rest all, All-tail P x rest all)
