-- Where the rule is stuck with something left, there is no order for the buffer of any kind: the first operation of
-- such an order that is not yet crossed often enough may be crossed next. The same holds of any operations that may
-- be crossed one after another, so all choices leave the same.
use Rattle.std.proofs.Common.{◌≡◌, ◌≢◌, ℕ, zero, suc, ◌+◌, ◌<◌, ◌≤◌, Bool, true, false, cond, nat_eq, List, [], ◌∷◌, ◌++◌, Some, All, EachIndex, length, take, drop, get_or, slice_get, slice_index_or, sym, ◌∙◌, ap, subst, refl, ⊎_elim, arith}
use Rattle.std.specs.Option.{option_map_or}
use Rattle.std.proofs.lemmas.Bool.{cases_Bool, cases_lt, eq-eqb}
use Rattle.std.proofs.lemmas.List.{append-nil, append_assoc, length-append, take_all}
use Rattle.std.proofs.lemmas.List.Elements.{All-contains, All-from_get_or, Contains-append_right, filter-append}
use Rattle.std.proofs.lemmas.List.FromFn.{length-range_with_len, get_or-range_with_len}
use Rattle.std.proofs.lemmas.List.Sums.{sum_by-le}
use Rattle.cell_types.specs.Groups.{below}
use Rattle.comm_sequence.specs.BufferedOrder.{is_of, occurrences, same, IsBufferedOrder, KeepsBuffer}
use Rattle.comm_sequence.specs.Sequences.{Sequences, IsSequences, message_of}
use Rattle.comm_sequence.specs.declared.comm.Comm.{Comm}
use Rattle.comm_sequence.specs.declared.comm.Comm.TheVariants.{Write, Read}
use Rattle.crossing_off.specs.Greedy.{front, left, made, reads_of, rest, IsFront, IsStuck, IsWanted, MayAll, MayCross}
use Rattle.crossing_off.proofs.Counts.{meets, no_longer, occurs_append, occurs_cons, occurs_itself, occurs_kept, occurs_push, one_if_same, push_itself, same_equal}
use Rattle.crossing_off.proofs.Ends.{HasEnds, cells_differ, has_cell, has_ends}
use Rattle.crossing_off.proofs.Lists.{from_first}
use Rattle.crossing_off.proofs.Runs.{Holds, along, holds_all, holds_at}
use Rattle.crossing_off.proofs.Steps.{IsReached, is_front, other_cell, own_cell, stands_first}

-- two numbers after one test
cond_le : (b : Bool) (x y : ℕ) → x ≤ y → cond b x 0 ≤ cond b y 0
cond_le true x y h = h
cond_le false x y h = omega arith

-- a cell has made an operation no more often after fewer operations
made_le : (s : Sequences) (c : ℕ) (pre es : List Comm) → ((y : Comm) → occurrences y pre ≤ occurrences y es)
    → (y : Comm) → occurrences y (made s pre c) ≤ occurrences y (made s es c)
made_le s c pre es h y =
    omega (arith, occurs_kept (is_of s.ends c) y pre, occurs_kept (is_of s.ends c) y es, cond_le (is_of s.ends c y) _ _ (h y))

-- and as often where it stands as often in both
made_same : (s : Sequences) (c : ℕ) (pre es : List Comm) (y : Comm) → occurrences y pre ≡ occurrences y es
    → occurrences y (made s pre c) ≡ occurrences y (made s es c)
made_same s c pre es y h =
    occurs_kept (is_of s.ends c) y pre ∙ ap (λ n. cond (is_of s.ends c y) n 0) h ∙ sym (occurs_kept (is_of s.ends c) y es)

-- a cell that comes to an operation after fewer operations is at it, where it is crossed as often
meets_at : (s : Sequences) (c : ℕ) (pre es tail : List Comm) (e : Comm) → made s pre c ++ e ∷ tail ≡ slice_index_or s.lists c []
    → IsReached s es c → ((y : Comm) → occurrences y pre ≤ occurrences y es) → occurrences e pre ≡ occurrences e es
    → front s es c ≡ Some e
meets_at s c pre es tail e list reached h same =
    ap (λ xs. slice_get xs 0)
    (meets (made s pre c) (made s es c) tail (rest s es c) e (list ∙ sym reached) (made_le s c pre es h) (made_same s c pre es e same))

-- ---- any operations that may be crossed one after another
-- an operation that stands first after fewer operations stands first
front_too : (s : Sequences) (pre es : List Comm) (e : Comm) → IsSequences s → EachIndex s.lists (IsReached s pre)
    → EachIndex s.lists (IsReached s es) → ((y : Comm) → occurrences y pre ≤ occurrences y es) → occurrences e pre ≡ occurrences e es
    → IsFront s pre e → IsFront s es e
front_too s pre es e sound before after h same front =
    let f = stands_first s pre e sound front in
    let c = f.home.cell in
    let list = ap (λ xs. made s pre c ++ xs) (sym (from_first (rest s pre c) e f.first)) ∙ before c f.home.within in
    is_front s es e f.home (meets_at s c pre es _ e list (after c f.home.within) h same)

-- an operation that may be crossed after fewer operations may be crossed, where it is crossed as often
may_too : (s : Sequences) (buffer : ℕ) (pre es : List Comm) (e : Comm) → IsSequences s → Holds s buffer pre → Holds s buffer es
    → ((y : Comm) → occurrences y pre ≤ occurrences y es) → occurrences e pre ≡ occurrences e es → MayCross s buffer pre e → MayCross s buffer es e
may_too s buffer pre es (Read m) sound p q h same may = (
  front_too s pre es (Read m) sound p.reached q.reached h same may.0,
  let w = h (Write m) in let less = may.1 in omega (arith, w, less, same),
)
may_too s buffer pre es (Write m) sound p q h same may = (
  front_too s pre es (Write m) sound p.reached q.reached h same may.0,
  wanted buffer p q may,
  let r = h (Read m) in let less = may.2 in omega (arith, r, less, same),
)
  where
    wanted : (d : ℕ) → Holds s d pre → Holds s d es → MayCross s d pre (Write m) → IsWanted s d es m
    wanted zero p q may =
        let r = h (Read m) in
        let less = may.2 in
        let waits = q.written m in
        let as_often : occurrences (Read m) pre ≡ occurrences (Read m) es = omega (arith, r, less, waits, same) in
        front_too s pre es (Read m) sound p.reached q.reached h as_often may.1
    wanted (suc d) p q may = let less = may.1 in omega (arith, less, same)

-- one operation more, which is crossed more often
push_le : (pre es : List Comm) (e : Comm) → ((y : Comm) → occurrences y pre ≤ occurrences y es)
    → occurrences e pre < occurrences e es → (y : Comm) → occurrences y (pre ++ e ∷ []) ≤ occurrences y es
push_le pre es e h less y =
    ⊎_elim
    (λ (t : same y e ≡ true).
    let is : y ≡ e = same_equal y e t in
    let P : Comm → Type 0 = λ x. occurrences x (pre ++ e ∷ []) ≤ occurrences x es in
    subst P (sym is) (omega (arith, push_itself e pre, less)))
    (λ (f : same y e ≡ false). let old = h y in omega (arith, old, occurs_push y e pre, ap {B = ℕ} (λ b. cond b 1 0) f))
    (cases_Bool (same y e))

-- no operation is crossed more often than by operations after which the rule is stuck
no_more : (s : Sequences) (buffer : ℕ) (any es : List Comm) → IsSequences s → MayAll s buffer any → MayAll s buffer es → IsStuck s buffer es
    → (y : Comm) → occurrences y any ≤ occurrences y es
no_more s buffer any es sound may all stuck =
    let P : List Comm → Type 0 = λ pre. (y : Comm) → occurrences y pre ≤ occurrences y es in
    let h : P (take (length any) any) = along P any (λ y. omega arith) (λ k e at before.
    ⊎_elim
    (λ (less : occurrences e (take k any) < occurrences e es). push_le (take k any) es e before less)
    (λ (done : occurrences e es ≤ occurrences e (take k any)).
    let old = before e in
    absurd (stuck e (may_too s buffer (take k any) es e sound (holds_at s buffer any sound may k) (holds_all s buffer es sound all) before
    (omega (arith, old, done)) (may k e at))))
    (cases_lt (occurrences e (take k any)) (occurrences e es))) (length any) in
    subst P (take_all (length any) any (omega arith)) h

-- two choices leave the same
pub same_left : (s : Sequences) (buffer : ℕ) (a b : List Comm) → IsSequences s → MayAll s buffer a → IsStuck s buffer a
    → MayAll s buffer b → IsStuck s buffer b → EachIndex s.lists (λ c. rest s a c ≡ rest s b c)
same_left s buffer a b sound may_a stuck_a may_b stuck_b = λ c l.
    let p = (holds_all s buffer a sound may_a).reached c l in
    let q = (holds_all s buffer b sound may_b).reached c l in
    let le = no_longer (made s a c) (made s b c) (rest s a c) (rest s b c) (p ∙ sym q)
    (made_le s c a b (no_more s buffer a b sound may_a may_b stuck_b)) in
    let ge = no_longer (made s b c) (made s a c) (rest s b c) (rest s a c) (q ∙ sym p)
    (made_le s c b a (no_more s buffer b a sound may_b may_a stuck_a)) in
    let same : length (made s a c) ≡ length (made s b c) = omega (arith, le, ge) in
    ap (λ n. drop n (slice_index_or s.lists c [])) same

-- ---- orders for the buffer
-- the operation of a cell, and those after it
made_next : (s : Sequences) (pre post : List Comm) (e : Comm) (c : ℕ) → is_of s.ends c e ≡ true
    → made s pre c ++ e ∷ made s post c ≡ made s (pre ++ e ∷ post) c
made_next s pre post e c t =
    sym (filter-append (is_of s.ends c) pre (e ∷ post)
    ∙ ap (λ b. made s pre c ++ cond b (e ∷ made s post c) (made s post c)) t)

-- the operation of another cell, and those after it
made_skips : (s : Sequences) (pre post : List Comm) (e : Comm) (c : ℕ) → is_of s.ends c e ≡ false
    → made s pre c ++ made s post c ≡ made s (pre ++ e ∷ post) c
made_skips s pre post e c t =
    sym (filter-append (is_of s.ends c) pre (e ∷ post)
    ∙ ap (λ b. made s pre c ++ cond b (e ∷ made s post c) (made s post c)) t)

-- a list up to and with an operation
take_up_to : (pre post : List Comm) (e : Comm) → take (length pre + 1) (pre ++ e ∷ post) ≡ pre ++ e ∷ []
take_up_to [] post e = refl
take_up_to (x ∷ pre) post e =
    let n : length (x ∷ pre) + 1 ≡ suc (length pre + 1) = omega arith in
    ap (λ k. take k (x ∷ pre ++ e ∷ post)) n ∙ ap (λ ys. x ∷ ys) (take_up_to pre post e)

-- the operation that stands after some
stands_after : (pre post : List Comm) (e : Comm) → slice_get (pre ++ e ∷ post) (length pre) ≡ Some e
stands_after [] post e = refl
stands_after (x ∷ pre) post e = stands_after pre post e

-- the one that stands next
next_after : (pre post : List Comm) (e x : Comm) → slice_get (pre ++ e ∷ post) (suc (length pre)) ≡ Some x
    → (later : List Comm) × (post ≡ x ∷ later)
next_after [] [] e x h = absurd (cc h)
next_after [] (y ∷ post) e x h = let is : y ≡ x = cc in (post, ap (λ z. z ∷ post) is)
next_after (z ∷ pre) post e x h = next_after pre post e x h

-- without a buffer no word waits where a write comes next
balanced : (pre post : List Comm) (m : ℕ) → KeepsBuffer zero (pre ++ Write m ∷ post)
    → ((n k : ℕ) → occurrences (Read k) (take n (pre ++ Write m ∷ post)) ≤ occurrences (Write k) (take n (pre ++ Write m ∷ post)))
    → (k : ℕ) → occurrences (Write k) pre ≤ occurrences (Read k) pre
balanced [] post m kept prefix k = omega arith
balanced (Read n ∷ pre) post m kept prefix k =
    let h : occurrences (Read n) (Read n ∷ []) ≤ occurrences (Write n) (Read n ∷ []) = prefix 1 n in
    absurd (omega (arith, h, occurs_itself (Read n) [], occurs_cons (Write n) (Read n) []))
balanced (Write n ∷ []) post m kept prefix k = absurd (cc (kept 0 n refl))
balanced (Write n ∷ x ∷ pre) post m kept prefix k =
    let is : x ≡ Read n = let e = kept 0 n refl in cc in
    let later = balanced pre post m (λ i j e. kept (suc (suc i)) j e)
    (λ i j. let h = prefix (suc (suc i)) j in
    let t = take i (pre ++ Write m ∷ post) in
    omega (
      arith,
      h,
      occurs_cons (Read j) (Write n) (x ∷ t),
      occurs_cons (Write j) (Write n) (x ∷ t),
      occurs_cons (Read j) x t,
      occurs_cons (Write j) x t,
      ap (one_if_same (Read j)) is,
      ap (one_if_same (Write j)) is,
    )) k in
    omega (
      arith,
      later,
      occurs_cons (Write k) (Write n) (x ∷ pre),
      occurs_cons (Read k) (Write n) (x ∷ pre),
      occurs_cons (Write k) x pre,
      occurs_cons (Read k) x pre,
      ap (one_if_same (Read k)) is,
      ap (one_if_same (Write k)) is,
    )

-- the reads of a message in its receiver's list
pub reads_are : (s : Sequences) (m : ℕ) (order : List Comm) (h : HasEnds s m) → made s order h.receiver ≡ slice_index_or s.lists h.receiver []
    → is_of s.ends h.receiver (Read m) ≡ true → reads_of s m ≡ occurrences (Read m) order
reads_are s m order h made_is mine =
    ap (λ o. option_map_or (λ (e : ℕ × ℕ). occurrences (Read m) (slice_index_or s.lists e.1 [])) o 0) h.is
    ∙ ap (occurrences (Read m)) (sym made_is) ∙ occurs_kept (is_of s.ends h.receiver) (Read m) order
    ∙ ap (λ b. cond b (occurrences (Read m) order) 0) mine

-- an operation that is next in an order stands first, where it is crossed as often as before it
next_front : (s : Sequences) (buffer : ℕ) (pre post es : List Comm) (e : Comm) → IsSequences s
    → IsBufferedOrder s.lists s.ends buffer (pre ++ e ∷ post) → EachIndex s.lists (IsReached s es)
    → ((y : Comm) → occurrences y pre ≤ occurrences y es) → occurrences e pre ≡ occurrences e es → IsFront s es e
next_front s buffer pre post es e sound order reached h same =
    let P : Comm → Type 0 = λ x. message_of x < length s.ends in
    let known : message_of e < length s.ends = All-contains P (pre ++ e ∷ post) e order.known (Contains-append_right pre (e ∷ post) e (0, omega arith, refl)) in
    let home = has_cell s e sound known in
    let c = home.cell in
    is_front s es e home (meets_at s c pre es (made s post c) e
    (made_next s pre post e c (own_cell s e home) ∙ order.each c home.within) (reached c home.within) h same)

-- what an order keeps up to and with an operation
up_to : (f g : List Comm → ℕ) (pre post : List Comm) (e : Comm) (more : ℕ)
    → f (take (length pre + 1) (pre ++ e ∷ post)) ≤ g (take (length pre + 1) (pre ++ e ∷ post)) + more → f (pre ++ e ∷ []) ≤ g (pre ++ e ∷ []) + more
up_to f g pre post e more h = subst (λ xs. f xs ≤ g xs + more) (take_up_to pre post e) h

-- without a buffer the read of a write that comes next stands first too
read_front : (s : Sequences) (pre post es : List Comm) (m : ℕ) → IsSequences s → IsBufferedOrder s.lists s.ends zero (pre ++ Write m ∷ post)
    → Holds s zero es → ((y : Comm) → occurrences y pre ≤ occurrences y es) → occurrences (Write m) pre ≡ occurrences (Write m) es
    → IsFront s es (Read m)
read_front s pre post es m sound order h counts same =
    let P : Comm → Type 0 = λ x. message_of x < length s.ends in
    let known : m < length s.ends = All-contains P (pre ++ Write m ∷ post) (Write m) order.known (Contains-append_right pre (Write m ∷ post) (Write m) (0, omega arith, refl)) in
    let home = has_cell s (Read m) sound known in
    let other = has_cell s (Write m) sound known in
    let c = home.cell in
    let apart : c ≢ other.cell = λ q. cells_differ s m other.cell c sound other.is home.is (sym q) in
    let next = next_after pre post (Write m) (Read m) (order.kept (length pre) m (stands_after pre post (Write m))) in
    let skips = made_skips s pre post (Write m) c (other_cell s (Write m) other c apart) in
    let later : made s post c ≡ Read m ∷ made s next.0 c =
    ap (λ xs. made s xs c) next.1 ∙ ap (λ b. cond b (Read m ∷ made s next.0 c) (made s next.0 c)) (own_cell s (Read m) home) in
    let even = balanced pre post m order.kept order.prefix m in
    let r = counts (Read m) in
    let waits = h.written m in
    is_front s es (Read m) home (meets_at s c pre es (made s next.0 c) (Read m)
    (ap (λ xs. made s pre c ++ xs) (sym later) ∙ skips ∙ order.each c home.within) (h.reached c home.within) counts (omega (arith, r, even, waits, same)))

-- an operation that is next in an order may be crossed, where it is crossed as often as before it
may_next : (s : Sequences) (buffer : ℕ) (pre post es : List Comm) (e : Comm) → IsSequences s → IsBufferedOrder s.lists s.ends buffer (pre ++ e ∷ post)
    → Holds s buffer es → ((y : Comm) → occurrences y pre ≤ occurrences y es) → occurrences e pre ≡ occurrences e es → MayCross s buffer es e
may_next s buffer pre post es (Read m) sound order h counts same = (
  next_front s buffer pre post es (Read m) sound order h.reached counts same,
  let w = counts (Write m) in
      let p = up_to (occurrences (Read m)) (occurrences (Write m)) pre post (Read m) 0 (let q = order.prefix (length pre + 1) m in omega arith) in
      omega (arith, w, p, same, push_itself (Read m) pre, occurs_push (Write m) (Read m) pre),
)
may_next s zero pre post es (Write m) sound order h counts same = (
  next_front s zero pre post es (Write m) sound order h.reached counts same,
  read_front s pre post es m sound order h counts same,
  let r = counts (Read m) in
      let even = balanced pre post m order.kept order.prefix m in
      omega (arith, r, even, same),
)
may_next s (suc d) pre post es (Write m) sound order h counts same =
    let P : Comm → Type 0 = λ x. message_of x < length s.ends in
    let known : m < length s.ends = All-contains P (pre ++ Write m ∷ post) (Write m) order.known (Contains-append_right pre (Write m ∷ post) (Write m) (0, omega arith, refl)) in
    let ends = has_ends s m sound known in
    let home = has_cell s (Read m) sound known in
    let mine : is_of s.ends ends.receiver (Read m) ≡ true = ap (λ o. option_map_or (λ (e : ℕ × ℕ). nat_eq e.1 ends.receiver) o false) ends.is ∙ eq-eqb ends.receiver ends.receiver refl in
    let reads = reads_are s m (pre ++ Write m ∷ post) ends (order.each ends.receiver ends.receiver_in) mine in
    let whole = order.whole m in
    let parts = occurs_append (Write m) pre (Write m ∷ post) in
    let r = counts (Read m) in
    let p = up_to (occurrences (Write m)) (occurrences (Read m)) pre post (Write m) (suc d) (order.kept (length pre + 1) m) in (
      next_front s (suc d) pre post es (Write m) sound order h.reached counts same,
      omega (arith, reads, whole, parts, occurs_itself (Write m) post, same),
      omega (arith, r, p, same, push_itself (Write m) pre, occurs_push (Read m) (Write m) pre),
    )

-- an order crosses nothing more often than operations after which the rule is stuck
order_no_more : (s : Sequences) (buffer : ℕ) (pre post es : List Comm) → IsSequences s → IsBufferedOrder s.lists s.ends buffer (pre ++ post)
    → Holds s buffer es → IsStuck s buffer es → ((y : Comm) → occurrences y pre ≤ occurrences y es) → (y : Comm) → occurrences y (pre ++ post) ≤ occurrences y es
order_no_more s buffer pre [] es sound order h stuck counts y = let c = counts y in omega (arith, c, ap (occurrences y) (append-nil pre))
order_no_more s buffer pre (e ∷ post) es sound order h stuck counts y =
    let same : (pre ++ e ∷ []) ++ post ≡ pre ++ e ∷ post = append_assoc pre (e ∷ []) post in
    ⊎_elim
    (λ (less : occurrences e pre < occurrences e es).
    let more = order_no_more s buffer (pre ++ e ∷ []) post es sound (subst (IsBufferedOrder s.lists s.ends buffer) (sym same) order) h stuck
    (push_le pre es e counts less) y in
    omega (arith, more, ap (occurrences y) same))
    (λ (done : occurrences e es ≤ occurrences e pre).
    let c = counts e in
    absurd (stuck e (may_next s buffer pre post es e sound order h counts (omega (arith, c, done)))))
    (cases_lt (occurrences e pre) (occurrences e es))

-- the cell at a place among all cells
pub cell_at : (n i : ℕ) → i < n → get_or (below n) i 0 ≡ i
cell_at n i l = get_or-range_with_len 0 n i 0 l ∙ omega arith

-- where there is an order, a rule that is stuck leaves nothing
pub nothing_left : (s : Sequences) (buffer : ℕ) (order es : List Comm) → IsSequences s → IsBufferedOrder s.lists s.ends buffer order
    → Holds s buffer es → IsStuck s buffer es → left s es ≡ 0
nothing_left s buffer order es sound is h stuck =
    let n = length s.lists in
    let counts = order_no_more s buffer [] order es sound is h stuck (λ y. omega arith) in
    let Short : ℕ → Type 0 = λ c. length (rest s es c) ≤ 0 in
    let none : All Short (below n) = All-from_get_or Short (below n) 0 (λ i l.
    let within : i < n = omega (arith, l, length-range_with_len 0 n) in
    let list = is.each i within in
    let reached = h.reached i within in
    let le = no_longer (made s order i) (made s es i) [] (rest s es i) (append-nil (made s order i) ∙ list ∙ sym reached) (made_le s i order es counts) in
    let short : Short i = omega (arith, le, ap length list, ap length reached, length-append (made s es i) (rest s es i)) in
    subst Short (sym (cell_at n i within)) short) in
    omega (arith, sum_by-le (λ c. length (rest s es c)) 0 (below n) none)
