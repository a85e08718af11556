-- How often communications stand among those of parts.
use Rattle.std.proofs.Common.{◌≡◌, ◌≢◌, ℕ, zero, suc, ◌+◌, ◌*◌, ◌^◌, ◌<◌, ◌≤◌, List, [], ◌∷◌, ◌++◌, length, get_or, take, drop, refl, ap, sym, subst, ◌∙◌, arith}
use Rattle.std.proofs.Math.Nat.{mul-le-mul_left, mul-le-mul_right, mul_assoc}
use Rattle.std.proofs.lemmas.List.{at_drop_more, length-append, take_more}
use Rattle.std.proofs.lemmas.List.Elements.{All-head, All-tail, All-nil, All-cons}
use Rattle.std.proofs.lemmas.List.Folds.{length-flat_map-take}
use Rattle.std.proofs.lemmas.List.Sums.{sum_by-append, count_by-le-length}
use Rattle.std.specs.Global.{Vec}
use Rattle.std.specs.List.{All}
use Rattle.cell_types.specs.Communications.{Communication, Writes, copies, same_communication, times}
use Rattle.comm_sequence.specs.Parts.{part_unrolled, row_unrolled, unrolled}
use Rattle.comm_sequence.specs.bodies.Walking.{CanAdd, HasAdded, HasSome, IsFull, IsFullRow, IsWritten}
use Rattle.comm_sequence.specs.declared.comm.Comm.TheVariants as C
use Rattle.comm_sequence.specs.declared.part.Part.{Part, One, Take, Emit, Repeat', Row_of-Part, end_of-Part, more_of-Part}
use Rattle.comm_sequence.specs.declared.part.Part.TheVariants as P
use Rattle.comm_sequence.proofs.Grown.{unrolled_more}
use Rattle.comm_sequence.proofs.PartRows.{repeat_unrolled, repeat_full}

-- products of sums
mul_add : (t x y : ℕ) → t * (x + y) ≡ t * x + t * y
mul_add zero x y = omega arith
mul_add (suc t) x y = omega (arith, mul_add t x y)

-- how often a communication stands in lists one after another
pub times_append : (x : Communication) (xs ys : List Communication) → times x (xs ++ ys) ≡ times x xs + times x ys
times_append x xs ys = sum_by-append _ xs ys

-- no more often than the list is long
pub times_within : (x : Communication) (xs : List Communication) → times x xs ≤ length xs
times_within x xs = count_by-le-length (same_communication x) xs

-- how often a communication stands in copies
pub times_copies : (x : Communication) (n : ℕ) (xs : List Communication) → times x (copies n xs) ≡ n * times x xs
times_copies x zero xs = omega arith
times_copies x (suc n) xs = omega (arith, times_append x xs (copies n xs), times_copies x n xs)

-- the length of copies
pub long_copies : (n : ℕ) (xs : List Communication) → length (copies n xs) ≡ n * length xs
long_copies zero xs = omega arith
long_copies (suc n) xs = omega (arith, length-append xs (copies n xs), long_copies n xs)

-- a part is no longer than all
pub place_long : (parts : List Part) (i : ℕ) (d : Part) → i < length parts
    → length (part_unrolled (get_or parts i d)) ≤ length (unrolled parts)
place_long parts i d lt = omega (arith, length-flat_map-take part_unrolled parts i d lt)

-- how often a communication stands from a part on
pub place_times : (x : Communication) (parts : List Part) (i : ℕ) (d : Part) → i < length parts
    → times x (unrolled (drop i parts)) ≡ times x (part_unrolled (get_or parts i d)) + times x (unrolled (drop (i + 1) parts))
place_times x parts i d lt =
    at_drop_more (λ xs. times x (unrolled xs)) parts i d lt
    ∙ times_append x (part_unrolled (get_or parts i d)) (unrolled (drop (i + 1) parts))

-- a loop's communications, by its parts
pub loop_unrolled : (part : Part) (turns : ℕ) (parts : Vec Part) (items : List Part) → part ≡ P.Repeat turns parts
    → items ≡ parts.items → part_unrolled part ≡ copies turns (unrolled items)
loop_unrolled part turns parts items is same =
    ap part_unrolled is ∙ repeat_unrolled turns parts ∙ ap (λ xs. copies turns (unrolled xs)) (sym same)

-- a loop's body is no longer than the loop
pub body_long : (part : Part) (turns : ℕ) (parts : Vec Part) (items : List Part) → part ≡ P.Repeat turns parts
    → items ≡ parts.items → turns ≢ 0 → length (unrolled items) ≤ length (part_unrolled part)
body_long part turns parts items is same some =
    let n = length (unrolled items) in
    let once : 1 * n ≤ turns * n = mul-le-mul_right n (omega (arith, some)) in
    omega (arith, once, ap length (loop_unrolled part turns parts items is same), long_copies turns (unrolled items))

-- how often a communication stands in a loop
pub loop_times : (x : Communication) (part : Part) (turns : ℕ) (parts : Vec Part) (items : List Part)
    → part ≡ P.Repeat turns parts → items ≡ parts.items → times x (part_unrolled part) ≡ turns * times x (unrolled items)
loop_times x part turns parts items is same =
    ap (times x) (loop_unrolled part turns parts items is same) ∙ times_copies x turns (unrolled items)

-- what holds of all elements holds of those of each of two parts
all_front : {X : Type 0} (Q : X → Type 0) (xs ys : List X) → All Q (xs ++ ys) → All Q xs
all_front Q [] ys h = All-nil Q
all_front Q (x ∷ xs) ys h = All-cons Q x xs (All-head Q x (xs ++ ys) h) (all_front Q xs ys (All-tail Q x (xs ++ ys) h))

all_back : {X : Type 0} (Q : X → Type 0) (xs ys : List X) → All Q (xs ++ ys) → All Q ys
all_back Q [] ys h = h
all_back Q (x ∷ xs) ys h = all_back Q xs ys (All-tail Q x (xs ++ ys) h)

-- what holds of all communications of parts holds of those of each
all_at_place : (Q : Communication → Type 0) (parts : List Part) (i : ℕ) (d : Part) → i < length parts
    → All Q (unrolled parts) → All Q (part_unrolled (get_or parts i d))
all_at_place Q [] i d lt h = absurd (omega (arith, lt))
all_at_place Q (p ∷ parts) zero d lt h = all_front Q (part_unrolled p) (unrolled parts) h
all_at_place Q (p ∷ parts) (suc i) d lt h =
    all_at_place Q parts i d (omega (arith, lt)) (all_back Q (part_unrolled p) (unrolled parts) h)

mutual
  -- a full part has a communication
  full_some : (p : Part) → IsFull p → 1 ≤ length (part_unrolled p)
  full_some (One operation) h = omega arith
  full_some Take h = omega arith
  full_some Emit h = omega arith
  full_some (Repeat' zero shape parts) h = absurd (h.0 refl)
  full_some (Repeat' (suc n) shape parts) h =
      omega (arith, length-append (row_unrolled parts) (copies n (row_unrolled parts)), row_some_long parts h.1 h.2)

  -- full parts of a loop have one
  row_some_long : {m : _} → (r : Row_of-Part m) → HasSome r → IsFullRow r → 1 ≤ length (row_unrolled r)
  row_some_long end_of-Part some h = absurd some
  row_some_long (more_of-Part part rest) some h =
      omega (arith, length-append (part_unrolled part) (row_unrolled rest), full_some part h.0)

-- full parts have a communication
pub some_long : (parts : List Part) → parts ≢ [] → All IsFull parts → 1 ≤ length (unrolled parts)
some_long [] some h = absurd (some refl)
some_long (p ∷ parts) some h =
    omega (arith, length-append (part_unrolled p) (unrolled parts), full_some p (All-head IsFull p parts h))

-- there is room for one of some parts
pub can_add_part : (parts : List Part) (i : ℕ) (d : Part) (old now : List ℕ) (turns : ℕ) → i < length parts
    → length now ≡ length old → CanAdd old turns (unrolled parts) → HasAdded old now turns (unrolled (take i parts))
    → CanAdd now turns (part_unrolled (get_or parts i d))
can_add_part parts i d old now turns lt same h so_far =
    let part = part_unrolled (get_or parts i d) in
    let front = unrolled (take i parts) in
    let sum : turns * length front + turns * length part ≤ turns * length (unrolled parts) =
    omega (arith, mul_add turns (length front) (length part), mul-le-mul_left turns (length-flat_map-take part_unrolled parts i d lt)) in
    record {
      messages = subst (λ n. All (IsWritten n) part) (sym same) (all_at_place (IsWritten (length old)) parts i d lt h.messages);
      some = h.some;
      few = omega (arith, sum, h.few);
      room = λ m below.
          let before : m < length old = omega (arith, below, same) in
          omega (arith, sum, h.room m before, so_far m before, mul-le-mul_left turns (times_within (Writes m) front));
    }

-- the writes of one part more
pub added_more : (parts : List Part) (i : ℕ) (d : Part) (old now new : List ℕ) (turns : ℕ) → i < length parts
    → length now ≡ length old → HasAdded old now turns (unrolled (take i parts))
    → HasAdded now new turns (part_unrolled (get_or parts i d)) → HasAdded old new turns (unrolled (take (i + 1) parts))
added_more parts i d old now new turns lt same so_far more = λ m below.
    let part = part_unrolled (get_or parts i d) in
    let front = unrolled (take i parts) in
    let list : unrolled (take (i + 1) parts) ≡ front ++ part =
    ap unrolled (take_more parts i d lt) ∙ unrolled_more (take i parts) (get_or parts i d) in
    let e : times (Writes m) (unrolled (take (i + 1) parts)) ≡ times (Writes m) front + times (Writes m) part =
    ap (times (Writes m)) list ∙ times_append (Writes m) front part in
    let f : turns * times (Writes m) (unrolled (take (i + 1) parts)) ≡ turns * times (Writes m) front + turns * times (Writes m) part =
    ap (λ n. turns * n) e ∙ mul_add turns (times (Writes m) front) (times (Writes m) part) in
    omega (arith, f, so_far m below, more m (omega (arith, below, same)))

-- a message that is written has a length
pub write_known : (part : Part) (m count : ℕ) → part ≡ P.One (C.Write m) → All (IsWritten count) (part_unrolled part) → m < count
write_known part m count is h =
    All-head (IsWritten count) (Writes m) [] (subst (λ p. All (IsWritten count) (part_unrolled p)) is h)

-- there is room for a loop's parts in all turns
pub can_add_loop : (part : Part) (inner : ℕ) (parts : Vec Part) (items : List Part) (lengths : List ℕ) (turns : ℕ)
    → part ≡ P.Repeat inner parts → items ≡ parts.items → IsFull part → CanAdd lengths turns (part_unrolled part)
    → CanAdd lengths (turns * inner) (unrolled items)
can_add_loop part inner parts items lengths turns is same full h =
    let f = repeat_full inner parts (subst IsFull is full) in
    let e = loop_unrolled part inner parts items is same in
    let long : turns * length (part_unrolled part) ≡ turns * inner * length (unrolled items) =
    ap (λ n. turns * n) (ap length e ∙ long_copies inner (unrolled items)) ∙ sym (mul_assoc turns inner (length (unrolled items))) in
    record {
      messages = one_copy (length lengths) inner (unrolled items) f.0 (subst (All (IsWritten (length lengths))) e h.messages);
      some = both_some turns inner h.some f.0;
      few = omega (arith, long, h.few);
      room = λ m below. omega (arith, long, h.room m below);
    }
  where
    one_copy : (count n : ℕ) (xs : List Communication) → n ≢ 0 → All (IsWritten count) (copies n xs) → All (IsWritten count) xs
    one_copy count zero xs some a = absurd (some refl)
    one_copy count (suc n) xs some a = all_front (IsWritten count) xs (copies n xs) a

    both_some : (a b : ℕ) → a ≢ 0 → b ≢ 0 → a * b ≢ 0
    both_some zero b x y = λ e. x refl
    both_some (suc a) zero x y = λ e. y refl
    both_some (suc a) (suc b) x y = λ e. absurd (omega (arith, e))

-- so many turns fit
pub turns_fit : (part : Part) (inner : ℕ) (parts : Vec Part) (lengths : List ℕ) (turns : ℕ) → part ≡ P.Repeat inner parts
    → IsFull part → CanAdd lengths turns (part_unrolled part) → turns * inner < 2 ^ 32
turns_fit part inner parts lengths turns is full h =
    let f = repeat_full inner parts (subst IsFull is full) in
    let can = can_add_loop part inner parts parts.items lengths turns is refl full h in
    let k : turns * inner * 1 ≤ turns * inner * length (unrolled parts.items) =
    mul-le-mul_left (turns * inner) (some_long parts.items f.1 f.2) in
    omega (arith, k, can.few)

-- the writes of a loop's parts in all turns are those of the loop
pub added_loop : (part : Part) (inner : ℕ) (parts : Vec Part) (items : List Part) (old new : List ℕ) (turns : ℕ)
    → part ≡ P.Repeat inner parts → items ≡ parts.items → HasAdded old new (turns * inner) (unrolled items)
    → HasAdded old new turns (part_unrolled part)
added_loop part inner parts items old new turns is same h = λ m below.
    let e : turns * times (Writes m) (part_unrolled part) ≡ turns * inner * times (Writes m) (unrolled items) =
    ap (λ n. turns * n) (loop_times (Writes m) part inner parts items is same) ∙ sym (mul_assoc turns inner (times (Writes m) (unrolled items))) in
    omega (arith, e, h m below)
