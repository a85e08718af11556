-- Parts that get longer, and their writes and reads.
use Rattle.std.proofs.Common.{◌≡◌, ◌≢◌, ℕ, zero, suc, ◌+◌, ◌<◌, ◌≤◌, List, [], ◌∷◌, ◌++◌, Result, Ok, Err, length, get_or, drop, map, refl, ap, sym, subst, ◌∙◌, arith, append_assoc}
use Rattle.std.proofs.Math.Nat.{max-le}
use Rattle.std.proofs.lemmas.Grind.{flat_map-append}
use Rattle.std.proofs.lemmas.List.{append-nil, at_drop_more, map-append}
use Rattle.std.proofs.lemmas.List.Elements.{filter_map-append, All-nil, All-cons, All-head, All-tail}
use Rattle.std.specs.Bool.{⊤}
use Rattle.std.specs.Global.{Vec}
use Rattle.std.specs.Result.{OnOk}
use Rattle.std.specs.List.{All}
use Rattle.cell_types.specs.Communications.{Communication, copies}
use Rattle.comm_sequence.specs.Parts.{communication, part_unrolled, unrolled, part_loops, loops}
use Rattle.comm_sequence.specs.Sequences.{comm_of, comms}
use Rattle.comm_sequence.specs.bodies.Walking.{operations, AreOperations, HasGrown, IsFull}
use Rattle.comm_sequence.specs.declared.comm.Comm.{Comm}
use Rattle.comm_sequence.specs.declared.comm.Comm.TheVariants as C
use Rattle.comm_sequence.specs.declared.part.Part.{Part}
use Rattle.comm_sequence.specs.declared.part.Part.TheVariants as P
use Rattle.comm_sequence.proofs.PartRows.{repeat_unrolled, repeat_loops, full_repeat, first_loops, rest_loops}

-- parts one after another
pub unrolled_append : (xs ys : List Part) → unrolled (xs ++ ys) ≡ unrolled xs ++ unrolled ys
unrolled_append xs ys = flat_map-append part_unrolled xs ys

-- one part more
pub unrolled_more : (xs : List Part) (p : Part) → unrolled (xs ++ p ∷ []) ≡ unrolled xs ++ part_unrolled p
unrolled_more xs p = unrolled_append xs (p ∷ []) ∙ ap (λ ys. unrolled xs ++ ys) (append-nil (part_unrolled p))

-- full parts and one more
pub full_more : (xs : List Part) (p : Part) → IsFull p → All IsFull xs → All IsFull (xs ++ p ∷ [])
full_more [] p h full = All-cons IsFull p [] h (All-nil IsFull)
full_more (x ∷ xs) p h full =
    All-cons IsFull x (xs ++ p ∷ []) (All-head IsFull x xs full) (full_more xs p h (All-tail IsFull x xs full))

-- the loops of parts and one more
pub loops_more : (xs : List Part) (p : Part) (room : ℕ) → loops xs ≤ room → part_loops p ≤ room → loops (xs ++ p ∷ []) ≤ room
loops_more [] p room h k = max-le k (omega arith)
loops_more (x ∷ xs) p room h k =
    max-le (omega (arith, first_loops x xs, h)) (loops_more xs p room (omega (arith, rest_loops x xs, h)) k)

-- parts with one more
pub grown : (old : List Part) (p : Part) → IsFull p → HasGrown old (old ++ p ∷ []) (part_unrolled p) (part_loops p)
grown old p h =
    record { list = unrolled_more old p; full = full_more old p h; room = λ room a b. loops_more old p room a b }

-- parts with nothing more
pub not_grown : (old : List Part) (deep : ℕ) → HasGrown old old [] deep
not_grown old deep = record { list = sym (append-nil (unrolled old)); full = λ h. h; room = λ room a b. a }

-- parts with a loop more
pub grown_loop : (old new : List Part) (turns : ℕ) (parts : Vec Part) → turns ≢ 0 → parts.items ≢ [] → All IsFull parts.items
    → new ≡ old ++ P.Repeat turns parts ∷ []
    → HasGrown old new (copies turns (unrolled parts.items)) (1 + loops parts.items)
grown_loop old new turns parts some items full is =
    let h = grown old (P.Repeat turns parts) (full_repeat turns parts some items full) in
    record {
      list = ap unrolled is ∙ h.list ∙ ap (λ xs. unrolled old ++ xs) (repeat_unrolled turns parts);
      full = λ a. subst (All IsFull) (sym is) (h.full a);
      room = λ room a b. omega (arith, ap loops is, h.room room a (omega (arith, b, repeat_loops turns parts)));
    }

-- copies of nothing, and no copies
pub no_copies : (n : ℕ) → copies n [] ≡ []
no_copies zero = refl
no_copies (suc n) = no_copies n

-- parts without a loop that repeats nothing
pub grown_nothing : (old : List Part) (turns : ℕ) (items : List Part) (deep : ℕ) → copies turns (unrolled items) ≡ []
    → HasGrown old old (copies turns (unrolled items)) deep
grown_nothing old turns items deep none =
    let P : List Communication → Type 0 = λ xs. HasGrown old old xs deep in
    subst P (sym none) (not_grown old deep)

-- the same growth, written otherwise
pub grown_as : (old new : List Part) (list same : List Communication) (deep deeper : ℕ) → list ≡ same → deep ≤ deeper
    → HasGrown old new list deep → HasGrown old new same deeper
grown_as old new list same deep deeper e le h =
    record {
      list = h.list ∙ ap (λ xs. unrolled old ++ xs) e;
      full = h.full;
      room = λ room a b. h.room room a (omega (arith, le, b));
    }

-- the writes and reads of lists one after another
pub operations_append : (xs ys : List Communication) → operations (xs ++ ys) ≡ operations xs ++ operations ys
operations_append xs ys =
    ap (map communication) (filter_map-append comm_of xs ys) ∙ map-append communication (comms xs) (comms ys)

-- the writes and reads of copies
pub operations_copies : (n : ℕ) (xs : List Communication) → operations (copies n xs) ≡ copies n (operations xs)
operations_copies zero xs = refl
operations_copies (suc n) xs =
    operations_append xs (copies n xs) ∙ ap (λ ys. operations xs ++ ys) (operations_copies n xs)

-- the writes and reads of one operation
pub operations_one : (c : Comm) → operations (communication c ∷ []) ≡ communication c ∷ []
operations_one (C.Write m) = refl
operations_one (C.Read m) = refl

-- the writes and reads of operations are all of them
pub comms_back : (cs : List Comm) → comms (map communication cs) ≡ cs
comms_back [] = refl
comms_back (C.Write m ∷ cs) = ap (λ xs. C.Write m ∷ xs) (comms_back cs)
comms_back (C.Read m ∷ cs) = ap (λ xs. C.Read m ∷ xs) (comms_back cs)

-- a part stands in no more loops than all
pub place_loops : (xs : List Part) (i : ℕ) (d : Part) → i < length xs → part_loops (get_or xs i d) ≤ loops xs
place_loops [] i d lt = absurd (omega (arith, lt))
place_loops (x ∷ xs) zero d lt = first_loops x xs
place_loops (x ∷ xs) (suc i) d lt = omega (arith, place_loops xs i d (omega (arith, lt)), rest_loops x xs)

-- the writes and reads so far, with those of one part more
pub kept_more : (parts old new : List Part) (i : ℕ) (d : Part) (all : List Communication) (deep : ℕ) → i < length parts
    → unrolled old ++ operations (unrolled (drop i parts)) ≡ all
    → HasGrown old new (operations (part_unrolled (get_or parts i d))) deep
    → unrolled new ++ operations (unrolled (drop (i + 1) parts)) ≡ all
kept_more parts old new i d all deep lt so_far h =
    let part = part_unrolled (get_or parts i d) in
    let rest = unrolled (drop (i + 1) parts) in
    ap (λ xs. xs ++ operations rest) h.list ∙ append_assoc (unrolled old) (operations part) (operations rest)
    ∙ ap (λ xs. unrolled old ++ xs) (sym (operations_append part rest))
    ∙ ap (λ xs. unrolled old ++ xs) (sym (at_drop_more (λ xs. operations (unrolled xs)) parts i d lt))
    ∙ so_far

-- a write or a read that is kept
pub kept_one : (old new : List Part) (part : Part) (c : Comm) → part ≡ P.One c → new ≡ old ++ P.One c ∷ []
    → HasGrown old new (operations (part_unrolled part)) (part_loops part)
kept_one old new part c is more =
    let Q : List Part → Type 0 = λ xs. HasGrown old xs (operations (part_unrolled part)) (part_loops part) in
    let R : Part → Type 0 = λ p. HasGrown old (old ++ P.One c ∷ []) (operations (part_unrolled p)) (part_loops p) in
    subst Q (sym more) (subst R (sym is)
    (grown_as old (old ++ P.One c ∷ []) (communication c ∷ []) (operations (communication c ∷ [])) 0 0 (sym (operations_one c)) (omega arith) (grown old (P.One c) tt)))

-- a loop whose writes and reads are kept
pub kept_loop : {E : Type 0} (old new : List Part) (part : Part) (turns : ℕ) (parts : Vec Part) (items kept : List Part) (result : Result ⊤ E)
    → part ≡ P.Repeat turns parts → items ≡ parts.items → AreOperations items kept
    → OnOk result (HasGrown old new (copies turns (unrolled kept)) (1 + loops kept))
    → OnOk result (HasGrown old new (operations (part_unrolled part)) (part_loops part))
kept_loop old new part turns parts items kept (Err e) is inside of h = tt
kept_loop old new part turns parts items kept (Ok u) is inside of h =
    let list : copies turns (unrolled kept) ≡ operations (part_unrolled part) =
    ap (copies turns) of.list ∙ sym (operations_copies turns (unrolled items))
    ∙ ap (λ xs. operations (copies turns (unrolled xs))) inside
    ∙ ap operations (sym (ap part_unrolled is ∙ repeat_unrolled turns parts)) in
    let deep : 1 + loops kept ≤ part_loops part =
    omega (arith, of.room, ap loops inside, ap part_loops is, repeat_loops turns parts) in
    grown_as old new (copies turns (unrolled kept)) (operations (part_unrolled part)) (1 + loops kept) (part_loops part) list deep h
