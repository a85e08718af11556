-- What the state of crossing-off keeps from turn to turn.
use Rattle.std.proofs.Common.{◌≡◌, ◌≢◌, ℕ, zero, suc, ◌+◌, ◌-◌, ◌<◌, ◌≤◌, ◌⊎◌, inl, inr, cond, nat_eq, List, [], ◌∷◌, ◌++◌, Option, Some, All, length, get_or, set, take, sum_by, slice_get, slice_index, sym, ◌∙◌, ap, subst, refl, ⊎_elim, arith}
use Rattle.std.proofs.lemmas.Bool.{cases_eq, ne_eqb}
use Rattle.std.proofs.lemmas.List.{take_at, take-append-le}
use Rattle.std.proofs.lemmas.Option.{slice_get_within}
use Rattle.comm_sequence.specs.BufferedOrder.{occurrences}
use Rattle.comm_sequence.specs.Sequences.{Sequences, IsSequences, message_of}
use Rattle.comm_sequence.specs.declared.comm.Comm.{Comm}
use Rattle.comm_sequence.specs.declared.comm.Comm.TheVariants.{Write, Read}
use Rattle.crossing_off.specs.declared.waiting.Waiting.{Waiting}
use Rattle.crossing_off.specs.declared.worklist.Crossing.{Crossing}
use Rattle.crossing_off.specs.Greedy.{cell_of, front, GoesFirst, IsChosen, IsFront, IsStuck, MayCross}
use Rattle.crossing_off.specs.bodies.Waiting.{HasAdded, HasNoted, HasPopped, MayWait, NoneWait, Waits}
use Rattle.crossing_off.specs.bodies.Worklist.{front_at, moved_on, work_left, AreCounts, CanCount, HasAdvanced, HasCounted, IsComplete, IsPopped, IsUnderWay}
use Rattle.crossing_off.proofs.Counting.{counts_read, counts_write}
use Rattle.crossing_off.proofs.Counts.{occurs_push}
use Rattle.crossing_off.proofs.Ends.{front_known, rest_may_wait}
use Rattle.crossing_off.proofs.WhatIsLeft.{front_now, moved_less, rest_at, rests_after, rests_long, rests_of}
use Rattle.crossing_off.proofs.Runs.{Holds, first_of, holds_all}
use Rattle.crossing_off.proofs.Steps.{StandsFirst, is_front, other_cell, rest_other, stands_first}
use Rattle.crossing_off.proofs.Tests.{same_cell}
use Rattle.crossing_off.proofs.Added.{added_keeps, added_len, added_only, added_waits, noted_keeps, noted_known, noted_len, noted_waits}

-- what holds after the operations so far
pub holds_now : (s : Sequences) (buffer : ℕ) (now : Crossing) → IsUnderWay s buffer now → Holds s buffer now.order.items
holds_now s buffer now h = holds_all s buffer now.order.items h.sound (λ k e at. (h.greedy k e at).may)

-- other operations wait, and all else is the same
waiting_now : (s : Sequences) (buffer : ℕ) (old : Crossing) (waiting : Waiting) → IsUnderWay s buffer old
    → ((e : Comm) → Waits waiting e → message_of e < length s.ends) → IsUnderWay s buffer (record old { waiting = waiting })
waiting_now s buffer old waiting h known = record {
  sound = h.sound;
  small = h.small;
  rests = h.rests;
  counts = h.counts;
  greedy = h.greedy;
  known = known;
}

-- ---- an operation is taken from those that wait
popped_waited : (old new : Waiting) (e : Comm) → HasPopped old new e → Waits old e
popped_waited old new (Read m) p = p.0.was
popped_waited old new (Write m) p = p.1.was

popped_only : (old new : Waiting) (e x : Comm) → HasPopped old new e → Waits new x → Waits old x
popped_only old new (Read m) (Read k) p w = p.0.only k w
popped_only old new (Read m) (Write k) p w = subst (λ set. Waits (record old { writes = set }) (Write k)) p.1 w
popped_only old new (Write m) (Read k) p w = absurd (p.0.after k w)
popped_only old new (Write m) (Write k) p w = p.1.only k w

popped_first : (old new : Waiting) (e x : Comm) → HasPopped old new e → Waits old x → GoesFirst e x
popped_first old new (Read m) (Read k) p w = p.0.least k w
popped_first old new (Read m) (Write k) p w = tt
popped_first old new (Write m) (Read k) p w = absurd (p.0.before k w)
popped_first old new (Write m) (Write k) p w = p.1.least k w

popped_others : (old new : Waiting) (e x : Comm) → HasPopped old new e → Waits old x → (x ≡ e) ⊎ Waits new x
popped_others old new (Read m) (Read k) p w = ⊎_elim (λ (same : k ≡ m). inl (ap Read same)) (λ rest. inr rest) (p.0.others k w)
popped_others old new (Read m) (Write k) p w = inr (subst (λ set. Waits (record old { writes = set }) (Write k)) (sym p.1) w)
popped_others old new (Write m) (Read k) p w = absurd (p.0.before k w)
popped_others old new (Write m) (Write k) p w = ⊎_elim (λ (same : k ≡ m). inl (ap Write same)) (λ rest. inr rest) (p.1.others k w)

-- the state once one is taken
pub popped : (s : Sequences) (buffer : ℕ) (old : Crossing) (waiting : Waiting) (e : Comm) → IsUnderWay s buffer old → IsComplete s buffer old
    → HasPopped old.waiting waiting e → IsUnderWay s buffer (record old { waiting = waiting }) × IsPopped s buffer (record old { waiting = waiting }) e
popped s buffer old waiting e h complete p = (
  waiting_now s buffer old waiting h (λ x w. h.known x (popped_only old.waiting waiting e x p w)),
  record {
    known = h.known e (popped_waited old.waiting waiting e p);
    first = λ other may. popped_first old.waiting waiting e other p (complete other may);
    others = λ other may. popped_others old.waiting waiting e other p (complete other may);
  },
)

-- there is less to try
pub popped_less : (old : Crossing) (waiting : Waiting) (e : Comm) → HasPopped old.waiting waiting e → work_left (record old { waiting = waiting }) < work_left old
popped_less old waiting (Read m) p = omega (arith, p.0.len, ap length p.1)
popped_less old waiting (Write m) p = omega (arith, p.0.len, p.1.len)

-- ---- none is left to try
none_waited : (old new : Waiting) (e : Comm) → NoneWait old new → Waits old e → ⊥
none_waited old new (Read m) h w = h.reads.before m w
none_waited old new (Write m) h w = h.writes.before m w

none_waits : (old new : Waiting) (e : Comm) → NoneWait old new → Waits new e → ⊥
none_waits old new (Read m) h w = h.reads.after m w
none_waits old new (Write m) h w = h.writes.after m w

pub all_tried : (s : Sequences) (buffer : ℕ) (old : Crossing) (waiting : Waiting) → IsUnderWay s buffer old → IsComplete s buffer old
    → NoneWait old.waiting waiting → IsUnderWay s buffer (record old { waiting = waiting }) × IsStuck s buffer old.order.items
all_tried s buffer old waiting h complete t = (
  waiting_now s buffer old waiting h (λ x w. absurd (none_waits old.waiting waiting x t w)),
  λ e may. none_waited old.waiting waiting e t (complete e may),
)

-- ---- it cannot be crossed
pub not_crossed : (s : Sequences) (buffer : ℕ) (now : Crossing) (e : Comm) → IsPopped s buffer now e → (MayCross s buffer now.order.items e → ⊥) → IsComplete s buffer now
not_crossed s buffer now e p none x may =
    ⊎_elim
    (λ (same : x ≡ e). absurd (none (subst (MayCross s buffer now.order.items) same may)))
    (λ waits. waits)
    (p.others x may)

-- ---- it is crossed
-- an operation that may be crossed can be counted
pub can_count : (s : Sequences) (buffer : ℕ) (now : Crossing) (e : Comm) → IsUnderWay s buffer now → message_of e < length s.ends
    → MayCross s buffer now.order.items e → CanCount now e
can_count s buffer now (Write m) h l may =
    let held = h.counts.held_is m l in
    let room = may.2 in
    (omega (arith, l, h.counts.held_len), omega (arith, l, h.counts.wanted_len), omega (arith, held, room, h.small))
can_count s buffer now (Read m) h l may =
    let held = h.counts.held_is m l in
    let less = may.1 in
    (omega (arith, l, h.counts.held_len), omega (arith, held, less))

-- one more operation of the rule
pub greedy_push : (s : Sequences) (buffer : ℕ) (order : List Comm) (e : Comm)
    → ((k : ℕ) (x : Comm) → slice_get order k ≡ Some x → IsChosen s buffer (take k order) x) → IsChosen s buffer order e
    → (k : ℕ) (x : Comm) → slice_get (order ++ e ∷ []) k ≡ Some x → IsChosen s buffer (take k (order ++ e ∷ [])) x
greedy_push s buffer order e greedy last k x at =
    ⊎_elim
    (λ (both : (k ≡ length order) × (x ≡ e)).
    let P : List Comm → Type 0 = λ es. IsChosen s buffer es x in
    let Q : Comm → Type 0 = IsChosen s buffer order in
    subst P (sym (take_at order (e ∷ []) k (sym both.0))) (subst Q (sym both.1) last))
    (λ (old : slice_get order k ≡ Some x).
    let P : List Comm → Type 0 = λ es. IsChosen s buffer es x in
    let l = slice_get_within order k x old in
    subst P (sym (take-append-le k order (e ∷ []) (omega arith))) (greedy k x old))
    (pushed_at order e x k at)
  where
    pushed_at : (xs : List Comm) (w x : Comm) (k : ℕ) → slice_get (xs ++ w ∷ []) k ≡ Some x → ((k ≡ length xs) × (x ≡ w)) ⊎ (slice_get xs k ≡ Some x)
    pushed_at [] w x zero h = inl (refl, cc)
    pushed_at [] w x (suc k) h = absurd (cc h)
    pushed_at (y ∷ ys) w x zero h = inr h
    pushed_at (y ∷ ys) w x (suc k) h =
        ⊎_elim (λ (both : (k ≡ length ys) × (x ≡ w)). inl (omega (arith, both.0), both.1)) (λ rest. inr rest) (pushed_at ys w x k h)

-- another message does not count
other_counts : (m n : ℕ) → m ≢ n → ◌≡◌ {A = ℕ} (cond (nat_eq m n) 1 0) 0
other_counts m n differ = ap {B = ℕ} (λ b. cond b 1 0) (ne_eqb m n differ)

-- the counts of another message stay
same_counts : (crossed : List Comm) (e : Comm) (m : ℕ) → m ≢ message_of e
    → (occurrences (Write m) (crossed ++ e ∷ []) ≡ occurrences (Write m) crossed) × (occurrences (Read m) (crossed ++ e ∷ []) ≡ occurrences (Read m) crossed)
same_counts crossed (Write n) m differ =
    (omega (arith, occurs_push (Write m) (Write n) crossed, other_counts m n differ), omega (arith, occurs_push (Read m) (Write n) crossed))
same_counts crossed (Read n) m differ =
    (omega (arith, occurs_push (Write m) (Read n) crossed), omega (arith, occurs_push (Read m) (Read n) crossed, other_counts m n differ))

-- the operation at the front of the list that moved on is on this message
abbrev pub IsNext : Sequences → List Comm → ℕ → ℕ → Type 0
IsNext s crossed cell m = (y : Comm) × (front s crossed cell ≡ Some y) × (m ≡ message_of y)

-- an operation that stands first is on the message of the next front, or stood first
front_before : (s : Sequences) (crossed : List Comm) (e x : Comm) → IsSequences s → (f : StandsFirst s crossed e) → IsFront s (crossed ++ e ∷ []) x
    → IsNext s (crossed ++ e ∷ []) f.home.cell (message_of x) ⊎ IsFront s crossed x
front_before s crossed e x sound f stands =
    let g = stands_first s (crossed ++ e ∷ []) x sound stands in
    ⊎_elim
    (λ (same : g.home.cell ≡ f.home.cell). inl (x, ap (front_of (crossed ++ e ∷ [])) (sym same) ∙ g.first, refl))
    (λ (other : g.home.cell ≢ f.home.cell).
    inr (is_front s crossed x g.home
    (ap (λ xs. slice_get xs 0) (sym (rest_other s crossed e g.home.cell (other_cell s e f.home g.home.cell other))) ∙ g.first)))
    (cases_eq g.home.cell f.home.cell)
  where
    front_of : List Comm → ℕ → Option Comm
    front_of es c = front s es c

-- an operation of another message that may be crossed is on the message of the next front, or might be crossed before
may_before : (s : Sequences) (buffer : ℕ) (crossed : List Comm) (e x : Comm) → IsSequences s → (f : StandsFirst s crossed e)
    → message_of x ≢ message_of e → MayCross s buffer (crossed ++ e ∷ []) x
    → IsNext s (crossed ++ e ∷ []) f.home.cell (message_of x) ⊎ MayCross s buffer crossed x
may_before s buffer crossed e (Read m) sound f differ may =
    let same = same_counts crossed e m differ in
    let less = may.1 in
    ⊎_elim (λ next. inl next) (λ (front : IsFront s crossed (Read m)). inr (front, omega (arith, less, same.0, same.1)))
    (front_before s crossed e (Read m) sound f may.0)
may_before s zero crossed e (Write m) sound f differ may =
    let same = same_counts crossed e m differ in
    let less = may.2 in
    ⊎_elim (λ next. inl next)
    (λ (front : IsFront s crossed (Write m)).
    ⊎_elim (λ next. inl next) (λ (read : IsFront s crossed (Read m)). inr (front, read, omega (arith, less, same.0, same.1)))
    (front_before s crossed e (Read m) sound f may.1))
    (front_before s crossed e (Write m) sound f may.0)
may_before s (suc d) crossed e (Write m) sound f differ may =
    let same = same_counts crossed e m differ in
    let less = may.2 in
    let some = may.1 in
    ⊎_elim (λ next. inl next)
    (λ (front : IsFront s crossed (Write m)). inr (front, omega (arith, some, same.0), omega (arith, less, same.0, same.1)))
    (front_before s crossed e (Write m) sound f may.0)

-- the steps of a crossing
pub record HasCrossed (old start counted middle new : Crossing) (e : Comm) (cell : ℕ) : Type 0 where
  pub rests : start.rests.items ≡ old.rests.items
  pub waiting : start.waiting ≡ old.waiting
  pub held : start.held.items ≡ old.held.items
  pub wanted : start.wanted.items ≡ old.wanted.items
  pub order : start.order.items ≡ old.order.items ++ e ∷ []
  pub count : HasCounted start counted e
  pub advance : HasAdvanced counted middle cell
  pub new_rests : new.rests.items ≡ middle.rests.items
  pub new_held : new.held.items ≡ middle.held.items
  pub new_wanted : new.wanted.items ≡ middle.wanted.items
  pub new_order : new.order.items ≡ middle.order.items
  pub added : HasAdded middle.waiting new.waiting (message_of e)

-- what counting leaves alone
pub counted_same : (old new : Crossing) (e : Comm) → HasCounted old new e
    → (new.rests.items ≡ old.rests.items) × (new.waiting ≡ old.waiting) × (new.order.items ≡ old.order.items)
counted_same old new (Write m) h = (h.0, h.1, h.2)
counted_same old new (Read m) h = (h.0, h.1, h.2)

-- the counts after it
counted_right : (s : Sequences) (buffer : ℕ) (old start counted : Crossing) (e : Comm) → IsUnderWay s buffer old → message_of e < length s.ends
    → start.held.items ≡ old.held.items → start.wanted.items ≡ old.wanted.items → HasCounted start counted e
    → AreCounts s counted.held.items counted.wanted.items (old.order.items ++ e ∷ [])
counted_right s buffer old start counted (Write m) h l held wanted c =
    let P : List ℕ → List ℕ → Type 0 = λ a b. AreCounts s a b (old.order.items ++ Write m ∷ []) in
    let a : counted.held.items ≡ set old.held.items m (slice_index old.held.items m + 1) = c.3 ∙ ap (λ xs. set xs m (slice_index xs m + 1)) held in
    let b : counted.wanted.items ≡ set old.wanted.items m (slice_index old.wanted.items m - 1) = c.4 ∙ ap (λ xs. set xs m (slice_index xs m - 1)) wanted in
    subst (λ xs. P xs counted.wanted.items) (sym a) (subst (P (set old.held.items m (slice_index old.held.items m + 1))) (sym b)
    (counts_write s old.held.items old.wanted.items old.order.items m h.counts l ((holds_now s buffer old h).written m)))
counted_right s buffer old start counted (Read m) h l held wanted c =
    let P : List ℕ → List ℕ → Type 0 = λ a b. AreCounts s a b (old.order.items ++ Read m ∷ []) in
    let a : counted.held.items ≡ set old.held.items m (slice_index old.held.items m - 1) = c.3 ∙ ap (λ xs. set xs m (slice_index xs m - 1)) held in
    let b : counted.wanted.items ≡ old.wanted.items = c.4 ∙ wanted in
    subst (λ xs. P xs counted.wanted.items) (sym a) (subst (P (set old.held.items m (slice_index old.held.items m - 1))) (sym b)
    (counts_read s old.held.items old.wanted.items old.order.items m h.counts l))

-- the cell of an operation that stands first has something left
pub some_left : (s : Sequences) (buffer : ℕ) (now : Crossing) (rests : List (List Comm)) (e : Comm) (f : StandsFirst s now.order.items e) → IsUnderWay s buffer now
    → rests ≡ now.rests.items → (f.home.cell < length rests) × (1 ≤ length (get_or rests f.home.cell []))
some_left s buffer now rests e f h is =
    let all = is ∙ h.rests in
    let at = ap (λ xs. get_or xs f.home.cell []) all ∙ rest_at s now.order.items f.home.cell f.home.within in
    let l = slice_get_within _ 0 e f.first in
    (omega (arith, ap length all, rests_long s now.order.items, f.home.within), omega (arith, ap length at, l))

-- after a crossing the rule is under way, each operation that may be crossed waits, and no more work is left
pub crossed : (s : Sequences) (buffer : ℕ) (old start counted middle new : Crossing) (e : Comm) → IsUnderWay s buffer old → IsPopped s buffer old e
    → MayCross s buffer old.order.items e → (f : StandsFirst s old.order.items e) → HasCrossed old start counted middle new e f.home.cell
    → IsUnderWay s buffer new × IsComplete s buffer new × (work_left new ≤ work_left old)
crossed s buffer old start counted middle new e h p may f x =
    let c = f.home.cell in
    let before = old.order.items in
    let order = before ++ e ∷ [] in
    let same = counted_same start counted e x.count in
    let order_is : new.order.items ≡ order = x.new_order ∙ x.advance.order ∙ same.2 ∙ x.order in
    let old_rests : counted.rests.items ≡ old.rests.items = same.0 ∙ x.rests in
    let half : middle.rests.items ≡ moved_on old.rests.items c = x.advance.rests ∙ ap (λ xs. moved_on xs c) old_rests in
    let mid_rests : middle.rests.items ≡ rests_of s order = half ∙ ap (λ xs. moved_on xs c) h.rests ∙ rests_after s before e f.home in
    let rests : new.rests.items ≡ rests_of s order = x.new_rests ∙ mid_rests in
    let mid_front : front_at middle.rests.items c ≡ front s order c = ap (λ xs. front_at xs c) mid_rests ∙ front_now s order c f.home.within in
    let old_waiting : counted.waiting ≡ old.waiting = same.1 ∙ x.waiting in
    let noted = subst (λ w. HasNoted (front_at middle.rests.items c) w middle.waiting) old_waiting x.advance.waiting in
    let back = sym order_is in
    let counts = counted_right s buffer old start counted e h p.known x.held x.wanted x.count in
    let held : new.held.items ≡ counted.held.items = x.new_held ∙ x.advance.held in
    let wanted : new.wanted.items ≡ counted.wanted.items = x.new_wanted ∙ x.advance.wanted in
    let C : List ℕ → List ℕ → List Comm → Type 0 = λ a b es. AreCounts s a b es in
    let G : List Comm → Type 0 = λ es. (k : ℕ) (y : Comm) → slice_get es k ≡ Some y → IsChosen s buffer (take k es) y in
    let there = some_left s buffer old old.rests.items e f h refl in
    let less = moved_less old.rests.items c there.0 there.1 in
    let mid_known = noted_known (length s.ends) (front_at middle.rests.items c) old.waiting middle.waiting noted
    (λ y at. front_known s order c y h.sound f.home.within (sym mid_front ∙ at)) h.known in (
      record {
        sound = h.sound;
        small = h.small;
        rests = rests ∙ ap (rests_of s) back;
        counts = subst (λ a. C a new.wanted.items new.order.items) (sym held) (subst (λ b. C counted.held.items b new.order.items) (sym wanted)
            (subst (C counted.held.items counted.wanted.items) back counts));
        greedy = subst G back (greedy_push s buffer before e h.greedy (record { may = may; first = p.first }));
        known = λ y w.
            ⊎_elim (λ (was : Waits middle.waiting y). mid_known y was) (λ (is : message_of y ≡ message_of e). let l = p.known in omega (arith, is, l))
            (added_only middle.waiting new.waiting (message_of e) y x.added w);
      },
      λ y ready.
          let ready : MayCross s buffer order y = subst (λ es. MayCross s buffer es y) order_is ready in
          ⊎_elim
          (λ (mine : message_of y ≡ message_of e). added_waits middle.waiting new.waiting (message_of e) y x.added mine)
          (λ (differ : message_of y ≢ message_of e).
          added_keeps middle.waiting new.waiting (message_of e) y x.added
          (⊎_elim
          (λ (next : IsNext s order c (message_of y)).
          noted_waits (front_at middle.rests.items c) old.waiting middle.waiting next.0 y noted (mid_front ∙ next.1) next.2)
          (λ (could : MayCross s buffer before y).
          noted_keeps (front_at middle.rests.items c) old.waiting middle.waiting y noted
          (⊎_elim (λ (is : y ≡ e). absurd (differ (ap message_of is))) (λ waits. waits) (p.others y could)))
          (may_before s buffer before e y h.sound f differ ready)))
          (cases_eq (message_of y) (message_of e)),
      omega (
        arith,
        noted_len (front_at middle.rests.items c) old.waiting middle.waiting noted,
        added_len middle.waiting new.waiting (message_of e) x.added,
        less,
        ap (sum_by length) x.new_rests,
        ap (sum_by length) half,
      ),
    )

-- the cell of an operation that may be crossed has something left
pub cell_left : (s : Sequences) (buffer : ℕ) (now : Crossing) (rests : List (List Comm)) (e : Comm) (c : ℕ) → IsUnderWay s buffer now
    → MayCross s buffer now.order.items e → cell_of s.ends e ≡ Some c → rests ≡ now.rests.items → (c < length rests) × (1 ≤ length (get_or rests c []))
cell_left s buffer now rests e c h may at is =
    let f = first_of s buffer now.order.items e h.sound may in
    let P : ℕ → Type 0 = λ k. (k < length rests) × (1 ≤ length (get_or rests k [])) in
    subst P (sym (same_cell s e c f.home at)) (some_left s buffer now rests e f h is)

-- the operations of what is left there may wait
pub known_left : (s : Sequences) (buffer : ℕ) (now : Crossing) (rests : List (List Comm)) (e : Comm) (c : ℕ) → IsUnderWay s buffer now
    → MayCross s buffer now.order.items e → cell_of s.ends e ≡ Some c → rests ≡ now.rests.items → All MayWait (get_or rests c [])
known_left s buffer now rests e c h may at is =
    let f = first_of s buffer now.order.items e h.sound may in
    let home = f.home.cell in
    let left = ap (λ xs. get_or xs home []) (is ∙ h.rests) ∙ rest_at s now.order.items home f.home.within in
    let P : ℕ → Type 0 = λ k. All MayWait (get_or rests k []) in
    subst P (sym (same_cell s e c f.home at)) (subst (All MayWait) (sym left) (rest_may_wait s now.order.items home h.sound f.home.within))

-- after a crossing, by the cell that is found
pub crossed_at : (s : Sequences) (buffer : ℕ) (old start counted middle new : Crossing) (e : Comm) (c : ℕ) → IsUnderWay s buffer old
    → IsPopped s buffer old e → MayCross s buffer old.order.items e → cell_of s.ends e ≡ Some c → HasCrossed old start counted middle new e c
    → IsUnderWay s buffer new × IsComplete s buffer new × (work_left new ≤ work_left old)
crossed_at s buffer old start counted middle new e c h p may at x =
    let f = first_of s buffer old.order.items e h.sound may in
    crossed s buffer old start counted middle new e h p may f
    (subst (HasCrossed old start counted middle new e) (same_cell s e c f.home at) x)
