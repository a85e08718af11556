-- Where the greedy rule leaves nothing, its list is an order for the buffer.
use Rattle.std.proofs.Common.{◌≡◌, ◌≢◌, ℕ, zero, suc, ◌<◌, ◌≤◌, true, false, cond, List, [], ◌∷◌, ◌++◌, Option, None, Some, EachIndex, length, take, get_or, nat_eq, slice_get, slice_index_or, sym, ◌∙◌, ap, subst, refl, ⊎_elim, arith}
use Rattle.std.specs.Option.{option_map_or}
use Rattle.std.proofs.lemmas.Bool.{cases_eq, cases_lt, eq-eqb, ne_eqb}
use Rattle.std.proofs.lemmas.List.{append-nil, drop_all}
use Rattle.std.proofs.lemmas.List.FromFn.{length-range_with_len}
use Rattle.std.proofs.lemmas.List.Sums.{get_or-le-sum_by}
use Rattle.cell_types.specs.Groups.{below}
use Rattle.comm_sequence.specs.BufferedOrder.{is_of, occurrences, IsBufferedOrder, KeepsBuffer}
use Rattle.comm_sequence.specs.Sequences.{Sequences, IsSequences}
use Rattle.comm_sequence.specs.declared.comm.Comm.{Comm}
use Rattle.comm_sequence.specs.declared.comm.Comm.TheVariants.{Write, Read}
use Rattle.crossing_off.specs.Greedy.{left, made, reads_of, rest, IsCrossed, MayAll, MayCross}
use Rattle.crossing_off.proofs.Counts.{occurs_push, push_itself}
use Rattle.crossing_off.proofs.Ends.{has_ends_at}
use Rattle.crossing_off.proofs.Exact.{cell_at, reads_are}
use Rattle.crossing_off.proofs.Runs.{Holds, holds_all, holds_at, take_next, take_past}

-- the operations of the greedy rule may be crossed one after another
pub may_all : (s : Sequences) (buffer : ℕ) (order : List Comm) → IsCrossed s buffer order → MayAll s buffer order
may_all s buffer order h = λ k e at. (h.greedy k e at).may

-- each list is made
pub all_made : (s : Sequences) (order : List Comm) (c : ℕ) → c < length s.lists → left s order ≡ 0
    → made s order c ++ rest s order c ≡ slice_index_or s.lists c [] → made s order c ≡ slice_index_or s.lists c []
all_made s order c l none reached =
    let n = length s.lists in
    let at : get_or (below n) c 0 ≡ c = cell_at n c l in
    let le = get_or-le-sum_by (λ c. length (rest s order c)) (below n) c 0 (omega (arith, l, length-range_with_len 0 n)) in
    let short : length (rest s order c) ≡ 0 = omega (arith, le, none, ap (λ c. length (rest s order c)) at) in
    let empty : rest s order c ≡ [] = drop_all 0 (rest s order c) (omega arith) in
    sym (append-nil (made s order c)) ∙ ap (λ xs. made s order c ++ xs) (sym empty) ∙ reached

-- where all is made, each message is read as often as its receiver's list has it, if it is there
reads_made : (s : Sequences) (order : List Comm) (m : ℕ) → IsSequences s
    → EachIndex s.lists (λ c. made s order c ≡ slice_index_or s.lists c []) → reads_of s m ≤ occurrences (Read m) order
reads_made s order m sound all = at (slice_get s.ends m) refl
  where
    at : (o : Option (ℕ × ℕ)) → slice_get s.ends m ≡ o → reads_of s m ≤ occurrences (Read m) order
    at None e = let none = ap (λ o. option_map_or (λ (x : ℕ × ℕ). occurrences (Read m) (slice_index_or s.lists x.1 [])) o 0) e in omega (arith, none)
    at (Some x) e =
        let ends = has_ends_at s m x sound e in
        let mine : is_of s.ends ends.receiver (Read m) ≡ true =
        ap (λ o. option_map_or (λ (y : ℕ × ℕ). nat_eq y.1 ends.receiver) o false) ends.is ∙ eq-eqb ends.receiver ends.receiver refl in
        let reads = reads_are s m order ends (all ends.receiver ends.receiver_in) mine in
        omega (arith, reads)

-- no word is left to be read
all_read : (s : Sequences) (buffer : ℕ) (order : List Comm) (m : ℕ) → IsSequences s → IsCrossed s buffer order → Holds s buffer order
    → EachIndex s.lists (λ c. made s order c ≡ slice_index_or s.lists c []) → occurrences (Write m) order ≤ occurrences (Read m) order
all_read s zero order m sound is h all =
    ⊎_elim
    (λ (waits : occurrences (Read m) order < occurrences (Write m) order). absurd (is.stuck (Read m) (h.awaited m waits, waits)))
    (λ (none : occurrences (Write m) order ≤ occurrences (Read m) order). none)
    (cases_lt (occurrences (Read m) order) (occurrences (Write m) order))
all_read s (suc d) order m sound is h all =
    let r = reads_made s order m sound all in
    let w = h.awaited m in
    omega (arith, r, w)

-- after a write without a buffer, its read may be crossed, and no other read
at_once : (s : Sequences) (order : List Comm) → IsSequences s → IsCrossed s zero order → (n m : ℕ)
    → slice_get order n ≡ Some (Write m) → slice_get order (suc n) ≡ Some (Read m)
at_once s order sound is n m at =
    let now = take n order in
    let chosen = is.greedy n (Write m) at in
    let before = holds_at s zero order sound (may_all s zero order is) n in
    let after = holds_at s zero order sound (may_all s zero order is) (suc n) in
    let next : take (suc n) order ≡ now ++ Write m ∷ [] = take_next order n (Write m) at in
    let even : (k : ℕ) → occurrences (Write k) now ≤ occurrences (Read k) now = λ k.
    ⊎_elim
    (λ (waits : occurrences (Read k) now < occurrences (Write k) now). absurd (chosen.first (Read k) (before.awaited k waits, waits)))
    (λ (none : occurrences (Write k) now ≤ occurrences (Read k) now). none)
    (cases_lt (occurrences (Read k) now) (occurrences (Write k) now)) in
    let written = before.written m in
    let waits : occurrences (Read m) (take (suc n) order) < occurrences (Write m) (take (suc n) order) =
    omega (arith, ap (occurrences (Read m)) next, ap (occurrences (Write m)) next, push_itself (Write m) now, occurs_push (Read m) (Write m) now, written) in
    let may : MayCross s zero (take (suc n) order) (Read m) = (after.awaited m waits, waits) in
    let only : (k : ℕ) → occurrences (Read k) (take (suc n) order) < occurrences (Write k) (take (suc n) order) → k ≡ m = λ k less.
    ⊎_elim (λ (same : k ≡ m). same)
    (λ (differ : k ≢ m).
    let e = even k in
    absurd (omega (
      arith,
      less,
      e,
      ap (occurrences (Read k)) next,
      ap (occurrences (Write k)) next,
      occurs_push (Write k) (Write m) now,
      occurs_push (Read k) (Write m) now,
      ap {B = ℕ} (λ b. cond b 1 0) (ne_eqb k m differ),
    )))
    (cases_eq k m) in
    read_next (slice_get order (suc n)) refl may only
  where
    read_next : (o : Option Comm) → slice_get order (suc n) ≡ o → MayCross s zero (take (suc n) order) (Read m)
        → ((k : ℕ) → occurrences (Read k) (take (suc n) order) < occurrences (Write k) (take (suc n) order) → k ≡ m)
        → slice_get order (suc n) ≡ Some (Read m)
    read_next None e may only =
        let P : List Comm → Type 0 = λ es. MayCross s zero es (Read m) in
        absurd (is.stuck (Read m) (subst P (take_past order (suc n) e) may))
    read_next (Some (Write k)) e may only = absurd ((is.greedy (suc n) (Write k) e).first (Read m) may)
    read_next (Some (Read k)) e may only = e ∙ ap (λ j. Some (Read j)) (only k (is.greedy (suc n) (Read k) e).may.1)

-- the buffer is kept
keeps : (s : Sequences) (buffer : ℕ) (order : List Comm) → IsSequences s → IsCrossed s buffer order → KeepsBuffer buffer order
keeps s zero order sound is = at_once s order sound is
keeps s (suc d) order sound is = λ n m.
    let r = (holds_at s (suc d) order sound (may_all s (suc d) order is) n).roomy m in
    omega (arith, r)

-- so it is an order
pub whole_order : (s : Sequences) (buffer : ℕ) (order : List Comm) → IsSequences s → IsCrossed s buffer order → left s order ≡ 0
    → IsBufferedOrder s.lists s.ends buffer order
whole_order s buffer order sound is none =
    let h = holds_all s buffer order sound (may_all s buffer order is) in
    let all : EachIndex s.lists (λ c. made s order c ≡ slice_index_or s.lists c []) = λ c l. all_made s order c l none (h.reached c l) in
    record {
      known = h.known;
      each = all;
      prefix = λ n m. (holds_at s buffer order sound (may_all s buffer order is) n).written m;
      whole = λ m. let r = all_read s buffer order m sound is h all in let w = h.written m in omega (arith, r, w);
      kept = keeps s buffer order sound is;
    }
