-- What holds after operations that may be crossed one after another.
use Rattle.std.proofs.Common.{◌≡◌, ◌≢◌, ℕ, zero, suc, ◌+◌, ◌<◌, ◌≤◌, max, Bool, true, false, cond, nat_eq, List, [], ◌∷◌, ◌++◌, Option, None, Some, All, EachIndex, length, take, slice_get, sym, ◌∙◌, ap, subst, refl, ⊎_elim, arith}
use Rattle.std.proofs.lemmas.Bool.{cases_eq, ne_eqb}
use Rattle.std.proofs.lemmas.List.{take_all}
use Rattle.std.proofs.lemmas.List.Elements.{All-nil, All-cons, All-append}
use Rattle.comm_sequence.specs.BufferedOrder.{occurrences}
use Rattle.comm_sequence.specs.Sequences.{Sequences, IsSequences, message_of}
use Rattle.comm_sequence.specs.declared.comm.Comm.{Comm}
use Rattle.comm_sequence.specs.declared.comm.Comm.TheVariants.{Write, Read}
use Rattle.crossing_off.specs.Greedy.{reads_of, IsFront, MayAll, MayCross}
use Rattle.crossing_off.proofs.Counts.{one_if_same, occurs_push, push_itself}
use Rattle.crossing_off.proofs.Ends.{cell_known}
use Rattle.crossing_off.proofs.Steps.{IsReached, StandsFirst, front_stays, is_front, reached_more, stands_first}

-- Each crossed word will be read: without a buffer its read stands first, and with one the receiver has a read for it.
abbrev pub IsAwaited : Sequences → ℕ → List Comm → ℕ → Type 0
IsAwaited s zero crossed m = occurrences (Read m) crossed < occurrences (Write m) crossed → IsFront s crossed (Read m)
IsAwaited s (suc d) crossed m = occurrences (Write m) crossed ≤ reads_of s m

-- what holds after such operations
pub record Holds (s : Sequences) (buffer : ℕ) (crossed : List Comm) : Type 0 where
  pub known : All (λ e. message_of e < length s.ends) crossed
  pub reached : EachIndex s.lists (IsReached s crossed)
  pub written : (m : ℕ) → occurrences (Read m) crossed ≤ occurrences (Write m) crossed
  pub roomy : (m : ℕ) → occurrences (Write m) crossed ≤ occurrences (Read m) crossed + max 1 buffer
  pub awaited : (m : ℕ) → IsAwaited s buffer crossed m

-- an operation that may be crossed stands first
pub first_of : (s : Sequences) (buffer : ℕ) (crossed : List Comm) (e : Comm) → IsSequences s → MayCross s buffer crossed e → StandsFirst s crossed e
first_of s buffer crossed (Write m) sound may = stands_first s crossed (Write m) sound may.0
first_of s buffer crossed (Read m) sound may = stands_first s crossed (Read m) sound may.0

-- at first
awaited_start : (s : Sequences) (buffer m : ℕ) → IsAwaited s buffer [] m
awaited_start s zero m = λ l. absurd (omega arith)
awaited_start s (suc d) m = omega arith

pub holds_start : (s : Sequences) (buffer : ℕ) → Holds s buffer []
holds_start s buffer = record {
  known = All-nil (λ e. message_of e < length s.ends);
  reached = λ c l. refl;
  written = λ m. omega arith;
  roomy = λ m. omega arith;
  awaited = awaited_start s buffer;
}

-- another message does not count
other_counts : (m n : ℕ) → m ≢ n → ◌≡◌ {A = ℕ} (cond (nat_eq m n) 1 0) 0
other_counts m n differ = ap (λ b. cond b 1 0) (ne_eqb m n differ)

-- no read is crossed before its write
written_more : (s : Sequences) (buffer : ℕ) (crossed : List Comm) (e : Comm) → ((m : ℕ) → occurrences (Read m) crossed ≤ occurrences (Write m) crossed)
    → MayCross s buffer crossed e → (m : ℕ) → occurrences (Read m) (crossed ++ e ∷ []) ≤ occurrences (Write m) (crossed ++ e ∷ [])
written_more s buffer crossed (Write n) h may m =
    let old = h m in
    omega (arith, old, occurs_push (Read m) (Write n) crossed, occurs_push (Write m) (Write n) crossed)
written_more s buffer crossed (Read n) h may m =
    let old = h m in
    let r = occurs_push (Read m) (Read n) crossed in
    let w = occurs_push (Write m) (Read n) crossed in
    ⊎_elim
    (λ (same : m ≡ n).
    let less : occurrences (Read m) crossed < occurrences (Write m) crossed =
    subst (λ k. occurrences (Read k) crossed < occurrences (Write k) crossed) (sym same) may.1 in
    let one : one_if_same (Read m) (Read n) ≤ 1 = at_most_one (nat_eq m n) in
    omega (arith, r, w, less, one))
    (λ (differ : m ≢ n). omega (arith, old, r, w, other_counts m n differ))
    (cases_eq m n)
  where
    at_most_one : (b : Bool) → cond b 1 0 ≤ 1
    at_most_one true = omega arith
    at_most_one false = omega arith

-- no more words wait than there is room for
roomy_more : (s : Sequences) (buffer : ℕ) (crossed : List Comm) (e : Comm)
    → ((m : ℕ) → occurrences (Write m) crossed ≤ occurrences (Read m) crossed + max 1 buffer) → MayCross s buffer crossed e
    → (m : ℕ) → occurrences (Write m) (crossed ++ e ∷ []) ≤ occurrences (Read m) (crossed ++ e ∷ []) + max 1 buffer
roomy_more s buffer crossed (Read n) h may m =
    let old = h m in
    omega (arith, old, occurs_push (Read m) (Read n) crossed, occurs_push (Write m) (Read n) crossed)
roomy_more s buffer crossed (Write n) h may m =
    let old = h m in
    let r = occurs_push (Read m) (Write n) crossed in
    let w = occurs_push (Write m) (Write n) crossed in
    ⊎_elim
    (λ (same : m ≡ n).
    let less : occurrences (Write m) crossed < occurrences (Read m) crossed + max 1 buffer =
    subst (λ k. occurrences (Write k) crossed < occurrences (Read k) crossed + max 1 buffer) (sym same) may.2 in
    let one : one_if_same (Write m) (Write n) ≤ 1 = at_most_one (nat_eq m n) in
    omega (arith, r, w, less, one))
    (λ (differ : m ≢ n). omega (arith, old, r, w, other_counts m n differ))
    (cases_eq m n)
  where
    at_most_one : (b : Bool) → cond b 1 0 ≤ 1
    at_most_one true = omega arith
    at_most_one false = omega arith

-- without a buffer a read that was awaited at another cell still stands first
still_first : (s : Sequences) (crossed : List Comm) (e x : Comm) → IsSequences s → StandsFirst s crossed e → IsFront s crossed x → e ≢ x
    → IsFront s (crossed ++ e ∷ []) x
still_first s crossed e x sound first front differ =
    let after = front_stays s crossed e x first (stands_first s crossed x sound front) differ in
    is_front s (crossed ++ e ∷ []) x after.home after.first

-- each crossed word will be read
awaited_more : (s : Sequences) (buffer : ℕ) (crossed : List Comm) (e : Comm) → IsSequences s → Holds s buffer crossed
    → MayCross s buffer crossed e → (m : ℕ) → IsAwaited s buffer (crossed ++ e ∷ []) m
awaited_more s (suc d) crossed (Read n) sound h may m =
    let old = h.awaited m in
    omega (arith, old, occurs_push (Write m) (Read n) crossed)
awaited_more s (suc d) crossed (Write n) sound h may m =
    let old = h.awaited m in
    let w = occurs_push (Write m) (Write n) crossed in
    ⊎_elim
    (λ (same : m ≡ n).
    let less : occurrences (Write m) crossed < reads_of s m =
    subst (λ k. occurrences (Write k) crossed < reads_of s k) (sym same) may.1 in
    let e : occurrences (Write m) (crossed ++ Write n ∷ []) ≡ occurrences (Write m) crossed + 1 =
    ap (λ k. occurrences (Write m) (crossed ++ Write k ∷ [])) (sym same) ∙ push_itself (Write m) crossed in
    omega (arith, e, less))
    (λ (differ : m ≢ n). omega (arith, old, w, other_counts m n differ))
    (cases_eq m n)
awaited_more s zero crossed (Write n) sound h may m = λ waits.
    ⊎_elim
    (λ (same : m ≡ n).
    let front : IsFront s crossed (Read m) = subst (λ k. IsFront s crossed (Read k)) (sym same) may.1 in
    still_first s crossed (Write n) (Read m) sound (first_of s zero crossed (Write n) sound may) front (λ q. cc))
    (λ (differ : m ≢ n).
    let less : occurrences (Read m) crossed < occurrences (Write m) crossed =
    omega (arith, waits, occurs_push (Read m) (Write n) crossed, occurs_push (Write m) (Write n) crossed, other_counts m n differ) in
    still_first s crossed (Write n) (Read m) sound (first_of s zero crossed (Write n) sound may) (h.awaited m less) (λ q. cc))
    (cases_eq m n)
awaited_more s zero crossed (Read n) sound h may m = λ waits.
    ⊎_elim
    (λ (same : m ≡ n).
    let r : occurrences (Read m) (crossed ++ Read n ∷ []) ≡ occurrences (Read m) crossed + 1 =
    ap (λ k. occurrences (Read m) (crossed ++ Read k ∷ [])) (sym same) ∙ push_itself (Read m) crossed in
    absurd (omega (arith, waits, r, occurs_push (Write m) (Read n) crossed, h.roomy m)))
    (λ (differ : m ≢ n).
    let less : occurrences (Read m) crossed < occurrences (Write m) crossed =
    omega (arith, waits, occurs_push (Read m) (Read n) crossed, occurs_push (Write m) (Read n) crossed, other_counts m n differ) in
    let other : Read n ≢ Read m = λ q. let e : n ≡ m = cc in differ (sym e) in
    still_first s crossed (Read n) (Read m) sound (first_of s zero crossed (Read n) sound may) (h.awaited m less) other)
    (cases_eq m n)

-- one operation more
pub holds_more : (s : Sequences) (buffer : ℕ) (crossed : List Comm) (e : Comm) → IsSequences s → Holds s buffer crossed
    → MayCross s buffer crossed e → Holds s buffer (crossed ++ e ∷ [])
holds_more s buffer crossed e sound h may =
    let first = first_of s buffer crossed e sound may in
    let P : Comm → Type 0 = λ x. message_of x < length s.ends in
    record {
      known = All-append P crossed (e ∷ []) h.known (All-cons P e [] (cell_known s e first.home.cell first.home.is) (All-nil P));
      reached = λ c l. reached_more s crossed e c first (h.reached c l);
      written = written_more s buffer crossed e h.written may;
      roomy = roomy_more s buffer crossed e h.roomy may;
      awaited = awaited_more s buffer crossed e sound h may;
    }

-- ---- along a list
pub take_next : {X : Type 0} (xs : List X) (k : ℕ) (x : X) → slice_get xs k ≡ Some x → take (suc k) xs ≡ take k xs ++ x ∷ []
take_next [] k x h = absurd (cc h)
take_next (y ∷ ys) zero x h = let e : y ≡ x = cc in ap (λ z. z ∷ []) e
take_next (y ∷ ys) (suc k) x h = ap (λ zs. y ∷ zs) (take_next ys k x h)

pub take_past : {X : Type 0} (xs : List X) (k : ℕ) → slice_get xs k ≡ None → take k xs ≡ xs
take_past [] zero h = refl
take_past [] (suc k) h = refl
take_past (y ∷ ys) zero h = absurd (cc h)
take_past (y ∷ ys) (suc k) h = ap (λ zs. y ∷ zs) (take_past ys k h)

pub past_next : {X : Type 0} (xs : List X) (k : ℕ) → slice_get xs k ≡ None → slice_get xs (suc k) ≡ None
past_next [] k h = refl
past_next (y ∷ ys) zero h = absurd (cc h)
past_next (y ∷ ys) (suc k) h = past_next ys k h

-- what a front part keeps from operation to operation holds of each
pub along : (P : List Comm → Type 0) (crossed : List Comm) → P []
    → ((k : ℕ) (e : Comm) → slice_get crossed k ≡ Some e → P (take k crossed) → P (take k crossed ++ e ∷ [])) → (k : ℕ) → P (take k crossed)
along P crossed start more zero = start
along P crossed start more (suc k) = at (along P crossed start more k) (slice_get crossed k) refl
  where
    at : P (take k crossed) → (o : Option Comm) → slice_get crossed k ≡ o → P (take (suc k) crossed)
    at h None e = subst P (take_past crossed k e ∙ sym (take_past crossed (suc k) (past_next crossed k e))) h
    at h (Some x) e = subst P (sym (take_next crossed k x e)) (more k x e h)

-- what holds after each front part, and after all
pub holds_at : (s : Sequences) (buffer : ℕ) (crossed : List Comm) → IsSequences s → MayAll s buffer crossed → (k : ℕ) → Holds s buffer (take k crossed)
holds_at s buffer crossed sound may =
    along (Holds s buffer) crossed (holds_start s buffer) (λ k e at h. holds_more s buffer (take k crossed) e sound h (may k e at))

pub holds_all : (s : Sequences) (buffer : ℕ) (crossed : List Comm) → IsSequences s → MayAll s buffer crossed → Holds s buffer crossed
holds_all s buffer crossed sound may =
    subst (Holds s buffer) (take_all (length crossed) crossed (omega arith)) (holds_at s buffer crossed sound may (length crossed))
