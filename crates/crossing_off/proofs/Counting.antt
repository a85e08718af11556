-- The counts of crossed operations.
use Rattle.std.proofs.Common.{◌≡◌, ◌≢◌, ℕ, ◌+◌, ◌-◌, ◌<◌, ◌≤◌, cond, nat_eq, List, [], ◌∷◌, ◌++◌, length, set, slice_index, sym, ◌∙◌, ap, subst, ⊎_elim, arith}
use Rattle.std.proofs.lemmas.Bool.{cases_eq, ne_eqb}
use Rattle.std.proofs.lemmas.List.{length-set, get_or-set_same, get_or-set_other}
use Rattle.comm_sequence.specs.BufferedOrder.{occurrences}
use Rattle.comm_sequence.specs.Sequences.{Sequences}
use Rattle.comm_sequence.specs.declared.comm.Comm.{Comm}
use Rattle.comm_sequence.specs.declared.comm.Comm.TheVariants.{Write, Read}
use Rattle.crossing_off.specs.bodies.Worklist.{AreCounts}
use Rattle.crossing_off.proofs.Counts.{occurs_push, push_itself}

-- another message does not count
other_counts : (m n : ℕ) → m ≢ n → ◌≡◌ {A = ℕ} (cond (nat_eq m n) 1 0) 0
other_counts m n differ = ap {B = ℕ} (λ b. cond b 1 0) (ne_eqb m n differ)

-- a write is counted
pub counts_write : (s : Sequences) (held wanted : List ℕ) (order : List Comm) (m : ℕ) → AreCounts s held wanted order → m < length s.ends
    → occurrences (Read m) order ≤ occurrences (Write m) order
    → AreCounts s (set held m (slice_index held m + 1)) (set wanted m (slice_index wanted m - 1)) (order ++ Write m ∷ [])
counts_write s held wanted order m h l written = record {
  held_len = length-set held m (slice_index held m + 1) ∙ h.held_len;
  wanted_len = length-set wanted m (slice_index wanted m - 1) ∙ h.wanted_len;
  held_is = λ k within.
      let r = occurs_push (Read k) (Write m) order in
      let old = h.held_is k within in
      ⊎_elim
      (λ (same : k ≡ m).
      let w : occurrences (Write k) (order ++ Write m ∷ []) ≡ occurrences (Write k) order + 1 =
      ap (λ j. occurrences (Write k) (order ++ Write j ∷ [])) (sym same) ∙ push_itself (Write k) order in
      let now : slice_index (set held m (slice_index held m + 1)) k ≡ slice_index held k + 1 =
      ap (slice_index (set held m (slice_index held m + 1))) same ∙ get_or-set_same held m (slice_index held m + 1) 0 (omega (arith, l, h.held_len))
      ∙ ap (λ j. slice_index held j + 1) (sym same) in
      let less : occurrences (Read k) order ≤ occurrences (Write k) order =
      subst (λ j. occurrences (Read j) order ≤ occurrences (Write j) order) (sym same) written in
      omega (arith, r, w, now, old, less))
      (λ (differ : k ≢ m).
      let w = occurs_push (Write k) (Write m) order in
      let now = get_or-set_other held m k (slice_index held m + 1) 0 differ in
      omega (arith, r, w, now, old, other_counts k m differ))
      (cases_eq k m);
  wanted_is = λ k within.
      let old = h.wanted_is k within in
      ⊎_elim
      (λ (same : k ≡ m).
      let w : occurrences (Write k) (order ++ Write m ∷ []) ≡ occurrences (Write k) order + 1 =
      ap (λ j. occurrences (Write k) (order ++ Write j ∷ [])) (sym same) ∙ push_itself (Write k) order in
      let now : slice_index (set wanted m (slice_index wanted m - 1)) k ≡ slice_index wanted k - 1 =
      ap (slice_index (set wanted m (slice_index wanted m - 1))) same ∙ get_or-set_same wanted m (slice_index wanted m - 1) 0 (omega (arith, l, h.wanted_len))
      ∙ ap (λ j. slice_index wanted j - 1) (sym same) in
      omega (arith, w, now, old))
      (λ (differ : k ≢ m).
      let w = occurs_push (Write k) (Write m) order in
      let now = get_or-set_other wanted m k (slice_index wanted m - 1) 0 differ in
      omega (arith, w, now, old, other_counts k m differ))
      (cases_eq k m);
}

-- a read is counted
pub counts_read : (s : Sequences) (held wanted : List ℕ) (order : List Comm) (m : ℕ) → AreCounts s held wanted order → m < length s.ends
    → AreCounts s (set held m (slice_index held m - 1)) wanted (order ++ Read m ∷ [])
counts_read s held wanted order m h l = record {
  held_len = length-set held m (slice_index held m - 1) ∙ h.held_len;
  wanted_len = h.wanted_len;
  held_is = λ k within.
      let w = occurs_push (Write k) (Read m) order in
      let old = h.held_is k within in
      ⊎_elim
      (λ (same : k ≡ m).
      let r : occurrences (Read k) (order ++ Read m ∷ []) ≡ occurrences (Read k) order + 1 =
      ap (λ j. occurrences (Read k) (order ++ Read j ∷ [])) (sym same) ∙ push_itself (Read k) order in
      let now : slice_index (set held m (slice_index held m - 1)) k ≡ slice_index held k - 1 =
      ap (slice_index (set held m (slice_index held m - 1))) same ∙ get_or-set_same held m (slice_index held m - 1) 0 (omega (arith, l, h.held_len))
      ∙ ap (λ j. slice_index held j - 1) (sym same) in
      omega (arith, r, w, now, old))
      (λ (differ : k ≢ m).
      let r = occurs_push (Read k) (Read m) order in
      let now = get_or-set_other held m k (slice_index held m - 1) 0 differ in
      omega (arith, r, w, now, old, other_counts k m differ))
      (cases_eq k m);
  wanted_is = λ k within.
      let w = occurs_push (Write k) (Read m) order in
      let old = h.wanted_is k within in
      omega (arith, w, old);
}
