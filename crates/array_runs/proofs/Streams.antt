-- A cell by itself: it stays at its halt, and what it does until then is a list of actions.
use Rattle.std.proofs.Common.{◌≡◌, ℕ, zero, suc, ◌+◌, ◌<◌, ◌≤◌, Bool, true, false, cond, ◌⊎◌, inl, inr, List, [], ◌∷◌, ◌++◌, length, take, get_or, refl, sym, ap, subst, ◌∙◌, arith, length-append, take_all, append-nil}
use Rattle.std.proofs.Math.Seq.{take-append-le}
use Rattle.std.proofs.lemmas.Bool.{cases_Bool, cases_lt, both_ways}
use Rattle.std.proofs.lemmas.List.{get_or_at, get_or_append_left}
use Rattle.std.proofs.lemmas.List.Elements.{filter-append}
use Rattle.array_runs.proofs.Holding.{IsShaped, shaped_of}
use Rattle.array_runs.specs.Frame.{Action, Halt, Work, Write, Read, Frame}
use Rattle.array_runs.specs.Machines.{Machine}
use Rattle.array_runs.specs.Orders.{count, events, is_event, same}
use Rattle.array_runs.specs.Regular.{IsOwn, IsRegular, Rises}
use Rattle.array_runs.specs.Alone.{Alone, IsRegularArray, action_alone, actions_alone, alone, alone_step, first, IsPrefix, written_alone, word_of}
use Rattle.array_runs.proofs.Prefixes.{prefix_more, prefix_refl, prefix_trans}
use Rattle.array_runs.proofs.Counts.{one_at_tells, among_events, count_events}

pub length_first : {A : Type 0} (f : ℕ → A) (n : ℕ) → length (first f n) ≡ n
length_first f zero = refl
length_first f (suc n) = omega (arith, length-append (first f n) (f n ∷ []), length_first f n)

pub get_first : {A : Type 0} (f : ℕ → A) (n i : ℕ) (e : A) → i < n → get_or (first f n) i e ≡ f i
get_first f zero i e h = absurd (omega arith)
get_first f (suc n) i e h =
    elim (cases_lt i n) [
      | inl l ↦ get_or_append_left (first f n) (f n ∷ []) e i (omega (arith, length_first f n)) ∙ get_first f n i e l
      | inr l ↦
          let same : i ≡ n = omega arith in
          get_or_at (first f n) (f n) [] e i (length_first f n ∙ sym same) ∙ ap f (sym same)
    ]

pub take_first : {A : Type 0} (f : ℕ → A) (k n : ℕ) → k ≤ n → take k (first f n) ≡ first f k
take_first f k zero h =
    let none : k ≡ 0 = omega arith in
    subst (λ j. take j [] ≡ first f j) (sym none) refl
take_first f k (suc n) h =
    elim (cases_lt n k) [
      | inl l ↦
          let same : suc n ≡ k = omega arith in
          take_all k (first f (suc n)) (omega (arith, length_first f (suc n))) ∙ ap (first f) same
      | inr l ↦ take-append-le k (first f n) (f n ∷ []) (omega (arith, length_first f n)) ∙ take_first f k n l
    ]

pub count_append : (e : Action) (xs ys : List Action) → count e (xs ++ ys) ≡ count e xs + count e ys
count_append e [] ys = omega arith
count_append e (x ∷ xs) ys = omega (arith, count_append e xs ys)

-- whether a cell halts
abbrev pub is_halt : Action → Bool
is_halt Halt = true
is_halt Work = false
is_halt (Write m) = false
is_halt (Read m) = false

pub halt_is : (x : Action) → is_halt x ≡ true → x ≡ Halt
halt_is Halt h = refl
halt_is Work h = absurd (cc)
halt_is (Write m) h = absurd (cc)
halt_is (Read m) h = absurd (cc)

-- the first number at which a list of actions halts, if there is one up to a number, and else that
pub halt_by : (ℕ → Action) → ℕ → ℕ
halt_by f zero = 0
halt_by f (suc n) = cond (is_halt (f (halt_by f n))) (halt_by f n) (suc (halt_by f n))

halt_by_more : (f : ℕ → Action) (n : ℕ)
    → ((is_halt (f (halt_by f n)) ≡ true) × (halt_by f (suc n) ≡ halt_by f n))
    ⊎ ((is_halt (f (halt_by f n)) ≡ false) × (halt_by f (suc n) ≡ suc (halt_by f n)))
unfolding halt_by
halt_by_more f n =
    elim (cases_Bool (is_halt (f (halt_by f n)))) [
      | inl t ↦ inl (t, ap (λ b. cond b (halt_by f n) (suc (halt_by f n))) t)
      | inr t ↦ inr (t, ap (λ b. cond b (halt_by f n) (suc (halt_by f n))) t)
    ]

halt_by_zero : (f : ℕ → Action) → halt_by f 0 ≡ 0
unfolding halt_by
halt_by_zero f = refl

pub halt_by_le : (f : ℕ → Action) (n : ℕ) → halt_by f n ≤ n
halt_by_le f zero = omega (arith, halt_by_zero f)
halt_by_le f (suc n) =
    elim (halt_by_more f n) [
      | inl t ↦ omega (arith, t.1, halt_by_le f n)
      | inr t ↦ omega (arith, t.1, halt_by_le f n)
    ]

-- it does not halt before
pub goes_on : (f : ℕ → Action) (n k : ℕ) → k < halt_by f n → is_halt (f k) ≡ false
goes_on f zero k h = absurd (omega (arith, halt_by_zero f))
goes_on f (suc n) k h =
    let ih : k < halt_by f n → is_halt (f k) ≡ false = goes_on f n k in
    elim (halt_by_more f n) [
      | inl t ↦ ih (omega (arith, t.1))
      | inr t ↦ elim (cases_lt k (halt_by f n)) [
        | inl l ↦ ih l
        | inr l ↦
            let same : halt_by f n ≡ k = omega (arith, t.1) in
            subst (λ j. is_halt (f j) ≡ false) same t.0
      ]
    ]

reaches : (f : ℕ → Action) (n : ℕ) → (halt_by f n ≡ n) ⊎ (is_halt (f (halt_by f n)) ≡ true)
reaches f zero = inl (halt_by_zero f)
reaches f (suc n) =
    let ih : (halt_by f n ≡ n) ⊎ (is_halt (f (halt_by f n)) ≡ true) = reaches f n in
    elim (halt_by_more f n) [
      | inl t ↦ inr (subst (λ j. is_halt (f j) ≡ true) (sym t.1) t.0)
      | inr t ↦ elim ih [
        | inl e ↦ inl (t.1 ∙ ap suc e)
        | inr h ↦ absurd (both_ways _ t.0 h)
      ]
    ]

pub halts_by : (f : ℕ → Action) (n : ℕ) → f n ≡ Halt → f (halt_by f n) ≡ Halt
halts_by f n h =
    elim (reaches f n) [
      | inl e ↦ subst (λ j. f j ≡ Halt) (sym e) h
      | inr t ↦ halt_is _ t
    ]

-- what comes behind a halt adds no write or read
events_still : (f : ℕ → Action) (n k : ℕ) → ((i : ℕ) → n ≤ i → f i ≡ Halt) → n ≤ k
    → events (first f k) ≡ events (first f n)
events_still f n zero h l =
    let none : n ≡ 0 = omega arith in
    subst (λ j. [] ≡ events (first f j)) (sym none) refl
events_still f n (suc k) h l =
    elim (cases_lt k n) [
      | inl g ↦
          let same : n ≡ suc k = omega arith in
          ap (λ j. events (first f j)) (sym same)
      | inr g ↦
          filter-append is_event (first f k) (f k ∷ [])
          ∙ ap (λ x. events (first f k) ++ events (x ∷ [])) (h k g)
          ∙ append-nil (events (first f k))
          ∙ events_still f n k h g
    ]

events_twice : (xs : List Action) → events (events xs) ≡ events xs
events_twice [] = refl
events_twice (Halt ∷ xs) = events_twice xs
events_twice (Work ∷ xs) = events_twice xs
events_twice (Write m ∷ xs) = ap (λ r. Write m ∷ r) (events_twice xs)
events_twice (Read m ∷ xs) = ap (λ r. Read m ∷ r) (events_twice xs)

module _ {X W : Type 0} (mc : Machine X W) (v : ℕ → List W) (start : ℕ → X) (c : ℕ) where
  pub still : (n k : ℕ) → action_alone mc v start c n ≡ Halt → n ≤ k → alone mc v start c k ≡ alone mc v start c n
  still n zero h l =
      let same : 0 ≡ n = omega arith in
      ap (alone mc v start c) same
  still n (suc k) h l =
      elim (cases_lt k n) [
        | inl g ↦
            let same : suc k ≡ n = omega arith in
            ap (alone mc v start c) same
        | inr g ↦
            let ih : alone mc v start c k ≡ alone mc v start c n = still n k h g in
            ap (alone_step mc v start c (alone mc v start c k)) (ap (λ a. mc.action c a.state) ih ∙ h) ∙ ih
      ]

  pub halted_still : (n k : ℕ) → action_alone mc v start c n ≡ Halt → n ≤ k → action_alone mc v start c k ≡ Halt
  halted_still n k h l = ap (λ a. mc.action c a.state) (still n k h l) ∙ h

  reads_step : (a : Alone X) (x : Action) (m : ℕ) → (alone_step mc v start c a x).taken m ≡ a.taken m + same (Read m) x
  reads_step a Halt m = omega arith
  reads_step a Work m = omega arith
  reads_step a (Write k) m = omega arith
  reads_step a (Read k) m = omega (arith, one_at_tells k m, one_at_tells m k)

  -- how many words of a message were read alone
  pub alone_reads : (n m : ℕ) → (alone mc v start c n).taken m ≡ count (Read m) (actions_alone mc v start c n)
  alone_reads zero m = refl
  alone_reads (suc n) m =
      omega (
        arith,
        reads_step (alone mc v start c n) (action_alone mc v start c n) m,
        alone_reads n m,
        count_append (Read m) (actions_alone mc v start c n) (action_alone mc v start c n ∷ []),
      )

module _ {X W : Type 0} (p : Frame) (mc : Machine X W) (start : ℕ → X) (lists : ℕ → List Action) (cost : ℕ → ℕ) (d : ℕ) (h : IsRegularArray p mc start lists cost d) (v : ℕ → List W) where
  -- how many steps a cell makes by itself
  abbrev pub steps : ℕ → ℕ
  steps c = halt_by (action_alone mc v start c) (cost c)

  -- what it does in these
  abbrev pub actions : ℕ → List Action
  actions c = actions_alone mc v start c (steps c)

  pub ends : (c : ℕ) → c < p.cells → action_alone mc v start c (steps c) ≡ Halt
  ends c l = halts_by (action_alone mc v start c) (cost c) (h.cells.halts v c l)

  same_events : (c : ℕ) → c < p.cells → events (actions c) ≡ lists c
  same_events c l =
      sym (events_still (action_alone mc v start c) (steps c) (cost c)
      (λ i g. halted_still mc v start c (steps c) i (ends c l) g) (halt_by_le (action_alone mc v start c) (cost c)))
      ∙ h.cells.alike v c l

  list_events : (c : ℕ) → c < p.cells → events (lists c) ≡ events (actions c)
  list_events c l = ap events (sym (same_events c l)) ∙ events_twice (actions c)

  -- a write or read that it does alone is of its list
  own_event : (c i : ℕ) → c < p.cells → i < steps c → (x : Action) → action_alone mc v start c i ≡ x
      → is_event x ≡ true → IsOwn p c x
  own_event c i l g x e t =
      let is : get_or (actions c) i Halt ≡ x = get_first (action_alone mc v start c) (steps c) i Halt g ∙ e in
      let a = among_events (actions c) i (ap is_event is ∙ t) in
      let k : ℕ = length (events (take i (actions c))) in
      let inside : k < length (lists c) = subst (λ r. k < length r) (same_events c l) a.inside in
      subst (IsOwn p c) (sym (ap (λ r. get_or r k Halt) (same_events c l)) ∙ a.is
      ∙ is) (h.regular.ordered.own c k l inside)

  own_entry : (c i : ℕ) → c < p.cells → i < steps c → (x : Action) → action_alone mc v start c i ≡ x → IsOwn p c x
  own_entry c i l g Halt e =
      absurd (both_ways _ (goes_on (action_alone mc v start c) (cost c) i g) (ap is_halt e))
  own_entry c i l g Work e = tt
  own_entry c i l g (Write m) e = own_event c i l g (Write m) e refl
  own_entry c i l g (Read m) e = own_event c i l g (Read m) e refl

  pub regular_actions : IsRegular p actions d
  regular_actions =
      record {
        ordered = record {
          own = λ c i l g.
              let inside : i < steps c = omega (arith, length_first (action_alone mc v start c) (steps c)) in
              own_entry c i l inside (get_or (actions c) i Halt)
              (sym (get_first (action_alone mc v start c) (steps c) i Halt inside));
          sends = h.regular.ordered.sends;
          receives = h.regular.ordered.receives;
          order = h.regular.ordered.order;
          known = h.regular.ordered.known;
          is_order = record {
            each = λ c l. h.regular.ordered.is_order.each c l ∙ list_events c l;
            prefix = h.regular.ordered.is_order.prefix;
            whole = h.regular.ordered.is_order.whole;
            kept = h.regular.ordered.is_order.kept;
          };
        };
        counted = λ m l.
            h.regular.counted m l
            ∙ ap (count (Write m)) (sym (same_events (p.sender m) (h.regular.ordered.sends m l)))
            ∙ count_events (Write m) (actions (p.sender m));
        routed = h.regular.routed;
        grouped = h.regular.grouped;
        labels = λ c l. subst (Rises p) (list_events c l) (h.regular.labels c l);
      }

  pub shaped_actions : IsShaped p actions
  shaped_actions = shaped_of p actions d regular_actions

-- what was written alone in more steps goes on from what was written in fewer
module _ {X W : Type 0} (mc : Machine X W) (v : ℕ → List W) (start : ℕ → X) (c m : ℕ) where
  pub written_grows : (n k : ℕ) → n ≤ k → IsPrefix (written_alone mc v start c n m) (written_alone mc v start c k m)
  written_grows n zero h =
      let same : n ≡ 0 = omega arith in
      subst (λ j. IsPrefix (written_alone mc v start c j m) []) (sym same) (prefix_refl [])
  written_grows n (suc k) h =
      let ih : n ≤ k → IsPrefix (written_alone mc v start c n m) (written_alone mc v start c k m) = written_grows n k in
      elim (cases_lt k n) [
        | inl l ↦
            let same : suc k ≡ n = omega arith in
            subst (λ j. IsPrefix (written_alone mc v start c j m) (written_alone mc v start c (suc k) m)) same
            (prefix_refl (written_alone mc v start c (suc k) m))
        | inr l ↦ prefix_trans _ _ _ (ih l) (prefix_more _ _)
      ]

  -- past a halt nothing is written
  pub written_still : (n k : ℕ) → action_alone mc v start c n ≡ Halt → n ≤ k
      → written_alone mc v start c k m ≡ written_alone mc v start c n m
  written_still n zero h l =
      let same : 0 ≡ n = omega arith in
      ap (λ j. written_alone mc v start c j m) same
  written_still n (suc k) h l =
      let ih : n ≤ k → written_alone mc v start c k m ≡ written_alone mc v start c n m = written_still n k h in
      elim (cases_lt k n) [
        | inl g ↦
            let same : suc k ≡ n = omega arith in
            ap (λ j. written_alone mc v start c j m) same
        | inr g ↦
            ap (λ x. written_alone mc v start c k m ++ word_of mc v start c (alone mc v start c k).state x m)
            (halted_still mc v start c n k h g)
            ∙ append-nil (written_alone mc v start c k m) ∙ ih g
      ]

  -- two halts have written the same
  pub same_written : (n k : ℕ) → action_alone mc v start c n ≡ Halt → action_alone mc v start c k ≡ Halt
      → written_alone mc v start c n m ≡ written_alone mc v start c k m
  same_written n k g h =
      elim (cases_lt n k) [
        | inl l ↦ sym (written_still n k g (omega arith))
        | inr l ↦ written_still k n h l
      ]

  -- what was written in any number of steps is the beginning of what is written at a halt
  pub written_begins : (n k : ℕ) → action_alone mc v start c k ≡ Halt
      → IsPrefix (written_alone mc v start c n m) (written_alone mc v start c k m)
  written_begins n k h =
      elim (cases_lt k n) [
        | inl l ↦ subst (λ x. IsPrefix x (written_alone mc v start c k m)) (sym (written_still k n h (omega arith)))
            (prefix_refl (written_alone mc v start c k m))
        | inr l ↦ written_grows n k l
      ]
