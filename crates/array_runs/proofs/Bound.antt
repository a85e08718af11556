-- What was done rises by one with each step, and never passes the bound.
use Rattle.std.proofs.Common.{ne_eqb, le_of_eq, eq-eqb, ◌≡◌, ◌≢◌, ℕ, zero, suc, pred, ◌+◌, ◌*◌, ◌<◌, ◌≤◌, true, cond, inl, inr, List, [], ◌∷◌, length, refl, ap, subst, ◌∙◌, arith}
use Rattle.std.proofs.lemmas.Bool.{cases_lt}
use Rattle.array_runs.specs.Frame.{Action, Halt, Work, Write, Read, Frame, hops}
use Rattle.array_runs.specs.Runs.{IsRun, bound, end_of}
use Rattle.array_runs.specs.States.{State, one_at, one_at_place, opening, raised, raised_at}
use Rattle.array_runs.specs.Steps.{acted, after, can, may_do, next}
use Rattle.sys_base.specs.declared.actor.Actor.{Actor}
use Rattle.sys_base.specs.declared.actor.Actor.TheVariants.{Cell, Forward, Bind}
use Rattle.array_runs.proofs.Allowed.{binds, can_cell, forwards}
use Rattle.array_runs.proofs.Counts.{count_le, one_at_tells}
use Rattle.array_runs.proofs.Flows.{place_tells}
use Rattle.array_runs.proofs.Holding.{IsShaped, Flows, Holds}
use Rattle.array_runs.proofs.Sums.{bound_is, sum_below, sum_le, sum_raised, sum_same, sum_up_to}
use Rattle.array_runs.proofs.Steps.{opening_holds, run_keeps}

-- how often words of a message have moved from one hop on to the next
abbrev pub moves : Frame → (ℕ → ℕ → ℕ) → ℕ → ℕ
moves p k m = sum_below (λ i. k m (suc i)) (pred (hops p m))

-- how much was done: actions of cells, moves of words, and bindings of groups
abbrev pub made : Frame → State → ℕ
made p s = sum_below s.place p.cells + sum_below (moves p s.mark) p.messages + sum_below s.bound p.links

module _ (p : Frame) where
  -- a mark at the first or past the last hop counts no move
  outer : (k : ℕ → ℕ → ℕ) (m i n : ℕ) → ((j : ℕ) → j < pred (hops p n) → one_at_place m i n (suc j) ≡ 0)
      → moves p (raised_at k m i) n ≡ moves p k n
  outer k m i n h = sum_same (λ j. raised_at k m i n (suc j)) (λ j. k n (suc j)) (pred (hops p n)) (λ j l. omega
      (arith, h j l))

  first_hop : (m n j : ℕ) → one_at_place m 0 n (suc j) ≡ 0
  first_hop m n j =
      elim (place_tells (λ a b. b ≡ 0) m 0 n (suc j) refl) [ inl z ↦ z | inr t ↦ absurd (omega (arith, t.1)) ]

  last_hop : (m n j : ℕ) → j < pred (hops p n) → one_at_place m (hops p m) n (suc j) ≡ 0
  last_hop m n j l =
      elim (place_tells (λ a b. b ≡ hops p a) m (hops p m) n (suc j) refl) [
        | inl z ↦ z
        | inr t ↦ absurd (omega (arith, t.1))
      ]

  next_one : (i j : ℕ) → one_at (suc i) (suc j) ≡ one_at i j
  next_one i j = omega (arith, one_at_tells (suc i) (suc j), one_at_tells i j)

  -- a mark in between counts one
  inner_same : (k : ℕ → ℕ → ℕ) (m i : ℕ) → i < pred (hops p m) → moves p (raised_at k m (suc i)) m ≡ suc (moves p k m)
  inner_same k m i l =
      let same : (j : ℕ) → one_at_place m (suc i) m (suc j) ≡ one_at i j =
      λ j. ap (λ b. cond b (one_at (suc i) (suc j)) 0) (eq-eqb m m refl) ∙ next_one i j
      in
      sum_same (λ j. raised_at k m (suc i) m (suc j)) (raised (λ j. k m (suc j)) i) (pred (hops p m))
      (λ j g. omega (arith, same j)) ∙ sum_raised (λ j. k m (suc j)) i (pred (hops p m)) l

  inner_other : (k : ℕ → ℕ → ℕ) (m i n : ℕ) → m ≢ n → moves p (raised_at k m (suc i)) n ≡ moves p k n
  inner_other k m i n h =
      outer k m (suc i) n (λ j l. ap (λ b. cond b (one_at (suc i) (suc j)) 0) (ne_eqb m n h))

  inner_moves : (k : ℕ → ℕ → ℕ) (m i n : ℕ) → i < pred (hops p m)
      → moves p (raised_at k m (suc i)) n ≡ raised (moves p k) m n
  inner_moves k m i n l =
      elim (one_at_tells m n) [
        | inl t ↦ subst (λ a. moves p (raised_at k m (suc i)) a ≡ raised (moves p k) m a) t.0
            (omega (arith, inner_same k m i l, one_at_tells m m))
        | inr t ↦ omega (arith, inner_other k m i n t.0, t.1)
      ]

  acted_counts : (s : State) (c : ℕ) (x : Action) → c < p.cells → (cap : ℕ) → may_do p cap s.mark s.bound x ≡ true
      → made p (acted p s c x) ≡ suc (made p s)
  acted_counts s c Halt l cap t = absurd (cc)
  acted_counts s c Work l cap t = omega (arith, sum_raised s.place c p.cells l)
  acted_counts s c (Write m) l cap t =
      omega (
        arith,
        sum_raised s.place c p.cells l,
        sum_same (moves p (raised_at s.mark m 0)) (moves p s.mark) p.messages
            (λ n g. outer s.mark m 0 n (λ j h. first_hop m n j)),
      )
  acted_counts s c (Read m) l cap t =
      omega (
        arith,
        sum_raised s.place c p.cells l,
        sum_same (moves p (raised_at s.mark m (hops p m))) (moves p s.mark) p.messages
            (λ n g. outer s.mark m (hops p m) n (last_hop m n)),
      )

  step_counts : (actions : ℕ → List Action) (cap : ℕ) (s : State) (a : Actor) → can p actions cap s a ≡ true
      → made p (after p actions s a) ≡ suc (made p s)
  step_counts actions cap s (Cell c) t =
      let facts = (can_cell p actions cap s c).0 t in
      acted_counts s c (next actions s c) facts.0 cap facts.1
  step_counts actions cap s (Forward m i) t =
      let facts = (forwards p cap s.mark s.bound m i).0 t in
      let hop : i < pred (hops p m) = omega arith in
      omega (
        arith,
        sum_same (moves p (raised_at s.mark m (suc i))) (raised (moves p s.mark) m) p.messages
            (λ n g. inner_moves s.mark m i n hop),
        sum_raised (moves p s.mark) m p.messages facts.0,
      )
  step_counts actions cap s (Bind l) t =
      let facts = (binds p s.mark s.bound l).0 t in
      omega (arith, sum_raised s.bound l p.links facts.0)

  run_counts : (actions : ℕ → List Action) (cap : ℕ) (s : State) (run : List Actor) → IsRun p actions cap s run
      → made p (end_of p actions s run) ≡ length run + made p s
  run_counts actions cap s [] r = omega arith
  run_counts actions cap s (a ∷ rest) r =
      omega (arith, run_counts actions cap (after p actions s a) rest r.1, step_counts actions cap s a r.0)

  -- marks along a route
  pub falls_along : (cap : ℕ) (k : ℕ → ℕ → ℕ) (b : ℕ → ℕ) → Flows p cap k b → (m i j : ℕ) → m < p.messages
      → i ≤ j → j ≤ hops p m → k m j ≤ k m i
  falls_along cap k b h m i zero l g t = le_of_eq (ap (k m) (omega arith))
  falls_along cap k b h m i (suc j) l g t =
      let ih : i ≤ j → k m j ≤ k m i = λ below. falls_along cap k b h m i j l below (omega arith) in
      elim (cases_lt j i) [
        | inl e ↦ le_of_eq (ap (k m) (omega arith))
        | inr e ↦ omega (arith, ih e, h.falls m j l t)
      ]

  module _ (actions : ℕ → List Action) (cap : ℕ) (shaped : IsShaped p actions) where
    pub written_at_most : (s : State) → Holds p actions cap s → (m : ℕ) → m < p.messages → s.mark m 0 ≤ p.words m
    written_at_most s h m l =
        omega (
          arith,
          h.ends.written m l,
          shaped.counted m l,
          count_le (Write m) (actions (p.sender m)) (s.place (p.sender m)),
        )

    pub mark_at_most : (s : State) → Holds p actions cap s → (m i : ℕ) → m < p.messages → i ≤ hops p m
        → s.mark m i ≤ p.words m
    mark_at_most s h m i l g =
        omega (arith, written_at_most s h m l, falls_along cap s.mark s.bound h.flows m 0 i l (omega arith) g)

    made_le : (s : State) → Holds p actions cap s → made p s ≤ bound p (λ c. length (actions c))
    made_le s h =
        let a : sum_below s.place p.cells ≤ sum_below (λ c. length (actions c)) p.cells =
        sum_le s.place (λ c. length (actions c)) p.cells (λ c l. h.ends.placed c)
        in
        let b : sum_below (moves p s.mark) p.messages ≤ sum_below (λ m. p.words m * pred (hops p m)) p.messages =
        sum_le (moves p s.mark) (λ m. p.words m * pred (hops p m)) p.messages
        (λ m l. sum_up_to (λ i. s.mark m (suc i)) (p.words m) (pred (hops p m)) (λ i g. mark_at_most s h m (suc i) l
        (omega arith)))
        in
        let c : sum_below s.bound p.links ≤ sum_below (λ l. length (p.groups l)) p.links =
        sum_le s.bound (λ l. length (p.groups l)) p.links (λ l g. h.flows.counted l)
        in
        omega (arith, bound_is p (λ c. length (actions c)))

    pub run_within : (run : List Actor) → IsRun p actions cap opening run
        → length run ≤ bound p (λ c. length (actions c))
    run_within run r =
        let h = run_keeps p actions cap shaped opening run r (opening_holds p actions cap shaped) in
        omega (arith, run_counts actions cap opening run r, made_le (end_of p actions opening run) h)
