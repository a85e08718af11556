-- What holds in the opening state holds after each step.
use Rattle.std.proofs.Common.{ne_eqb, true≢false, ltb-true, nat_eq, ◌≡◌, ◌≢◌, ℕ, suc, pred, ◌+◌, ◌<◌, ◌≤◌, true, cond, ◌⊎◌, inl, inr, List, [], ◌∷◌, length, take, get_or, refl, sym, ap, subst, ◌∙◌, arith}
use Rattle.std.proofs.lemmas.Bool.{cases_lt}
use Rattle.std.proofs.lemmas.List.{get_or_past}
use Rattle.array_runs.specs.Frame.{Action, Halt, Work, Write, Read, Frame, hops}
use Rattle.array_runs.specs.Orders.{count, same}
use Rattle.array_runs.specs.Regular.{IsOwn}
use Rattle.array_runs.specs.Runs.{IsRun, end_of}
use Rattle.array_runs.specs.States.{State, one_at, one_at_place, opening, raised, raised_at}
use Rattle.array_runs.specs.Steps.{acted, after, can, may_do, next}
use Rattle.sys_base.specs.declared.actor.Actor.{Actor}
use Rattle.sys_base.specs.declared.actor.Actor.TheVariants.{Cell, Forward, Bind}
use Rattle.array_runs.proofs.Allowed.{binds, can_cell, forwards, may_write}
use Rattle.array_runs.proofs.Counts.{one_at_self, count_more, one_at_tells, same_work}
use Rattle.array_runs.proofs.Flows.{bind_keeps, place_tells, rise_keeps, rise_tells}
use Rattle.array_runs.proofs.Holding.{IsShaped, Holds, Placed}

-- A cell halts, or it is within its list and its next action is one of its own.
pub own_next : (p : Frame) (actions : ℕ → List Action) (s : State) (c : ℕ) → IsShaped p actions → c < p.cells
    → (next actions s c ≡ Halt) ⊎ ((s.place c < length (actions c)) × IsOwn p c (next actions s c))
own_next p actions s c h l =
    elim (cases_lt (s.place c) (length (actions c))) [
      | inl g ↦ inr (g, h.own c (s.place c) l g)
      | inr g ↦ inl (get_or_past _ _ Halt g)
    ]

-- the mark past the last hop is that of the message alone
at_end : (p : Frame) (w m : ℕ) → one_at_place w (hops p w) m (hops p m) ≡ one_at w m
at_end p w m =
    elim (one_at_tells w m) [
      | inl t ↦
          let base : one_at_place w (hops p w) w (hops p w) ≡ one_at w w =
          ap (λ n. cond (nat_eq w w) n 0) (one_at_self (hops p w))
          in
          subst (λ n. one_at_place w (hops p w) n (hops p n) ≡ one_at w n) t.0 base
      | inr t ↦ ap (λ b. cond b (one_at (hops p w) (hops p m)) 0) (ne_eqb w m t.0) ∙ sym t.1
    ]

pred_is : (j n : ℕ) → n ≡ suc j → pred n ≡ j
pred_is j n e = omega arith

module _ (p : Frame) (actions : ℕ → List Action) (cap : ℕ) (shaped : IsShaped p actions) where
  -- what a step of a cell adds to what each cell has done
  moved : (s : State) (c : ℕ) (x : Action) → next actions s c ≡ x → (e : Action) (n : ℕ)
      → ((c ≢ n) × (count e (take (raised s.place c n) (actions n)) ≡ count e (take (s.place n) (actions n))))
      ⊎ ((c ≡ n) × (count e (take (raised s.place c n) (actions n)) ≡ count e (take (s.place n)
      (actions n)) + same e x))
  moved s c x known e n =
      elim (one_at_tells c n) [
        | inl t ↦
            let q : raised s.place c n ≡ suc (s.place n) = omega (arith, t.1) in
            let k : get_or (actions n) (s.place n) Halt ≡ x = subst (λ a. next actions s a ≡ x) t.0 known in
            inr (
              t.0,
              ap (λ a. count e (take a (actions n))) q ∙ count_more e (actions n) (s.place n)
                  ∙ ap (λ a. count e (take (s.place n) (actions n)) + same e a) k,
            )
        | inr t ↦
            let q : raised s.place c n ≡ s.place n = omega (arith, t.1) in
            inl (t.0, ap (λ a. count e (take a (actions n))) q)
      ]

  placed_more : (s : State) (c : ℕ) → s.place c < length (actions c) → ((n : ℕ) → s.place n ≤ length (actions n))
      → (n : ℕ) → raised s.place c n ≤ length (actions n)
  placed_more s c l h n =
      elim (rise_tells (λ a. s.place a < length (actions a)) c n l) [
        | inl z ↦ omega (arith, h n)
        | inr t ↦ omega (arith, t.0, t.1)
      ]

  -- a mark that rises at a hop past the first, and before the end, is neither of those that the cells make
  inner : (s : State) (m i : ℕ) → 0 < i → i < hops p m → Placed p actions s.place s.mark
      → Placed p actions s.place (raised_at s.mark m i)
  inner s m i low high h =
      record {
        written = λ n l.
            elim (place_tells (λ a b. 0 < b) m i n 0 low) [
              | inl z ↦ omega (arith, h.written n l)
              | inr t ↦ absurd (omega (arith, t.1))
            ];
        read = λ n l.
            elim (place_tells (λ a b. b < hops p a) m i n (hops p n) high) [
              | inl z ↦ omega (arith, h.read n l)
              | inr t ↦ absurd (omega (arith, t.1))
            ];
        placed = h.placed;
      }

  pub acted_keeps : (s : State) (c : ℕ) (x : Action) → next actions s c ≡ x → s.place c < length (actions c)
      → IsOwn p c x → may_do p cap s.mark s.bound x ≡ true → Holds p actions cap s → Holds p actions cap (acted p s c x)
  acted_keeps s c Halt known l own t h = absurd own
  acted_keeps s c Work known l own t h =
      let place_of_work : (e : Action) (n : ℕ)
      → count e (take (raised s.place c n) (actions n)) ≡ count e (take (s.place n) (actions n)) =
      λ e n. elim (moved s c Work known e n) [ inl g ↦ g.1 | inr g ↦ omega (arith, g.1, same_work e) ]
      in
      record {
        ends = record {
          written = λ m r. h.ends.written m r ∙ sym (place_of_work (Write m) (p.sender m));
          read = λ m r. h.ends.read m r ∙ sym (place_of_work (Read m) (p.receiver m));
          placed = placed_more s c l h.ends.placed;
        };
        flows = h.flows;
      }
  acted_keeps s c (Write w) known l own t h =
      let facts = (may_write p cap s.mark s.bound w).0 t in
      let reach : 0 < hops p w = shaped.reaches w own.0 in
      record {
        ends = record {
          written = λ m r.
              elim (moved s c (Write w) known (Write m) (p.sender m)) [
                | inl g ↦ elim (one_at_tells w m) [
                  | inl y ↦ absurd (g.0 (sym own.1 ∙ ap p.sender y.0))
                  | inr y ↦
                      let e : one_at_place w 0 m 0 ≡ one_at w m = refl in
                      omega (arith, h.ends.written m r, g.1, y.1, e)
                ]
                | inr g ↦
                    let e : one_at_place w 0 m 0 ≡ one_at w m = refl in
                    omega (arith, h.ends.written m r, g.1, one_at_tells w m, one_at_tells m w, e)
              ];
          read = λ m r.
              elim (place_tells (λ a b. b < hops p a) w 0 m (hops p m) reach) [
                | inl z ↦ elim (moved s c (Write w) known (Read m) (p.receiver m)) [
                  | inl g ↦ omega (arith, h.ends.read m r, g.1, z)
                  | inr g ↦ omega (arith, h.ends.read m r, g.1, z)
                ]
                | inr y ↦ absurd (omega (arith, y.1))
              ];
          placed = placed_more s c l h.ends.placed;
        };
        flows = rise_keeps p cap s.mark s.bound w 0 h.flows
            (record { below = λ j e. absurd (omega arith); opened = λ g. facts.0; room = λ g. facts.1.1 });
      }
  acted_keeps s c (Read w) known l own t h =
      let word : s.mark w (hops p w) < s.mark w (pred (hops p w)) = ltb-true _ _ t in
      let reach : 0 < hops p w = shaped.reaches w own.0 in
      record {
        ends = record {
          written = λ m r.
              elim (place_tells (λ a b. 0 < b) w (hops p w) m 0 reach) [
                | inl z ↦ elim (moved s c (Read w) known (Write m) (p.sender m)) [
                  | inl g ↦ omega (arith, h.ends.written m r, g.1, z)
                  | inr g ↦ omega (arith, h.ends.written m r, g.1, z)
                ]
                | inr y ↦ absurd (omega (arith, y.1))
              ];
          read = λ m r.
              elim (moved s c (Read w) known (Read m) (p.receiver m)) [
                | inl g ↦ elim (one_at_tells w m) [
                  | inl y ↦ absurd (g.0 (sym own.1 ∙ ap p.receiver y.0))
                  | inr y ↦ omega (arith, h.ends.read m r, g.1, y.1, at_end p w m)
                ]
                | inr g ↦ omega (arith, h.ends.read m r, g.1, one_at_tells w m, one_at_tells m w, at_end p w m)
              ];
          placed = placed_more s c l h.ends.placed;
        };
        flows = rise_keeps p cap s.mark s.bound w (hops p w) h.flows
            (record {
              below = λ j e. subst (λ n. s.mark w (hops p w) < s.mark w n) (pred_is j (hops p w) e) word;
              opened = λ g. absurd (omega arith);
              room = λ g. absurd (omega arith);
            });
      }

  pub step_keeps : (s : State) (a : Actor) → can p actions cap s a ≡ true → Holds p actions cap s
      → Holds p actions cap (after p actions s a)
  step_keeps s (Cell c) t h =
      let facts = (can_cell p actions cap s c).0 t in
      elim (own_next p actions s c shaped facts.0) [
        | inl halted ↦ absurd (true≢false (sym facts.1 ∙ ap (may_do p cap s.mark s.bound) halted))
        | inr o ↦ acted_keeps s c (next actions s c) refl o.0 o.1 facts.1 h
      ]
  step_keeps s (Forward m i) t h =
      let facts = (forwards p cap s.mark s.bound m i).0 t in
      record {
        ends = inner s m (suc i) (omega arith) facts.1.0 h.ends;
        flows = rise_keeps p cap s.mark s.bound m (suc i) h.flows
            (record {
              below = λ j e. subst (λ n. s.mark m (suc i) < s.mark m n) (pred_is j (suc i) e) facts.1.1.0;
              opened = λ g. facts.1.1.1.0;
              room = λ g. facts.1.1.1.1;
            });
      }
  step_keeps s (Bind l) t h =
      let facts = (binds p s.mark s.bound l).0 t in
      record { ends = h.ends; flows = bind_keeps p cap s.mark s.bound l h.flows facts.1.0 facts.1.1 }

  pub run_keeps : (s : State) (run : List Actor) → IsRun p actions cap s run → Holds p actions cap s
      → Holds p actions cap (end_of p actions s run)
  run_keeps s [] r h = h
  run_keeps s (a ∷ rest) r h = run_keeps (after p actions s a) rest r.1 (step_keeps s a r.0 h)

  pub opening_holds : Holds p actions cap opening
  opening_holds =
      record {
        ends = record { written = λ m l. refl; read = λ m l. refl; placed = λ c. omega arith };
        flows = record {
          falls = λ m i l g. omega arith;
          entered = λ m i l g e. refl;
          roomy = λ m i l g. omega arith;
          counted = λ l. omega arith;
          fitting = λ l. omega arith;
        };
      }
