-- The next write or read of a cell, and where it stands in the order.
use Rattle.std.proofs.Common.{◌≡◌, ℕ, suc, max, ◌<◌, ◌≤◌, true, ◌⊎◌, inl, inr, List, length, take, get_or, refl, sym, ap, subst, ◌∙◌, arith, le_of_eq, true≢false}
use Rattle.std.proofs.lemmas.Bool.{cases_lt, cases_order}
use Rattle.array_runs.specs.Frame.{Action, Halt, Work, Write, Read, Frame, hops}
use Rattle.array_runs.specs.Orders.{same, count, events, home, is_event, part_of}
use Rattle.array_runs.specs.Regular.{Rises, IsEvent, IsOwn, IsRegular, label_of}
use Rattle.array_runs.specs.States.{State}
use Rattle.array_runs.specs.Steps.{can, may_do, next}
use Rattle.sys_base.specs.declared.actor.Actor.{Actor}
use Rattle.sys_base.specs.declared.actor.Actor.TheVariants.{Cell}
use Rattle.array_runs.proofs.Allowed.{can_cell}
use Rattle.array_runs.proofs.Counts.{Found, among_events, count_all, count_events, count_le, count_more, count_within, find_event, same_self}
use Rattle.array_runs.proofs.Descent.{Smaller}
use Rattle.array_runs.proofs.Holding.{shaped_of, Holds}
use Rattle.array_runs.proofs.Parts.{count_part, find_part, label_before}
use Rattle.array_runs.proofs.Steps.{own_next}

event_is : (p : Frame) (e : Action) → IsEvent p e → is_event e ≡ true
event_is p Halt h = absurd h
event_is p Work h = absurd h
event_is p (Write m) h = refl
event_is p (Read m) h = refl

-- a state that a run of a regular array comes to, with a capacity that is enough
pub record Reached : Type 0 where
  pub p : Frame
  pub actions : ℕ → List Action
  pub d : ℕ
  pub cap : ℕ
  pub regular : IsRegular p actions d
  pub enough : max 1 d ≤ cap
  pub s : State
  pub holds : Holds p actions cap s

module _ (r : Reached) where
  open r use {p, actions, d, cap, regular, enough, s, holds}

  abbrev pub order : List Action
  order = regular.ordered.order

  -- the write or read at a place of the order
  abbrev pub event : ℕ → Action
  event j = get_or order j Halt

  abbrev pub so_far : Action → ℕ → ℕ
  so_far e j = count e (take j order)

  -- how often a write or a read was done
  abbrev pub done : Action → ℕ
  done Halt = 0
  done Work = 0
  done (Write m) = s.mark m 0
  done (Read m) = s.mark m (hops p m)

  -- A place of the order is open: what stands there was not done so often.
  pub record Open (j : ℕ) : Type 0 where
    pub inside : j < length order
    pub undone : done (event j) ≤ so_far (event j) j

  abbrev pub Moves : Type 0
  Moves = (a : Actor) × (can p actions cap s a ≡ true)

  abbrev pub label_at : ℕ → ℕ
  label_at j = label_of p (event j)

  abbrev pub Lower : ℕ → Type 0
  Lower j = Smaller Open label_at Moves j

  abbrev pub Advance : ℕ → Type 0
  Advance j = Moves ⊎ Lower j

  pub home_is_cell : (e : Action) → IsEvent p e → home p e < p.cells
  home_is_cell Halt h = absurd h
  home_is_cell Work h = absurd h
  home_is_cell (Write m) h = regular.ordered.sends m h
  home_is_cell (Read m) h = regular.ordered.receives m h

  pub done_is : (e : Action) → IsEvent p e → done e ≡ count e (take (s.place (home p e)) (actions (home p e)))
  done_is Halt h = absurd h
  done_is Work h = absurd h
  done_is (Write m) h = holds.ends.written m h
  done_is (Read m) h = holds.ends.read m h

  pub times_order : (e : Action) → IsEvent p e → count e order ≡ count e (actions (home p e))
  times_order e h =
      sym (count_part p (home p e) e refl order)
      ∙ ap (count e) (regular.ordered.is_order.each (home p e) (home_is_cell e h))
      ∙ count_events e (actions (home p e))

  pub so_far_more : (j : ℕ) → j < length order → so_far (event j) (suc j) ≡ suc (so_far (event j) j)
  so_far_more j l =
      omega (
        arith,
        count_more (event j) order j,
        same_self (event j) (event_is p (event j) (regular.ordered.known j l)),
      )

  -- an event that stands before a place more often than it was done is open at an earlier one
  pub record OpenBefore (e : Action) (j : ℕ) : Type 0 where
    pub place : ℕ
    pub before : place < j
    pub is : event place ≡ e
    pub is_open : Open place

  pub open_at : (e : Action) (j : ℕ) → done e < so_far e j → OpenBefore e j
  open_at e j h =
      let f : Found e order j (done e) = find_event e order j (done e) h in
      record {
        place = f.place;
        before = f.before;
        is = f.is;
        is_open = record {
          inside = f.inside;
          undone = subst (λ x. done x ≤ so_far x f.place) (sym f.is) (le_of_eq (sym f.so_far));
        };
      }

  -- where the next write or read of a cell stands
  pub record Head (c : ℕ) : Type 0 where
    pub place : ℕ
    pub inside : place < length order
    pub is : event place ≡ next actions s c
    pub past : part_of p c (take place order) ≡ events (take (s.place c) (actions c))

  pub head : (c : ℕ) → c < p.cells → is_event (next actions s c) ≡ true → Head c
  head c l t =
      let a = among_events (actions c) (s.place c) t in
      let each : part_of p c order ≡ events (actions c) = regular.ordered.is_order.each c l in
      let n : ℕ = length (events (take (s.place c) (actions c))) in
      let f = find_part p c order n (subst (λ r. n < length r) (sym each) a.inside) in
      record {
        place = f.place;
        inside = f.inside;
        is = f.is ∙ ap (λ r. get_or r n Halt) each ∙ a.is;
        past = f.so_far ∙ ap (take n) each ∙ a.so_far;
      }

  -- what was done of a cell's event is what stands of it before the cell's head
  pub head_done : (c : ℕ) (h : Head c) (e : Action) → IsEvent p e → home p e ≡ c → done e ≡ so_far e h.place
  head_done c h e known is =
      done_is e known
      ∙ ap (λ n. count e (take (s.place n) (actions n))) is
      ∙ sym (count_events e (take (s.place c) (actions c)))
      ∙ ap (count e) (sym h.past)
      ∙ count_part p c e is (take h.place order)

  pub own_event : (c : ℕ) (x : Action) → IsOwn p c x → is_event x ≡ true → IsEvent p x × (home p x ≡ c)
  own_event c Halt o t = absurd (cc)
  own_event c Work o t = absurd (cc)
  own_event c (Write m) o t = (o.0, o.1)
  own_event c (Read m) o t = (o.0, o.1)

  pub head_own : (c : ℕ) → c < p.cells → is_event (next actions s c) ≡ true
      → IsEvent p (next actions s c) × (home p (next actions s c) ≡ c)
  head_own c l t =
      elim (own_next p actions s c (shaped_of p actions d regular) l) [
        | inl halted ↦ absurd (true≢false (sym t ∙ ap is_event halted))
        | inr o ↦ own_event c (next actions s c) o.1 t
      ]

  pub head_open : (c : ℕ) → c < p.cells → is_event (next actions s c) ≡ true → (h : Head c) → Open h.place
  head_open c l t h =
      let own = head_own c l t in
      record {
        inside = h.inside;
        undone = le_of_eq
            (subst (λ x. done x ≡ so_far x h.place) (sym h.is) (head_done c h (next actions s c) own.0 own.1));
      }

  -- a cell that halts has done all
  pub halted_done : (e : Action) → IsEvent p e → next actions s (home p e) ≡ Halt → done e ≡ count e order
  halted_done e h halted =
      elim (cases_lt (s.place (home p e)) (length (actions (home p e)))) [
        | inl l ↦ absurd (subst (IsOwn p (home p e)) halted (regular.ordered.own (home p e) (s.place (home p e))
            (home_is_cell e h) l))
        | inr l ↦ done_is e h ∙ count_all e (actions (home p e)) (s.place (home p e)) l ∙ sym (times_order e h)
      ]

  pub open_home : (j : ℕ) → Open j → home p (event j) < p.cells
  open_home j o = home_is_cell (event j) (regular.ordered.known j o.inside)

  pub rises_in : (c : ℕ) → c < p.cells → Rises p (part_of p c order)
  rises_in c l = subst (Rises p) (sym (regular.ordered.is_order.each c l)) (regular.labels c l)

  -- the cell of an open event is at it, or its next event is a smaller open one
  pub event_next : (j : ℕ) → Open j → is_event (next actions s (home p (event j))) ≡ true
      → (next actions s (home p (event j)) ≡ event j) ⊎ Lower j
  event_next j o t =
      let c : ℕ = home p (event j) in
      let l : c < p.cells = open_home j o in
      let h : Head c = head c l t in
      let opened : Open h.place = head_open c l t h in
      let own = head_own c l t in
      elim (cases_order h.place j) [
        | inl same ↦ inl (sym h.is ∙ ap event same)
        | inr other ↦ elim other [
          | inl below ↦ inr (record {
            place = h.place;
            is_open = opened;
            before = inr (
              below,
              label_before p c order h.place j (rises_in c l) below o.inside (ap (home p) h.is ∙ own.1) refl,
            );
          })
          | inr above ↦ absurd (omega (
            arith,
            head_done c h (event j) (regular.ordered.known j o.inside) refl,
            o.undone,
            so_far_more j o.inside,
            count_within (event j) order (suc j) h.place above,
          ))
        ]
      ]

  -- the cell of an open event has a step, or is at it, or there is a smaller open one
  pub at_head : (j : ℕ) → Open j → (x : Action) → next actions s (home p (event j)) ≡ x
      → Advance j ⊎ (next actions s (home p (event j)) ≡ event j)
  at_head j o Halt known =
      absurd (omega (
        arith,
        halted_done (event j) (regular.ordered.known j o.inside) known,
        o.undone,
        so_far_more j o.inside,
        count_le (event j) order (suc j),
      ))
  at_head j o Work known =
      inl (inl (
        Cell (home p (event j)),
        (can_cell p actions cap s (home p (event j))).1 (open_home j o, ap (may_do p cap s.mark s.bound) known),
      ))
  at_head j o (Write m) known =
      elim (event_next j o (ap is_event known)) [ inl t ↦ inr t | inr t ↦ inl (inr t) ]
  at_head j o (Read m) known =
      elim (event_next j o (ap is_event known)) [ inl t ↦ inr t | inr t ↦ inl (inr t) ]
