-- Progress: in each state that a run of a regular array comes to, an open write or read leads to an actor with a step.
use Rattle.std.proofs.Common.{le-ltb, nat_lt, le_of_suc-le-suc, eq-or-lt_of_le, lt-ltb, ◌≡◌, ℕ, zero, suc, pred, max, ◌+◌, ◌<◌, ◌≤◌, true, false, ◌⊎◌, inl, inr, List, length, take, get_or, refl, sym, ap, subst, ◌∙◌, arith, le_of_eq}
use Rattle.std.proofs.lemmas.Bool.{cond-false, cases_Bool, cases_lt}
use Rattle.array_runs.specs.Frame.{Action, Halt, Work, Write, Read, Frame, hops, hop_on, link_at}
use Rattle.array_runs.specs.Orders.{same, KeepsBuffer, count, home, is_event}
use Rattle.array_runs.specs.Regular.{IsEvent, label_of}
use Rattle.array_runs.specs.Runs.{IsFinished}
use Rattle.array_runs.specs.States.{held, is_bound, is_live, live}
use Rattle.array_runs.specs.Steps.{may_do, next}
use Rattle.sys_base.specs.declared.actor.Actor.TheVariants.{Cell, Forward, Bind}
use Rattle.array_runs.proofs.Holding.{shaped_of}
use Rattle.array_runs.proofs.Allowed.{binds, can_cell, forwards, may_write}
use Rattle.array_runs.proofs.Bound.{written_at_most, falls_along}
use Rattle.array_runs.proofs.Counts.{one_at_self, same_tells, count_all, count_le, count_more}
use Rattle.array_runs.proofs.Descent.{descent}
use Rattle.array_runs.proofs.Groups.{InGroup, among_all, in_group, in_later, total_some}
use Rattle.array_runs.proofs.Heads.{Lower, Reached, Head, event, so_far, done, Open, label_at, Moves, Advance, times_order, so_far_more, open_at, head_open, at_head, head}

-- without a buffer, each message has at a write as many reads as writes before it
paired : (order : List Action) (m : ℕ) → KeepsBuffer 0 order → (j : ℕ)
    → (count (Write m) (take j order) ≤ count (Read m) (take j order))
    ⊎ ((get_or order j Halt ≡ Read m) × (count (Write m) (take j order) ≤ suc (count (Read m) (take j order))))
paired order m h zero = inl (omega arith)
paired order m h (suc j) =
    let ih : (count (Write m) (take j order) ≤ count (Read m) (take j order))
    ⊎ ((get_or order j Halt ≡ Read m) × (count (Write m) (take j order) ≤ suc (count (Read m) (take j order)))) =
    paired order m h j
    in
    let w = count_more (Write m) order j in
    let r = count_more (Read m) order j in
    elim (same_tells (Write m) (get_or order j Halt)) [
      | inl z ↦ elim ih [
        | inl a ↦ inl (omega arith)
        | inr b ↦ inl (omega (arith, b.1, r, ap (same (Read m)) b.0, one_at_self m))
      ]
      | inr t ↦ elim ih [
        | inl a ↦ inr (h j m (sym t.1), omega (arith, t.0))
        | inr b ↦ absurd (cc (t.1, b.0))
      ]
    ]

-- with the greatest capacity that is asked for, a write always finds its buffer not full
room_at : (order : List Action) (d m j : ℕ) → KeepsBuffer d order → get_or order j Halt ≡ Write m
    → count (Write m) (take j order) < count (Read m) (take j order) + max 1 d
room_at order zero m j h e =
    elim (paired order m h j) [ inl a ↦ omega (arith, a) | inr b ↦ absurd (cc (e, b.0)) ]
room_at order (suc d) m j h e =
    omega (
      arith,
      h (suc j) m,
      count_more (Write m) order j,
      count_more (Read m) order j,
      ap (same (Write m)) e,
      ap (same (Read m)) e,
      one_at_self m,
    )

live_tells : (p : Frame) (k : ℕ → ℕ → ℕ) (l m : ℕ) → 0 < is_live p k l m → k m (suc (hop_on p l m)) < p.words m
live_tells p k l m h =
    elim (cases_lt (k m (suc (hop_on p l m))) (p.words m)) [
      | inl t ↦ t
      | inr t ↦ absurd (omega (
        arith,
        cond-false {A = ℕ} (nat_lt (k m (suc (hop_on p l m))) (p.words m)) 1 0 (le-ltb _ _ t),
      ))
    ]

pred_up : (n i : ℕ) → n ≡ suc i → i ≡ pred n
pred_up n i e = omega arith

module _ (r : Reached) where
  open r use {p, actions, d, cap, regular, enough, s, holds}

  -- a message with a word that was not read has an open read
  record OpenRead (m : ℕ) : Type 0 where
    place : ℕ
    is : event r place ≡ Read m
    is_open : Open r place

  unread : (m : ℕ) → m < p.messages → s.mark m (hops p m) < p.words m → OpenRead m
  unread m l h =
      let all : so_far r (Read m) (length regular.ordered.order) ≡ count (Read m) regular.ordered.order =
      count_all (Read m) regular.ordered.order (length regular.ordered.order) (omega arith)
      in
      let o = open_at r (Read m) (length regular.ordered.order)
      (omega (arith, all, regular.ordered.is_order.whole m, times_order r (Write m) l, regular.counted m l))
      in
      record { place = o.place; is = o.is; is_open = o.is_open }

  -- a live message of a link: it is in a group that is bound, and has an open read
  record Blocker (l : ℕ) : Type 0 where
    message : ℕ
    found : InGroup message (p.groups l)
    bound : found.group < s.bound l
    unread_word : OpenRead message

  blocker : (l : ℕ) → 0 < live p s.mark s.bound l → Blocker l
  blocker l some =
      let x = total_some (is_live p s.mark l) (held p l (s.bound l)) some in
      let g = in_group x.0 (p.groups l) (s.bound l) x.1 in
      let known = regular.grouped.member l x.0 (among_all x.0 (p.groups l) g.0.group g.0.is) in
      let left : s.mark x.0 (suc (hop_on p l x.0)) < p.words x.0 = live_tells p s.mark l x.0 x.2 in
      let falls : s.mark x.0 (hops p x.0) ≤ s.mark x.0 (suc (hop_on p l x.0)) =
      falls_along p cap s.mark s.bound holds.flows x.0 _ _ known.0 known.1.1.0 (omega arith)
      in
      record { message = x.0; found = g.0; bound = g.1; unread_word = unread x.0 known.0 (omega (arith, falls, left)) }

  -- Where a hop of a message is not bound, its link has a step, or a message that is live there has a lower label and
  -- an open read.
  unbound : (j m i : ℕ) → label_of p (event r j) ≡ p.label m → m < p.messages → 0 < p.words m → i < hops p m
      → is_bound p s.bound m i ≡ false → Advance r j
  unbound j m i same l words hop shut =
      let k : ℕ = link_at p m i in
      let later = in_later m (p.groups k) (s.bound k) (regular.grouped.grouped m i l words hop) shut in
      let left : s.bound k < length (p.groups k) = omega (arith, later.0.inside, later.1) in
      elim (cases_lt 0 (live p s.mark s.bound k)) [
        | inl some ↦
            let b : Blocker k = blocker k some in
            let lower : p.label b.message < p.label m =
            regular.grouped.rising k b.found.group later.0.group b.message m (omega (
              arith,
              later.1,
            )) b.found.is later.0.is
            in
            let read = ap (label_of p) b.unread_word.is in
            inr (record {
              place = b.unread_word.place;
              is_open = b.unread_word.is_open;
              before = inl (omega (arith, lower, same, read));
            })
        | inr none ↦
            inl (
              Bind k,
              (binds p s.mark s.bound k).1
                  (regular.routed.linked m i l hop, (left, omega (arith, regular.grouped.fits k (s.bound k) left))),
            )
      ]

  -- every hop of a message is bound, or there is an advance
  all_bound : (j m : ℕ) → label_of p (event r j) ≡ p.label m → m < p.messages → 0 < p.words m → (n : ℕ) → n ≤ hops p m
      → Advance r j ⊎ ((i : ℕ) → i < n → is_bound p s.bound m i ≡ true)
  all_bound j m same l words zero h = inr (λ i g. absurd (omega arith))
  all_bound j m same l words (suc n) h =
      let ih : Advance r j ⊎ ((i : ℕ) → i < n → is_bound p s.bound m i ≡ true) =
      all_bound j m same l words n (omega arith)
      in
      elim ih [
        | inl a ↦ inl a
        | inr b ↦ elim (cases_Bool (is_bound p s.bound m n)) [
          | inl t ↦ inr (λ i g. elim (eq-or-lt_of_le (le_of_suc-le-suc g)) [
            | inl e ↦ subst (λ a. is_bound p s.bound m a ≡ true) (sym e) t
            | inr e ↦ b i e
          ])
          | inr f ↦ inl (unbound j m n same l words (omega arith) f)
        ]
      ]

  -- An unread word at a hop goes on or is read, where all hops are bound and the receiver is at a read of the message.
  flows_on : (m : ℕ) → m < p.messages → next actions s (p.receiver m) ≡ Read m
      → ((i : ℕ) → i < hops p m → is_bound p s.bound m i ≡ true) → (n i : ℕ) → hops p m ≡ suc (n + i)
      → s.mark m (hops p m) < s.mark m i → Moves r
  flows_on m l at all zero i e h = (
    Cell (p.receiver m),
    (can_cell p actions cap s (p.receiver m)).1 (
      regular.ordered.receives m l,
      ap (may_do p cap s.mark s.bound) at
          ∙ lt-ltb _ _ (subst (λ n. s.mark m (hops p m) < s.mark m n) (pred_up (hops p m) i (omega arith)) h),
    ),
  )
  flows_on m l at all (suc n) i e h =
      let more : s.mark m (hops p m) < s.mark m (suc i) → Moves r = flows_on m l at all n (suc i) (omega arith) in
      elim (cases_lt (s.mark m (hops p m)) (s.mark m (suc i))) [
        | inl g ↦ more g
        | inr g ↦
            let hop : suc i < hops p m = omega arith in
            let falls = falls_along p cap s.mark s.bound holds.flows m (suc (suc i)) (hops p m) l (omega arith)
            (omega arith) in (
              Forward m i,
              (forwards p cap s.mark s.bound m i).1
                  (l, (hop, (omega arith, (all (suc i) hop, omega (arith, falls))))),
            )
      ]

  -- at an open read the word was written, or there is a smaller open event, its write
  written_first : (j m : ℕ) → Open r j → event r j ≡ Read m → (s.mark m (hops p m) < s.mark m 0) ⊎ Lower r j
  written_first j m o e =
      elim (cases_lt (s.mark m (hops p m)) (s.mark m 0)) [
        | inl l ↦ inl l
        | inr l ↦
            let more : so_far r (Read m) (suc j) ≡ suc (so_far r (Read m) j) =
            subst (λ x. so_far r x (suc j) ≡ suc (so_far r x j)) e (so_far_more r j o.inside)
            in
            let undone : s.mark m (hops p m) ≤ so_far r (Read m) j = subst (λ x. done r x ≤ so_far r x j) e o.undone in
            let b = open_at r (Write m) j
            (omega (
              arith,
              regular.ordered.is_order.prefix (suc j) m,
              count_more (Write m) regular.ordered.order j,
              ap (same (Write m)) e,
              more,
              undone,
            ))
            in
            inr (record {
              place = b.place;
              is_open = b.is_open;
              before = inr (b.before, le_of_eq (ap (label_of p) b.is ∙ sym (ap (label_of p) e)));
            })
      ]

  -- at an open write the first queue has room, or there is a smaller open event, a read of the message
  room_first : (j m : ℕ) → m < p.messages → Open r j → event r j ≡ Write m → (s.mark m 0 < s.mark m 1 + cap) ⊎ Lower r j
  room_first j m l o e =
      elim (cases_lt (s.mark m 0) (s.mark m 1 + cap)) [
        | inl g ↦ inl g
        | inr g ↦
            let undone : s.mark m 0 ≤ so_far r (Write m) j = subst (λ x. done r x ≤ so_far r x j) e o.undone in
            let room = room_at regular.ordered.order d m j regular.ordered.is_order.kept e in
            let falls =
            falls_along p cap s.mark s.bound holds.flows m 1 (hops p m) l (regular.routed.reaches m l) (omega arith)
            in
            let b = open_at r (Read m) j (omega (arith, undone, room, falls, enough)) in
            inr (record {
              place = b.place;
              is_open = b.is_open;
              before = inr (b.before, le_of_eq (ap (label_of p) b.is ∙ sym (ap (label_of p) e)));
            })
      ]

  -- an open write, with its cell at it
  at_write : (j m : ℕ) → Open r j → event r j ≡ Write m → m < p.messages → next actions s (p.sender m) ≡ Write m
      → Advance r j
  at_write j m o e l at =
      let undone : s.mark m 0 ≤ so_far r (Write m) j = subst (λ x. done r x ≤ so_far r x j) e o.undone in
      let more : so_far r (Write m) (suc j) ≡ suc (so_far r (Write m) j) =
      subst (λ x. so_far r x (suc j) ≡ suc (so_far r x j)) e (so_far_more r j o.inside)
      in
      let left : s.mark m 0 < p.words m =
      omega (
        arith,
        undone,
        more,
        count_le (Write m) regular.ordered.order (suc j),
        times_order r (Write m) l,
        regular.counted m l,
      )
      in
      elim (all_bound j m (ap (label_of p) e) l (omega arith) (hops p m) (omega arith)) [
        | inl a ↦ a
        | inr bound ↦ elim (room_first j m l o e) [
          | inl room ↦ inl (
            Cell (p.sender m),
            (can_cell p actions cap s (p.sender m)).1 (
              regular.ordered.sends m l,
              ap (may_do p cap s.mark s.bound) at
                  ∙ (may_write p cap s.mark s.bound m).1 (bound 0 (regular.routed.reaches m l), (left, room)),
            ),
          )
          | inr smaller ↦ inr smaller
        ]
      ]

  -- an open read, with its cell at it
  at_read : (j m : ℕ) → Open r j → event r j ≡ Read m → m < p.messages → next actions s (p.receiver m) ≡ Read m
      → Advance r j
  at_read j m o e l at =
      elim (written_first j m o e) [
        | inl unread_word ↦
            let some : 0 < p.words m =
            omega (arith, unread_word, written_at_most p actions cap (shaped_of p actions d regular) s holds m l)
            in
            elim (all_bound j m (ap (label_of p) e) l some (hops p m) (omega arith)) [
              | inl a ↦ a
              | inr bound ↦ inl (flows_on m l at bound (pred (hops p m)) 0 (omega (
                arith,
                regular.routed.reaches m l,
              )) unread_word)
            ]
        | inr smaller ↦ inr smaller
      ]

  at_event : (j : ℕ) → Open r j → (x : Action) → event r j ≡ x → IsEvent p x → next actions s (home p x) ≡ x
      → Advance r j
  at_event j o Halt e known at = absurd known
  at_event j o Work e known at = absurd known
  at_event j o (Write m) e known at = at_write j m o e known at
  at_event j o (Read m) e known at = at_read j m o e known at

  advance : (j : ℕ) → Open r j → Advance r j
  advance j o =
      elim (at_head r j o (next actions s (home p (event r j))) refl) [
        | inl a ↦ a
        | inr at ↦ at_event j o (event r j) refl (regular.ordered.known j o.inside) at
      ]

  open_moves : (j : ℕ) → Open r j → Moves r
  open_moves = descent (Open r) (label_at r) (Moves r) advance

  -- a cell that has not halted
  not_halted : (c : ℕ) → c < p.cells → (x : Action) → next actions s c ≡ x → (x ≡ Halt) ⊎ Moves r
  not_halted c l Halt e = inl refl
  not_halted c l Work e =
      inr (Cell c, (can_cell p actions cap s c).1 (l, ap (may_do p cap s.mark s.bound) e))
  not_halted c l (Write m) e =
      let h : Head r c = head r c l (ap is_event e) in inr (open_moves h.place (head_open r c l (ap is_event e) h))
  not_halted c l (Read m) e =
      let h : Head r c = head r c l (ap is_event e) in inr (open_moves h.place (head_open r c l (ap is_event e) h))

  finished_below : (n : ℕ) → n ≤ p.cells → ((c : ℕ) → c < n → next actions s c ≡ Halt) ⊎ Moves r
  finished_below zero h = inl (λ c l. absurd (omega arith))
  finished_below (suc n) h =
      let ih : ((c : ℕ) → c < n → next actions s c ≡ Halt) ⊎ Moves r = finished_below n (omega arith) in
      elim ih [
        | inl f ↦ elim (not_halted n h (next actions s n) refl) [
          | inl t ↦ inl (λ c l. elim (eq-or-lt_of_le (le_of_suc-le-suc l)) [
            | inl e ↦ subst (λ a. next actions s a ≡ Halt) (sym e) t
            | inr e ↦ f c e
          ])
          | inr m ↦ inr m
        ]
        | inr m ↦ inr m
      ]

  pub progress : IsFinished p actions s ⊎ Moves r
  progress = finished_below p.cells (omega arith)
