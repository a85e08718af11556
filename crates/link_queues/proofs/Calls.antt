-- What each call does to the queues of the messages, and to the states that the queues stand for.
use Rattle.std.proofs.Common.{◌≡◌, ℕ, suc, pred, ◌<◌, Bool, true, false, cond, nat_eq, nat_lt, List, [], ◌∷◌, ◌++◌, None, is_some, length, drop, refl, sym, ap, subst, ◌∙◌, arith, inl, inr, ltb-true}
use Rattle.std.proofs.lemmas.Bool.{cases_Bool}
use Rattle.sys_base.specs.Held.{word_at}
use Rattle.sys_base.specs.declared.word.Word.{Word}
use Rattle.cell_code.specs.Marks.{hops, may_forward, may_read, may_write, message_of, raised_at}
use Rattle.cell_code.specs.Rows.{State}
use Rattle.array_model.specs.States.{ArrayState}
use Rattle.link_queues.specs.Fabrics.{Queues, draw, enter, forwarded, leave, oldest, popped, pushed, put_at, raise, release, slice, without_oldest}
use Rattle.link_queues.specs.Keeping.{IsHop, IsKept, Seats}
use Rattle.link_queues.specs.Standing.{StandsFor, advanced, written}
use Rattle.link_queues.proofs.Seats.{marks_seats, same_or_other}
use Rattle.link_queues.proofs.Shapes.{reaches}
use Rattle.link_queues.proofs.Slices.{enter_slice, leave_slice, put_other, put_same}
use Rattle.link_queues.proofs.Stands.{oldest_is, stands_moved, stands_read, stands_written}
use Rattle.link_queues.proofs.Steps.{goes, known, mark_after, moves, next_hop, push_sits, sits, sits_next, stays, this}

-- ---- a write

module _ (q : Queues) (kept : IsKept q) (m : ℕ) (word : Word) (l : m < length q.image.messages)
    (can : may_write q.image q.cap q.marks q.bound m ≡ true) where
  first : IsHop q.image m 0
  first = (l, reaches q.image kept.shaped m l)

  pub push_slices : (k j : ℕ) → IsHop q.image k j
      → slice (pushed q m word) k j ≡ put_at (slice q) m 0 (slice q m 0 ++ word ∷ []) k j
  push_slices k j g =
      let none : (i n : ℕ) → raised_at q.marks m 0 i (suc n) ≡ q.marks i (suc n) =
      λ i n. elim (mark_after q.marks m 0 i (suc n)) [ inl u ↦ absurd (omega (arith, u.1.0)) | inr u ↦ u.0 ]
      in
      let seats : Seats (raise q m 0) =
      marks_seats q (raised_at q.marks m 0) kept.seats (λ i n. ap (λ x. nat_lt x (message_of q.image i).length) (none i n))
      in
      enter_slice (raise q m 0) kept.shaped seats m 0 first (push_sits q kept m l can) word k j g

  pub push_stands : (s : ArrayState) (cell : ℕ → State) → StandsFor q s → StandsFor (pushed q m word) (written s cell m word)
  push_stands s cell st = stands_written q kept s st cell m word first (pushed q m word) refl refl refl push_slices

-- ---- a word that leaves a hop

-- what a word that leaves a hop leaves as it is
leave_field : {Y : Type 0} (f : Queues → Y) (q : Queues) (m hop : ℕ) → f (release (draw q m hop) m hop) ≡ f q
    → f (draw q m hop) ≡ f q → f (leave q m hop) ≡ f q
leave_field f q m hop a b = either (nat_eq (q.marks m (suc hop)) (message_of q.image m).length) where
  either : (t : Bool) → f (cond t (release (draw q m hop) m hop) (draw q m hop)) ≡ f q
  either true = a
  either false = b

module _ (q : Queues) (kept : IsKept q) (m : ℕ) (l : m < length q.image.messages)
    (can : may_read q.image q.marks m ≡ true) where
  abbrev hop : ℕ
  hop = pred (hops q.image m)

  last : suc (pred (hops q.image m)) ≡ hops q.image m
  last = omega (arith, reaches q.image kept.shaped m l)

  pub last_hop_is : IsHop q.image m (pred (hops q.image m))
  last_hop_is = (l, omega (arith, last))

  pub read_waits : q.marks m (suc (pred (hops q.image m))) < q.marks m (pred (hops q.image m))
  read_waits = subst (λ n. q.marks m n < q.marks m (pred (hops q.image m))) (sym last) (ltb-true _ _ can)

  pub leaves : popped q m ≡ leave (raise q m (suc hop)) m hop
  leaves = ap (λ n. leave (raise q m n) m hop) (sym last)

  pub pop_slices : (k j : ℕ) → IsHop q.image k j → slice (popped q m) k j ≡ without_oldest q m (pred (hops q.image m)) k j
  pop_slices k j g =
      ap (λ (r : Queues). slice r k j) leaves
      ∙ leave_slice q kept m hop last_hop_is read_waits (sits q kept m hop last_hop_is read_waits) k j g

  pub pop_image : (popped q m).image ≡ q.image
  pop_image = leave_field (λ (r : Queues). r.image) (raise q m (hops q.image m)) m hop refl refl

  pub pop_marks : (popped q m).marks ≡ raised_at q.marks m (hops q.image m)
  pop_marks = leave_field (λ (r : Queues). r.marks) (raise q m (hops q.image m)) m hop refl refl

  pub pop_bound : (popped q m).bound ≡ q.bound
  pop_bound = leave_field (λ (r : Queues). r.bound) (raise q m (hops q.image m)) m hop refl refl

  pub pop_reads : (s : ArrayState) → StandsFor q s
      → oldest q m (pred (hops q.image m)) ≡ word_at s.history m (s.marks m (hops q.image m))
  pop_reads s st =
      oldest_is q kept s st m hop last_hop_is read_waits ∙ ap (λ n. word_at s.history m (s.marks m n)) last

  pub pop_stands : (s : ArrayState) (cell : ℕ → State) → StandsFor q s
      → StandsFor (popped q m) (advanced s cell m (hops q.image m))
  pop_stands s cell st =
      subst (λ n. StandsFor (popped q m) (advanced s cell m n)) last
      (stands_read q kept s st m hop last_hop_is read_waits last cell (popped q m) pop_image
      (pop_marks ∙ ap (raised_at q.marks m) (sym last)) pop_bound pop_slices)

-- ---- a word that moves on

module _ (q : Queues) (kept : IsKept q) (m hop : ℕ) (can : may_forward q.image q.cap q.marks q.bound m hop ≡ true) where
  abbrev h : IsHop q.image m hop
  h = this q kept m hop can

  abbrev next : IsHop q.image m (suc hop)
  next = (known q kept m hop can, next_hop q kept m hop can)

  abbrev waiting : q.marks m (suc hop) < q.marks m hop
  waiting = moves q kept m hop can

  abbrev w : Word
  w = oldest q m hop

  abbrev either : Bool → Queues
  either b = cond b (release (draw (raise q m (suc hop)) m hop) m hop) (draw (raise q m (suc hop)) m hop)

  abbrev test : Bool
  test = nat_eq (raised_at q.marks m (suc hop) m (suc hop)) (message_of q.image m).length

  Comes : Bool → Type 0
  Comes b = (k j : ℕ) → IsHop q.image k j
      → slice (enter (either b) m (suc hop) w) k j
      ≡ put_at (slice (either b)) m (suc hop) (slice (either b) m (suc hop) ++ w ∷ []) k j

  comes : Comes test
  unfolding Comes
  comes =
      elim (cases_Bool test) [
        | inl t ↦
            let sits_there : is_some (put_at q.places m hop None m (suc hop)) ≡ true =
            ap is_some (put_other q.places m hop None m (suc hop) (λ a b. omega (arith, b))) ∙ sits_next q kept m hop can
            in
            subst Comes (sym t) (λ k j g.
            enter_slice (release (draw (raise q m (suc hop)) m hop) m hop) kept.shaped (goes q kept m hop h waiting t).seats m
            (suc hop) next sits_there w k j g)
        | inr t ↦
            subst Comes (sym t) (λ k j g.
            enter_slice (draw (raise q m (suc hop)) m hop) kept.shaped (stays q kept m hop h waiting t).seats m (suc hop) next
            (sits_next q kept m hop can) w k j g)
      ]

  left : (k j : ℕ) → IsHop q.image k j → slice (leave (raise q m (suc hop)) m hop) k j ≡ without_oldest q m hop k j
  left = leave_slice q kept m hop h waiting (sits q kept m hop h waiting)

  pub forward_slices : (k j : ℕ) → IsHop q.image k j → slice (forwarded q m hop) k j
      ≡ put_at (without_oldest q m hop) m (suc hop) (slice q m (suc hop) ++ oldest q m hop ∷ []) k j
  unfolding Comes
  forward_slices k j g =
      let r : Queues = leave (raise q m (suc hop)) m hop in
      let came : List Word = slice r m (suc hop) ++ w ∷ [] in
      let come : List Word = slice q m (suc hop) ++ w ∷ [] in
      comes k j g
      ∙ elim (same_or_other m k (suc hop) j) [
        | inl t ↦
            put_same (slice r) m (suc hop) came k j t.0 t.1.0
            ∙ ap (λ (ws : List Word). ws ++ w ∷ [])
            (left m (suc hop) next
            ∙ put_other (slice q) m hop (drop 1 (slice q m hop)) m (suc hop) (λ a b. omega (arith, b)))
            ∙ sym (put_same (without_oldest q m hop) m (suc hop) come k j t.0 t.1.0)
        | inr t ↦
            put_other (slice r) m (suc hop) came k j t.1 ∙ left k j g
            ∙ sym (put_other (without_oldest q m hop) m (suc hop) come k j t.1)
      ]

  moved_field : {Y : Type 0} (f : Queues → Y)
      → f (enter (release (draw (raise q m (suc hop)) m hop) m hop) m (suc hop) w) ≡ f (raise q m (suc hop))
      → f (enter (draw (raise q m (suc hop)) m hop) m (suc hop) w) ≡ f (raise q m (suc hop))
      → f (forwarded q m hop) ≡ f (raise q m (suc hop))
  moved_field f a b = each test where
    each : (t : Bool) → f (enter (either t) m (suc hop) w) ≡ f (raise q m (suc hop))
    each true = a
    each false = b

  pub forward_image : (forwarded q m hop).image ≡ q.image
  forward_image = moved_field (λ (r : Queues). r.image) refl refl

  pub forward_marks : (forwarded q m hop).marks ≡ raised_at q.marks m (suc hop)
  forward_marks = moved_field (λ (r : Queues). r.marks) refl refl

  pub forward_bound : (forwarded q m hop).bound ≡ q.bound
  forward_bound = moved_field (λ (r : Queues). r.bound) refl refl

  pub forward_stands : (s : ArrayState) → StandsFor q s
      → StandsFor (forwarded q m hop) (record s { marks = raised_at s.marks m (suc hop) })
  forward_stands s st =
      stands_moved q kept s st m hop h waiting (next_hop q kept m hop can) (forwarded q m hop) forward_image forward_marks
      forward_bound forward_slices
