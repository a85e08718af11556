-- The states that the queues stand for after each call.
use Rattle.std.proofs.Common.{◌≡◌, ℕ, zero, suc, ◌+◌, ◌<◌, ◌≤◌, false, cond, nat_eq, List, [], ◌∷◌, ◌++◌, length, get_or, drop, pos, slice_range, refl, sym, ap, subst, ◌∙◌, arith, inl, inr, length-append, eq-eqb, eqb-true}
use Rattle.std.proofs.lemmas.Bool.{both_ways, cases_Bool}
use Rattle.sys_base.specs.Held.{word_at}
use Rattle.sys_base.specs.declared.word.Word.{Word}
use Rattle.sys_base.specs.declared.word.Word.TheVariants.{Num}
use Rattle.array_runs.proofs.Slices.{slice_comes, slice_leaves, slice_stays, slice_written}
use Rattle.cell_code.specs.Marks.{Marks, hops, queue, raised_at}
use Rattle.cell_code.specs.Rows.{State}
use Rattle.link_slots.specs.Slots.{words_at}
use Rattle.array_model.specs.States.{ArrayState}
use Rattle.array_model.specs.Steps.{put}
use Rattle.link_queues.specs.Fabrics.{Queues, oldest, put_at, seat, slice, slice_of, slots_at, without_oldest}
use Rattle.link_queues.specs.Keeping.{IsHop, IsKept}
use Rattle.link_queues.specs.Standing.{StandsFor, advanced, written}
use Rattle.link_queues.proofs.Seats.{same_or_other}
use Rattle.link_queues.proofs.Slices.{put_other, put_same}
use Rattle.link_queues.proofs.Steps.{is_seat, mark_after}

-- the same part of the same list
same_range : (xs ys : List Word) (a b c d : ℕ) → xs ≡ ys → a ≡ c → b ≡ d → slice_range xs a b ≡ slice_range ys c d
same_range xs ys a b c d e f g =
    ap (λ (zs : List Word). slice_range zs a b) e ∙ ap (λ n. slice_range ys n b) f ∙ ap (λ n. slice_range ys c n) g

-- what a table has after a write at one number
put_here : {A : Type 0} (f : ℕ → A) (m : ℕ) (x : A) (k : ℕ) → m ≡ k → put f m x k ≡ x
put_here f m x k e = ap (λ b. cond b x (f k)) (eq-eqb m k e)

put_there : {A : Type 0} (f : ℕ → A) (m : ℕ) (x : A) (k : ℕ) → nat_eq m k ≡ false → put f m x k ≡ f k
put_there f m x k e = ap (λ b. cond b x (f k)) e

module _ (q : Queues) (kept : IsKept q) (s : ArrayState) (st : StandsFor q s) where
  falls : (m hop : ℕ) → IsHop q.image m hop → s.marks m (suc hop) ≤ s.marks m hop
  falls m hop h = subst (λ (f : Marks). f m (suc hop) ≤ f m hop) (sym st.marks) (kept.flows.falls m hop h)

  -- no mark is above the number of words that were written
  below_end : (m hop : ℕ) → m < length q.image.messages → hop ≤ hops q.image m → s.marks m hop ≤ length (s.history m)
  below_end m zero l h = omega (arith, st.long m)
  below_end m (suc hop) l h = omega (arith, below_end m hop l (omega (arith, h)), falls m hop (l, omega (arith, h)))

  -- the oldest word is the next one of all that were written
  pub oldest_is : (m hop : ℕ) → IsHop q.image m hop → q.marks m (suc hop) < q.marks m hop
      → oldest q m hop ≡ word_at s.history m (s.marks m (suc hop))
  oldest_is m hop h waiting =
      let blank : Word = Num (pos 0) in
      let w : s.marks m (suc hop) < s.marks m hop =
      subst (λ (f : Marks). f m (suc hop) < f m hop) (sym st.marks) waiting
      in
      let mine : slice q m hop ≡ words_at (slots_at q m hop) (seat q m hop) =
      ap (slice_of (slots_at q m hop)) (is_seat q kept m hop h waiting)
      in
      ap (λ (ws : List Word). get_or ws 0 blank)
      (sym mine ∙ st.slices m hop h
      ∙ slice_leaves (s.history m) (s.marks m (suc hop)) (s.marks m hop) blank w (below_end m hop h.0 (omega (arith, h.1))))

  -- ---- a write

  module _ (cell : ℕ → State) (m : ℕ) (word : Word) (h : IsHop q.image m 0) where
    abbrev w : ArrayState
    w = written s cell m word

    long_after : (k : ℕ) → length (w.history k) ≡ w.marks k 0
    long_after k =
        elim (cases_Bool (nat_eq m k)) [
          | inl t ↦
              let same : m ≡ k = eqb-true m k t in
              let long : length (w.history k) ≡ length (s.history m) + 1 =
              ap length (put_here s.history m (s.history m ++ word ∷ []) k same) ∙ length-append (s.history m) (word ∷ [])
              in
              elim (mark_after s.marks m 0 k 0) [
                | inl u ↦ omega (arith, long, u.1.1, st.long k, ap (λ n. length (s.history n)) same)
                | inr u ↦ absurd (u.1 same refl)
              ]
          | inr t ↦
              let long : length (w.history k) ≡ length (s.history k) =
              ap length (put_there s.history m (s.history m ++ word ∷ []) k t)
              in
              elim (mark_after s.marks m 0 k 0) [
                | inl u ↦ absurd (both_ways _ t (eq-eqb m k u.0))
                | inr u ↦ omega (arith, long, u.0, st.long k)
              ]
        ]

    later : (k j : ℕ) → w.marks k (suc j) ≡ s.marks k (suc j)
    later k j = elim (mark_after s.marks m 0 k (suc j)) [ inl u ↦ absurd (omega (arith, u.1.0)) | inr u ↦ u.0 ]

    queue_here : queue w.history w.marks m 0 ≡ queue s.history s.marks m 0 ++ word ∷ []
    queue_here =
        let first : w.marks m 0 ≡ suc (length (s.history m)) =
        elim (mark_after s.marks m 0 m 0) [
          | inl u ↦ omega (arith, u.1.1, st.long m)
          | inr u ↦ absurd (u.1 refl refl)
        ]
        in
        let before : s.marks m 1 ≤ length (s.history m) = below_end m 1 h.0 (omega (arith, h.1)) in
        same_range (w.history m) (s.history m ++ word ∷ []) (w.marks m 1) (w.marks m 0) (s.marks m 1)
        (suc (length (s.history m))) (put_here s.history m (s.history m ++ word ∷ []) m refl) (later m 0) first
        ∙ slice_written (s.history m) (s.marks m 1) word before
        ∙ ap (λ n. slice_range (s.history m) (s.marks m 1) n ++ word ∷ []) (st.long m)

    queue_there : (k j : ℕ) → IsHop q.image k j → ((m ≡ k) → (0 ≡ j) → ⊥)
        → queue w.history w.marks k j ≡ queue s.history s.marks k j
    queue_there k j g off =
        let mark : w.marks k j ≡ s.marks k j =
        elim (mark_after s.marks m 0 k j) [ inl u ↦ absurd (off u.0 u.1.0) | inr u ↦ u.0 ]
        in
        elim (cases_Bool (nat_eq m k)) [
          | inl t ↦
              let same : m ≡ k = eqb-true m k t in
              let all : w.history k ≡ s.history k ++ word ∷ [] =
              put_here s.history m (s.history m ++ word ∷ []) k same ∙ ap (λ n. s.history n ++ word ∷ []) same
              in
              same_range (w.history k) (s.history k ++ word ∷ []) (w.marks k (suc j)) (w.marks k j) (s.marks k (suc j))
              (s.marks k j) all (later k j) mark
              ∙ slice_stays (s.history k) (s.marks k (suc j)) (s.marks k j) word (falls k j g)
              (below_end k j g.0 (omega (arith, g.1)))
          | inr t ↦
              same_range (w.history k) (s.history k) (w.marks k (suc j)) (w.marks k j) (s.marks k (suc j)) (s.marks k j)
              (put_there s.history m (s.history m ++ word ∷ []) k t) (later k j) mark
        ]

    pub stands_written : (q2 : Queues) → q2.image ≡ q.image → q2.marks ≡ raised_at q.marks m 0 → q2.bound ≡ q.bound
        → ((k j : ℕ) → IsHop q.image k j → slice q2 k j ≡ put_at (slice q) m 0 (slice q m 0 ++ word ∷ []) k j)
        → StandsFor q2 w
    stands_written q2 a b c d =
        record {
          marks = ap (λ (f : Marks). raised_at f m 0) st.marks ∙ sym b;
          bound = st.bound ∙ sym c;
          long = long_after;
          slices = λ k j g.
              let g2 : IsHop q.image k j = subst (λ i. IsHop i k j) a g in
              elim (same_or_other m k 0 j) [
                | inl t ↦
                    d k j g2 ∙ put_same (slice q) m 0 (slice q m 0 ++ word ∷ []) k j t.0 t.1.0
                    ∙ ap (λ (ws : List Word). ws ++ word ∷ []) (st.slices m 0 h) ∙ sym queue_here
                    ∙ ap (λ n. queue w.history w.marks n 0) t.0 ∙ ap (queue w.history w.marks k) t.1.0
                | inr t ↦
                    d k j g2 ∙ put_other (slice q) m 0 (slice q m 0 ++ word ∷ []) k j t.1 ∙ st.slices k j g2
                    ∙ sym (queue_there k j g2 t.1)
              ];
        }

  -- ---- a word that leaves a hop

  module _ (m hop : ℕ) (h : IsHop q.image m hop) (waiting : q.marks m (suc hop) < q.marks m hop) where
    abbrev n : Marks
    n = raised_at s.marks m (suc hop)

    more : n m (suc hop) ≡ suc (s.marks m (suc hop))
    more = elim (mark_after s.marks m (suc hop) m (suc hop)) [ inl u ↦ omega (arith, u.1.1) | inr u ↦ absurd (u.1 refl refl) ]

    same : (k j : ℕ) → ((m ≡ k) → (suc hop ≡ j) → ⊥) → n k j ≡ s.marks k j
    same k j off = elim (mark_after s.marks m (suc hop) k j) [ inl u ↦ absurd (off u.0 u.1.0) | inr u ↦ u.0 ]

    waits_there : s.marks m (suc hop) < s.marks m hop
    waits_there = subst (λ (f : Marks). f m (suc hop) < f m hop) (sym st.marks) waiting

    queue_left : queue s.history n m hop ≡ drop 1 (queue s.history s.marks m hop)
    queue_left =
        let end : s.marks m hop ≤ length (s.history m) = below_end m hop h.0 (omega (arith, h.1)) in
        same_range (s.history m) (s.history m) (n m (suc hop)) (n m hop) (suc (s.marks m (suc hop))) (s.marks m hop) refl more
        (same m hop (λ a b. omega (arith, b)))
        ∙ sym (ap (drop 1)
        (slice_leaves (s.history m) (s.marks m (suc hop)) (s.marks m hop) (Num (pos 0)) waits_there end))

    queue_next : suc hop < hops q.image m → queue s.history n m (suc hop)
        ≡ queue s.history s.marks m (suc hop) ++ word_at s.history m (s.marks m (suc hop)) ∷ []
    queue_next g =
        let end : s.marks m hop ≤ length (s.history m) = below_end m hop h.0 (omega (arith, h.1)) in
        same_range (s.history m) (s.history m) (n m (suc (suc hop))) (n m (suc hop)) (s.marks m (suc (suc hop)))
        (suc (s.marks m (suc hop))) refl (same m (suc (suc hop)) (λ a b. omega (arith, b))) more
        ∙ slice_comes (s.history m) (s.marks m (suc (suc hop))) (s.marks m (suc hop)) (Num (pos 0))
        (falls m (suc hop) (h.0, g)) (omega (arith, end, waits_there))

    queue_stays : (k j : ℕ) → ((m ≡ k) → (hop ≡ j) → ⊥) → ((m ≡ k) → (suc hop ≡ j) → ⊥)
        → queue s.history n k j ≡ queue s.history s.marks k j
    queue_stays k j a b =
        same_range (s.history k) (s.history k) (n k (suc j)) (n k j) (s.marks k (suc j)) (s.marks k j) refl
        (same k (suc j) (λ e f. a e (omega (arith, f)))) (same k j b)

    -- it is read
    pub stands_read : suc hop ≡ hops q.image m → (cell : ℕ → State) (q2 : Queues) → q2.image ≡ q.image
        → q2.marks ≡ raised_at q.marks m (suc hop) → q2.bound ≡ q.bound
        → ((k j : ℕ) → IsHop q.image k j → slice q2 k j ≡ without_oldest q m hop k j)
        → StandsFor q2 (advanced s cell m (suc hop))
    stands_read last cell q2 a b c d =
        record {
          marks = ap (λ (f : Marks). raised_at f m (suc hop)) st.marks ∙ sym b;
          bound = st.bound ∙ sym c;
          long = λ k. st.long k ∙ sym (same k 0 (λ e f. omega (arith, f)));
          slices = λ k j g.
              let g2 : IsHop q.image k j = subst (λ i. IsHop i k j) a g in
              elim (same_or_other m k hop j) [
                | inl t ↦
                    d k j g2 ∙ put_same (slice q) m hop (drop 1 (slice q m hop)) k j t.0 t.1.0
                    ∙ ap (drop 1) (st.slices m hop h) ∙ sym queue_left
                    ∙ ap (λ i. queue s.history n i hop) t.0 ∙ ap (queue s.history n k) t.1.0
                | inr t ↦
                    let past : (m ≡ k) → (suc hop ≡ j) → ⊥ =
                    λ e f. omega (arith, last, f, g2.1, ap (hops q.image) e)
                    in
                    d k j g2 ∙ put_other (slice q) m hop (drop 1 (slice q m hop)) k j t.1 ∙ st.slices k j g2
                    ∙ sym (queue_stays k j t.1 past)
              ];
        }

    -- it moves on
    pub stands_moved : suc hop < hops q.image m → (q2 : Queues) → q2.image ≡ q.image
        → q2.marks ≡ raised_at q.marks m (suc hop) → q2.bound ≡ q.bound
        → ((k j : ℕ) → IsHop q.image k j → slice q2 k j
        ≡ put_at (without_oldest q m hop) m (suc hop) (slice q m (suc hop) ++ oldest q m hop ∷ []) k j)
        → StandsFor q2 (record s { marks = raised_at s.marks m (suc hop) })
    stands_moved next q2 a b c d =
        record {
          marks = ap (λ (f : Marks). raised_at f m (suc hop)) st.marks ∙ sym b;
          bound = st.bound ∙ sym c;
          long = λ k. st.long k ∙ sym (same k 0 (λ e f. omega (arith, f)));
          slices = λ k j g.
              let g2 : IsHop q.image k j = subst (λ i. IsHop i k j) a g in
              let come : List Word = slice q m (suc hop) ++ oldest q m hop ∷ [] in
              elim (same_or_other m k (suc hop) j) [
                | inl t ↦
                    d k j g2 ∙ put_same (without_oldest q m hop) m (suc hop) come k j t.0 t.1.0
                    ∙ ap (λ (ws : List Word). ws ++ oldest q m hop ∷ []) (st.slices m (suc hop) (h.0, next))
                    ∙ ap (λ (x : Word). queue s.history s.marks m (suc hop) ++ x ∷ []) (oldest_is m hop h waiting)
                    ∙ sym (queue_next next)
                    ∙ ap (λ i. queue s.history n i (suc hop)) t.0 ∙ ap (queue s.history n k) t.1.0
                | inr u ↦ elim (same_or_other m k hop j) [
                  | inl t ↦
                      d k j g2 ∙ put_other (without_oldest q m hop) m (suc hop) come k j u.1
                      ∙ put_same (slice q) m hop (drop 1 (slice q m hop)) k j t.0 t.1.0
                      ∙ ap (drop 1) (st.slices m hop h) ∙ sym queue_left
                      ∙ ap (λ i. queue s.history n i hop) t.0 ∙ ap (queue s.history n k) t.1.0
                  | inr t ↦
                      d k j g2 ∙ put_other (without_oldest q m hop) m (suc hop) come k j u.1
                      ∙ put_other (slice q) m hop (drop 1 (slice q m hop)) k j t.1 ∙ st.slices k j g2
                      ∙ sym (queue_stays k j t.1 u.1)
                ]
              ];
        }
