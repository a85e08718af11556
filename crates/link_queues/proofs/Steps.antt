-- What each call keeps.
use Rattle.std.proofs.Common.{◌≡◌, ◌≢◌, ℕ, zero, suc, pred, ◌+◌, ◌<◌, ◌≤◌, ◌⊎◌, Bool, true, false, cond, ◌&&◌, nat_eq, nat_lt, List, [], ◌∷◌, ◌++◌, Option, Some, None, is_some, unwrap_or, length, drop, refl, sym, ap, subst, ◌∙◌, arith, inl, inr, length-append, length-drop, eq-eqb, eqb-true, lt-ltb, ltb-true}
use Rattle.std.proofs.lemmas.Bool.{and_from, and_parts, both_ways, cases_Bool, cases_lt, false_from_ne_true}
use Rattle.std.proofs.lemmas.List.{nil_from_length}
use Rattle.std.proofs.lemmas.Option.{none-some}
use Rattle.sys_base.specs.declared.word.Word.{Word}
use Rattle.cell_code.specs.Marks.{Marks, has_room, has_word, hops, is_bound, link_at, may_forward, may_write, message_of, one_at, raised_at}
use Rattle.link_slots.specs.Slots.{slot_at, words_at}
use Rattle.link_slots.specs.declared.slot.Slot.{Slot}
use Rattle.link_queues.specs.Fabrics.{Queues, draw, enter, leave, pushed, put_at, raise, release, seat, slots_at}
use Rattle.link_queues.specs.Keeping.{Flows, IsHop, IsKept, Seats}
use Rattle.link_queues.proofs.Seats.{field_kept, marks_seats, release_seats, same_or_other, words_after, words_seats}
use Rattle.link_queues.proofs.Shapes.{reaches}

lt_from_ne : (a b : ℕ) → a ≤ b → a ≢ b → a < b
lt_from_ne a b l n = elim (cases_lt a b) [ inl t ↦ t | inr t ↦ absurd (n (omega (arith, l, t))) ]

-- a mark after one more word has come to a hop
pub mark_after : (marks : Marks) (m r k j : ℕ) → ((m ≡ k) × ((r ≡ j) × (raised_at marks m r k j ≡ marks k j + 1)))
    ⊎ ((raised_at marks m r k j ≡ marks k j) × ((m ≡ k) → (r ≡ j) → ⊥))
mark_after marks m r k j =
    elim (cases_Bool (nat_eq m k)) [
      | inl t ↦ elim (cases_Bool (nat_eq r j)) [
        | inl u ↦
            let more : raised_at marks m r k j ≡ marks k j + 1 =
            ap (λ b. marks k j + cond b (one_at r j) 0) t ∙ ap (λ b. marks k j + cond {A = ℕ} b 1 0) u
            in
            inl (eqb-true m k t, (eqb-true r j u, more))
        | inr u ↦
            let none : raised_at marks m r k j ≡ marks k j + 0 =
            ap (λ b. marks k j + cond b (one_at r j) 0) t ∙ ap (λ b. marks k j + cond {A = ℕ} b 1 0) u
            in
            inr (omega (arith, none), λ a b. both_ways _ u (eq-eqb r j b))
      ]
      | inr t ↦
          let none : raised_at marks m r k j ≡ marks k j + 0 = ap (λ b. marks k j + cond b (one_at r j) 0) t in
          inr (omega (arith, none), λ a b. both_ways _ t (eq-eqb m k a))
    ]

-- a place that is some place
pub seated : (q : Queues) (m hop : ℕ) → is_some (q.places m hop) ≡ true → q.places m hop ≡ Some (seat q m hop)
seated q m hop h = is_there (q.places m hop) h where
  is_there : (o : Option ℕ) → is_some o ≡ true → o ≡ Some (unwrap_or o 0)
  is_there None h = absurd (cc)
  is_there (Some x) h = refl

-- ---- one more word at a hop

-- A word may come to a hop of a message: to the first one where a word is left, to each other one and to the receiver
-- from the hop before it; and the hop is bound and has room.
pub record MayCome (q : Queues) (m r : ℕ) : Type 0 where
  pub known : m < length q.image.messages
  pub written : r ≡ 0 → q.marks m 0 < (message_of q.image m).length
  pub moved : (hop : ℕ) → r ≡ suc hop → q.marks m (suc hop) < q.marks m hop
  pub bound : r < hops q.image m → is_bound q.image q.bound m r ≡ true
  pub room : r < hops q.image m → q.marks m r < q.marks m (suc r) + q.cap

raise_flows : (q : Queues) (m r : ℕ) → Flows q → MayCome q m r → Flows (raise q m r)
raise_flows q m r f c =
    record {
      within = λ k l. elim (mark_after q.marks m r k 0) [
        | inl t ↦
            let less : q.marks k 0 < (message_of q.image k).length =
            subst (λ n. q.marks n 0 < (message_of q.image n).length) t.0 (c.written t.1.0)
            in
            omega (arith, t.1.1, less)
        | inr t ↦ omega (arith, t.0, f.within k l)
      ];
      falls = λ k j g. elim (mark_after q.marks m r k (suc j)) [
        | inl t ↦
            let less : q.marks k (suc j) < q.marks k j =
            subst (λ n. q.marks n (suc j) < q.marks n j) t.0 (c.moved j t.1.0)
            in
            omega (arith, t.1.1, less)
        | inr t ↦ omega (arith, t.0, f.falls k j g)
      ];
      roomy = λ k j g. elim (mark_after q.marks m r k j) [
        | inl t ↦
            let inside : r < hops q.image m =
            subst (λ n. r < hops q.image n) (sym t.0) (subst (λ n. n < hops q.image k) (sym t.1.0) g.1)
            in
            let less : q.marks k j < q.marks k (suc j) + q.cap =
            subst (λ n. q.marks n j < q.marks n (suc j) + q.cap) t.0
            (subst (λ n. q.marks m n < q.marks m (suc n) + q.cap) t.1.0 (c.room inside))
            in
            omega (arith, t.1.1, less)
        | inr t ↦ omega (arith, t.0, f.roomy k j g)
      ];
      entered = λ k j g n. elim (mark_after q.marks m r k j) [
        | inl t ↦
            let inside : r < hops q.image m =
            subst (λ n. r < hops q.image n) (sym t.0) (subst (λ n. n < hops q.image k) (sym t.1.0) g.1)
            in
            let yes : is_bound q.image q.bound k j ≡ true =
            subst (λ n. is_bound q.image q.bound n j ≡ true) t.0
            (subst (λ n. is_bound q.image q.bound m n ≡ true) t.1.0 (c.bound inside))
            in
            absurd (both_ways _ n yes)
        | inr t ↦ t.0 ∙ f.entered k j g n
      ];
      counted = f.counted;
    }

-- ---- a word in hand

-- One more word has come to a hop, has left the hop before, if there is one, and is not in its new slot yet.
pub record InHand (q : Queues) (m r : ℕ) (places : ℕ → ℕ → Option ℕ) (slots : ℕ → List Slot) : Type 0 where
  pub seats : Seats (record (raise q m r) { places = places; slots = slots })
  pub waits : (k j i : ℕ) → IsHop q.image k j → places k j ≡ Some i
      → length (words_at (slots (link_at q.image k j)) i) + raised_at q.marks m r k (suc j) ≡ q.marks k j

module _ (q : Queues) (kept : IsKept q) (m r : ℕ) (may : MayCome q m r) (places : ℕ → ℕ → Option ℕ)
    (slots : ℕ → List Slot) (hand : InHand q m r places slots) where
  abbrev here : Queues
  here = record (raise q m r) { places = places; slots = slots }

  -- the receiver takes it
  taken_out : r ≡ hops q.image m → IsKept here
  taken_out e =
      record {
        shaped = kept.shaped;
        some_words = kept.some_words;
        most_words = kept.most_words;
        flows = (let f = raise_flows q m r kept.flows may in record {
          within = f.within;
          falls = f.falls;
          roomy = f.roomy;
          entered = f.entered;
          counted = f.counted;
        });
        seats = hand.seats;
        waits = λ k j i g is. elim (mark_after q.marks m r k j) [
          | inl t ↦
              let past : r < hops q.image m =
              subst (λ n. r < hops q.image n) (sym t.0) (subst (λ n. n < hops q.image k) (sym t.1.0) g.1)
              in
              absurd (omega (arith, past, e))
          | inr t ↦ hand.waits k j i g is ∙ sym t.0
        ];
      }

  -- it comes into its slot
  put_in : (word : Word) → r < hops q.image m → is_some (places m r) ≡ true → IsKept (enter here m r word)
  put_in word inside some =
      let h : IsHop q.image m r = (may.known, inside) in
      let is : places m r ≡ Some (seat here m r) = seated here m r some in
      let words : List Word = words_at (slots_at here m r) (seat here m r) ++ word ∷ [] in
      let seats : Seats (enter here m r word) = words_seats here hand.seats m r (seat here m r) h is words in
      record {
        shaped = kept.shaped;
        some_words = kept.some_words;
        most_words = kept.most_words;
        flows = (let f = raise_flows q m r kept.flows may in record {
          within = f.within;
          falls = f.falls;
          roomy = f.roomy;
          entered = f.entered;
          counted = f.counted;
        });
        seats = seats;
        waits = λ k j i g e. elim (words_after here kept.shaped hand.seats m r (seat here m r) h is words k j i g e) [
          | inl t ↦ elim (mark_after q.marks m r k j) [
            | inl u ↦
                let same : words_at (slots_at here m r) (seat here m r) ≡ words_at (slots_at here k j) i =
                ap (λ n. words_at (slots_at here n r) (seat here n r)) t.0
                ∙ ap (λ n. words_at (slots_at here k n) (seat here k n)) t.1.0
                ∙ ap (λ o. words_at (slots_at here k j) (unwrap_or o 0)) e
                in
                omega (
                  arith,
                  ap length t.1.1,
                  length-append (words_at (slots_at here m r) (seat here m r)) (word ∷ []),
                  ap length same,
                  hand.waits k j i g e,
                  u.1.1,
                )
            | inr u ↦ absurd (u.1 t.0 t.1.0)
          ]
          | inr t ↦ elim (mark_after q.marks m r k j) [
            | inl u ↦ absurd (t.0 u.0 u.1.0)
            | inr u ↦ omega (arith, ap length t.1, hand.waits k j i g e, u.0)
          ]
        ];
      }

-- ---- what leaves its slot

module _ (q : Queues) (kept : IsKept q) (m hop : ℕ) (h : IsHop q.image m hop) (waiting : q.marks m (suc hop) < q.marks m hop) where
  length_of : ℕ
  length_of = (message_of q.image m).length

  -- no mark is above the length
  pub few : (j : ℕ) → j < hops q.image m → q.marks m j ≤ (message_of q.image m).length
  few zero l = kept.flows.within m h.0
  few (suc j) l = omega (arith, few j (omega (arith, l)), kept.flows.falls m j (h.0, omega (arith, l)))

  -- a message that waits is live
  pub sits : is_some (q.places m hop) ≡ true
  sits =
      let live : q.marks m (suc hop) < (message_of q.image m).length = omega (arith, waiting, few hop h.1) in
      let bound : is_bound q.image q.bound m hop ≡ true =
      elim (cases_Bool (is_bound q.image q.bound m hop)) [
        | inl t ↦ t
        | inr t ↦ absurd (omega (arith, waiting, kept.flows.entered m hop h t))
      ]
      in
      kept.seats.holds m hop h ∙ and_from _ _ bound (lt-ltb _ _ live)

  pub is_seat : q.places m hop ≡ Some (seat q m hop)
  is_seat = seated q m hop sits

  -- what waits there
  pub queue_long : length (words_at (slots_at q m hop) (seat q m hop)) + q.marks m (suc hop) ≡ q.marks m hop
  queue_long = kept.waits m hop (seat q m hop) h is_seat

  abbrev rest : List Word
  rest = drop 1 (words_at (slots_at q m hop) (seat q m hop))

  rest_long : length rest + 1 + q.marks m (suc hop) ≡ q.marks m hop
  rest_long = omega (arith, length-drop 1 (words_at (slots_at q m hop) (seat q m hop)), queue_long, waiting)

  pub drawn_seats : Seats (draw q m hop)
  drawn_seats = words_seats q kept.seats m hop (seat q m hop) h is_seat rest

  drawn_waits : (k j i : ℕ) → IsHop q.image k j → q.places k j ≡ Some i
      → length (words_at ((draw q m hop).slots (link_at q.image k j)) i) + raised_at q.marks m (suc hop) k (suc j) ≡ q.marks k j
  drawn_waits k j i g e =
      elim (words_after q kept.shaped kept.seats m hop (seat q m hop) h is_seat rest k j i g e) [
        | inl t ↦ elim (mark_after q.marks m (suc hop) k (suc j)) [
          | inl u ↦
              let long : length rest + 1 + q.marks k (suc j) ≡ q.marks k j =
              subst (λ n. length rest + 1 + q.marks n (suc j) ≡ q.marks n j) t.0
              (subst (λ n. length rest + 1 + q.marks m (suc n) ≡ q.marks m n) t.1.0 rest_long)
              in
              omega (arith, ap length t.1.1, u.1.1, long)
          | inr u ↦ absurd (u.1 t.0 (ap suc t.1.0))
        ]
        | inr t ↦ elim (mark_after q.marks m (suc hop) k (suc j)) [
          | inl u ↦ absurd (t.0 u.0 (ap pred u.1.0))
          | inr u ↦ omega (arith, ap length t.1, kept.waits k j i g e, u.0)
        ]
      ]

  -- who is live, but for the message at the hop
  other_live : (k j : ℕ) → ((m ≡ k) → (hop ≡ j) → ⊥)
      → nat_lt (raised_at q.marks m (suc hop) k (suc j)) (message_of q.image k).length
      ≡ nat_lt (q.marks k (suc j)) (message_of q.image k).length
  other_live k j f =
      elim (mark_after q.marks m (suc hop) k (suc j)) [
        | inl u ↦ absurd (f u.0 (ap pred u.1.0))
        | inr u ↦ ap (λ n. nat_lt n (message_of q.image k).length) u.0
      ]

  raised_here : raised_at q.marks m (suc hop) m (suc hop) ≡ q.marks m (suc hop) + 1
  raised_here =
      elim (mark_after q.marks m (suc hop) m (suc hop)) [ inl u ↦ u.1.1 | inr u ↦ absurd (u.1 refl refl) ]

  -- more words will come
  pub stays : nat_eq (raised_at q.marks m (suc hop) m (suc hop)) (message_of q.image m).length ≡ false
      → InHand q m (suc hop) q.places (draw q m hop).slots
  stays more =
      let below : q.marks m (suc hop) + 1 < (message_of q.image m).length =
      (let apart : raised_at q.marks m (suc hop) m (suc hop) ≢ (message_of q.image m).length =
      λ e. both_ways _ more (eq-eqb _ _ e)
      in
      let other : q.marks m (suc hop) + 1 ≢ (message_of q.image m).length = λ e. apart (raised_here ∙ e) in
      lt_from_ne _ _ (omega (arith, waiting, few hop h.1)) other)
      in
      record {
        seats = marks_seats (draw q m hop) (raised_at q.marks m (suc hop)) drawn_seats
            (λ k j. elim (same_or_other m k hop j) [
              | inl t ↦
                  let was : nat_lt (q.marks m (suc hop)) (message_of q.image m).length ≡ true = lt-ltb _ _ (omega (arith, below)) in
                  let now : nat_lt (raised_at q.marks m (suc hop) m (suc hop)) (message_of q.image m).length ≡ true =
                  lt-ltb _ _ (omega (arith, below, raised_here))
                  in
                  subst (λ n. nat_lt (raised_at q.marks m (suc hop) n (suc j)) (message_of q.image n).length
                  ≡ nat_lt (q.marks n (suc j)) (message_of q.image n).length) t.0
                  (subst (λ n. nat_lt (raised_at q.marks m (suc hop) m (suc n)) (message_of q.image m).length
                  ≡ nat_lt (q.marks m (suc n)) (message_of q.image m).length) t.1.0 (now ∙ sym was))
              | inr t ↦ other_live k j t.1
            ]);
        waits = drawn_waits;
      }

  -- it was the last word
  pub goes : nat_eq (raised_at q.marks m (suc hop) m (suc hop)) (message_of q.image m).length ≡ true
      → InHand q m (suc hop) (put_at q.places m hop None) (release (draw q m hop) m hop).slots
  goes end =
      let last : raised_at q.marks m (suc hop) m (suc hop) ≡ (message_of q.image m).length = eqb-true _ _ end in
      let d : Queues = draw q m hop in
      let empty : words_at (slots_at d m hop) (seat q m hop) ≡ [] =
      elim (words_after q kept.shaped kept.seats m hop (seat q m hop) h is_seat rest m hop (seat q m hop) h is_seat) [
        | inl t ↦ t.1.1 ∙ nil_from_length rest (omega (arith, rest_long, few hop h.1, last, raised_here))
        | inr t ↦ absurd (t.0 refl refl)
      ]
      in
      let gone : nat_lt (raised_at q.marks m (suc hop) m (suc hop)) (message_of q.image m).length ≡ false =
      false_from_ne_true _ (λ e. omega (arith, ltb-true _ _ e, last))
      in
      record {
        seats = release_seats d kept.shaped drawn_seats m hop (seat q m hop) h is_seat (raised_at q.marks m (suc hop)) empty gone other_live;
        waits = λ k j i g e. elim (same_or_other m k hop j) [
          | inl t ↦ absurd (none-some _ (sym (ap (λ b. cond b None (q.places k j)) t.1.1) ∙ e))
          | inr t ↦
              let old : q.places k j ≡ Some i = sym (ap (λ b. cond b None (q.places k j)) t.0) ∙ e in
              let there : seat q m hop < length (d.slots (link_at q.image m hop)) = (drawn_seats.held m hop (seat q m hop) h is_seat).0 in
              let words : words_at ((release d m hop).slots (link_at q.image k j)) i ≡ words_at (d.slots (link_at q.image k j)) i =
              field_kept d.slots (link_at q.image m hop) (seat q m hop) (record (slot_at (d.slots (link_at q.image m hop)) (seat q m hop)) { holder = None })
              there (λ (x : Slot). x.words.items) (link_at q.image k j) i refl
              in
              omega (arith, ap length words, drawn_waits k j i g old)
        ];
      }

-- ---- what the calls keep

pub push_comes : (q : Queues) → IsKept q → (m : ℕ) → m < length q.image.messages
    → may_write q.image q.cap q.marks q.bound m ≡ true → MayCome q m 0
push_comes q k m l w =
    let a = and_parts _ _ w in
    let b = and_parts _ _ a.1 in
    record {
      known = l;
      written = λ e. ltb-true _ _ b.0;
      moved = λ hop e. absurd (omega (arith, e));
      bound = λ e. a.0;
      room = λ e. ltb-true _ _ b.1;
    }

pub push_sits : (q : Queues) → IsKept q → (m : ℕ) → m < length q.image.messages
    → may_write q.image q.cap q.marks q.bound m ≡ true → is_some (q.places m 0) ≡ true
push_sits q k m l w =
    let a = and_parts _ _ w in
    let b = and_parts _ _ a.1 in
    let g : IsHop q.image m 0 = (l, reaches q.image k.shaped m l) in
    let some : q.marks m 0 < (message_of q.image m).length = ltb-true _ _ b.0 in
    let left : q.marks m 1 < (message_of q.image m).length = omega (arith, some, k.flows.falls m 0 g) in
    k.seats.holds m 0 g ∙ and_from _ _ a.0 (lt-ltb _ _ left)

pub push_keeps : (q : Queues) → IsKept q → (m : ℕ) (word : Word) → m < length q.image.messages
    → may_write q.image q.cap q.marks q.bound m ≡ true → IsKept (pushed q m word)
push_keeps q k m word l w =
    let none : (i j : ℕ) → raised_at q.marks m 0 i (suc j) ≡ q.marks i (suc j) =
    λ i j. elim (mark_after q.marks m 0 i (suc j)) [ inl u ↦ absurd (omega (arith, u.1.0)) | inr u ↦ u.0 ]
    in
    put_in q k m 0 (push_comes q k m l w) q.places q.slots
    (record {
      seats = marks_seats q (raised_at q.marks m 0) k.seats
          (λ i j. ap (λ n. nat_lt n (message_of q.image i).length) (none i j));
      waits = λ i j s g e. omega (arith, k.waits i j s g e, none i j);
    })
    word (reaches q.image k.shaped m l) (push_sits q k m l w)

-- a word that is read
pub pop_keeps : (q : Queues) → IsKept q → (m hop : ℕ) → IsHop q.image m hop → suc hop ≡ hops q.image m
    → q.marks m (suc hop) < q.marks m hop → IsKept (leave (raise q m (suc hop)) m hop)
pop_keeps q k m hop h last waiting =
    let may : MayCome q m (suc hop) =
    record {
      known = h.0;
      written = λ e. absurd (omega (arith, e));
      moved = λ j e. subst (λ n. q.marks m (suc n) < q.marks m n) (ap pred e) waiting;
      bound = λ e. absurd (omega (arith, e, last));
      room = λ e. absurd (omega (arith, e, last));
    }
    in
    let test : Bool = nat_eq (raised_at q.marks m (suc hop) m (suc hop)) (message_of q.image m).length in
    elim (cases_Bool test) [
      | inl t ↦
          subst (λ b. IsKept (cond b (release (draw (raise q m (suc hop)) m hop) m hop) (draw (raise q m (suc hop)) m hop))) (sym t)
          (taken_out q k m (suc hop) may (put_at q.places m hop None) (release (draw q m hop) m hop).slots (goes q k m hop h waiting t) last)
      | inr t ↦
          subst (λ b. IsKept (cond b (release (draw (raise q m (suc hop)) m hop) m hop) (draw (raise q m (suc hop)) m hop))) (sym t)
          (taken_out q k m (suc hop) may q.places (draw q m hop).slots (stays q k m hop h waiting t) last)
    ]

-- a word that moves on
module _ (q : Queues) (k : IsKept q) (m hop : ℕ)
    (can : may_forward q.image q.cap q.marks q.bound m hop ≡ true) where
  pub known : m < length q.image.messages
  known = ltb-true _ _ (and_parts (nat_lt m (length q.image.messages)) _ can).0

  pub next_hop : suc hop < hops q.image m
  next_hop =
      ltb-true _ _ (and_parts (nat_lt (suc hop) (hops q.image m)) _
      (and_parts (nat_lt m (length q.image.messages)) _ can).1).0

  pub moves : q.marks m (suc hop) < q.marks m hop
  moves =
      ltb-true _ _ (and_parts (has_word q.marks m hop) _
      (and_parts (nat_lt (suc hop) (hops q.image m)) _ (and_parts (nat_lt m (length q.image.messages)) _ can).1).1).0

  next : (is_bound q.image q.bound m (suc hop) ≡ true) × (has_room q.cap q.marks m (suc hop) ≡ true)
  next =
      and_parts (is_bound q.image q.bound m (suc hop)) (has_room q.cap q.marks m (suc hop)) (and_parts (has_word q.marks m hop) _
      (and_parts (nat_lt (suc hop) (hops q.image m)) _ (and_parts (nat_lt m (length q.image.messages)) _ can).1).1).1

  pub this : IsHop q.image m hop
  this = (known, omega (arith, next_hop))

  pub room_there : q.marks m (suc hop) < q.marks m (suc (suc hop)) + q.cap
  room_there = ltb-true _ _ next.1

  pub sits_next : is_some (q.places m (suc hop)) ≡ true
  sits_next =
      let left : q.marks m (suc (suc hop)) < (message_of q.image m).length =
      omega (arith, k.flows.falls m (suc hop) (known, next_hop), moves, few q k m hop this moves hop this.1)
      in
      k.seats.holds m (suc hop) (known, next_hop) ∙ and_from _ _ next.0 (lt-ltb _ _ left)

  pub forward_keeps : (word : Word) → IsKept (enter (leave (raise q m (suc hop)) m hop) m (suc hop) word)
  forward_keeps word =
      let may : MayCome q m (suc hop) =
      record {
        known = known;
        written = λ e. absurd (omega (arith, e));
        moved = λ j e. subst (λ n. q.marks m (suc n) < q.marks m n) (ap pred e) moves;
        bound = λ e. next.0;
        room = λ e. room_there;
      }
      in
      let test : Bool = nat_eq (raised_at q.marks m (suc hop) m (suc hop)) (message_of q.image m).length in
      let kept : Bool → Type 0 =
      λ b. IsKept (enter (cond b (release (draw (raise q m (suc hop)) m hop) m hop) (draw (raise q m (suc hop)) m hop)) m (suc hop) word)
      in
      elim (cases_Bool test) [
        | inl t ↦
            let apart : (nat_eq m m && nat_eq hop (suc hop)) ≡ false = elim (same_or_other m m hop (suc hop)) [
              | inl y ↦ absurd (omega (arith, y.1.0))
              | inr y ↦ y.0
            ]
            in
            let sits : is_some (put_at q.places m hop None m (suc hop)) ≡ true =
            ap (λ b. is_some (cond b None (q.places m (suc hop)))) apart ∙ sits_next
            in
            subst kept (sym t)
            (put_in q k m (suc hop) may (put_at q.places m hop None) (release (draw q m hop) m hop).slots
            (goes q k m hop this moves t) word next_hop sits)
        | inr t ↦
            subst kept (sym t)
            (put_in q k m (suc hop) may q.places (draw q m hop).slots (stays q k m hop this moves t) word next_hop sits_next)
      ]
