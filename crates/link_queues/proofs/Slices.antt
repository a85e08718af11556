-- The queues of the messages after each change of the slots.
use Rattle.std.proofs.Common.{◌≡◌, ℕ, suc, ◌+◌, ◌<◌, ◌⊎◌, Bool, true, cond, nat_eq, List, [], ◌∷◌, ◌++◌, Option, Some, None, is_some, length, drop, refl, sym, ap, ◌∙◌, arith, inl, inr, length-drop, eq-eqb, eqb-true}
use Rattle.std.proofs.lemmas.Bool.{and_from, cases_Bool, cases_lt}
use Rattle.std.proofs.lemmas.List.{nil_from_length}
use Rattle.std.proofs.lemmas.Option.{none-some}
use Rattle.sys_base.specs.declared.word.Word.{Word}
use Rattle.cell_code.specs.Images.{IsShaped}
use Rattle.cell_code.specs.Marks.{link_at, message_of, raised_at}
use Rattle.link_slots.specs.Slots.{slot_at, words_at}
use Rattle.link_slots.specs.declared.slot.Slot.{Slot}
use Rattle.link_queues.specs.Fabrics.{Queues, draw, enter, leave, put_at, raise, release, seat, slice, slice_of, slots_at, without_oldest}
use Rattle.link_queues.specs.Keeping.{IsHop, IsKept, Seats}
use Rattle.link_queues.proofs.Seats.{field_kept, reworded, same_or_other, words_after, words_seats}
use Rattle.link_queues.proofs.Steps.{few, is_seat, mark_after, seated}

pub some_or_none : {A : Type 0} (o : Option A) → (o ≡ None) ⊎ ((s : A) × (o ≡ Some s))
some_or_none None = inl refl
some_or_none (Some s) = inr (s, refl)

-- what a table has after a change at one place
pub put_same : {A : Type 0} (f : ℕ → ℕ → A) (m hop : ℕ) (x : A) (k j : ℕ) → m ≡ k → hop ≡ j → put_at f m hop x k j ≡ x
put_same f m hop x k j a b = ap (λ t. cond t x (f k j)) (and_from _ _ (eq-eqb m k a) (eq-eqb hop j b))

pub put_other : {A : Type 0} (f : ℕ → ℕ → A) (m hop : ℕ) (x : A) (k j : ℕ) → ((m ≡ k) → (hop ≡ j) → ⊥)
    → put_at f m hop x k j ≡ f k j
put_other f m hop x k j n =
    elim (same_or_other m k hop j) [
      | inl t ↦ absurd (n t.0 t.1.0)
      | inr t ↦ ap (λ b. cond b x (f k j)) t.0
    ]

-- the same words in the slot that is held are the same queue
same_words : (a b : List Slot) (o : Option ℕ) → ((i : ℕ) → words_at a i ≡ words_at b i) → slice_of a o ≡ slice_of b o
same_words a b None e = refl
same_words a b (Some i) e = e i

-- ---- other words in the slot of a message

module _ (q : Queues) (shaped : IsShaped q.image) (seats : Seats q) (m hop s : ℕ) (h : IsHop q.image m hop)
    (is : q.places m hop ≡ Some s) (words : List Word) where
  pub reworded_slice : (k j : ℕ) → IsHop q.image k j
      → slice (reworded q seats m hop s h is words) k j ≡ put_at (slice q) m hop words k j
  reworded_slice k j g =
      let r : Queues = reworded q seats m hop s h is words in
      elim (some_or_none (q.places k j)) [
        | inl t ↦
            let off : (m ≡ k) → (hop ≡ j) → ⊥ =
            λ a b. none-some _ (sym t ∙ sym (ap (λ n. q.places n hop) a ∙ ap (q.places k) b) ∙ is)
            in
            let left : slice r k j ≡ [] = ap (slice_of (slots_at r k j)) t in
            let right : slice q k j ≡ [] = ap (slice_of (slots_at q k j)) t in
            left ∙ sym right ∙ sym (put_other (slice q) m hop words k j off)
        | inr t ↦
            let left : slice r k j ≡ words_at (slots_at r k j) t.0 = ap (slice_of (slots_at r k j)) t.1 in
            let right : slice q k j ≡ words_at (slots_at q k j) t.0 = ap (slice_of (slots_at q k j)) t.1 in
            elim (words_after q shaped seats m hop s h is words k j t.0 g t.1) [
              | inl u ↦ left ∙ u.1.1 ∙ sym (put_same (slice q) m hop words k j u.0 u.1.0)
              | inr u ↦ left ∙ u.1 ∙ sym right ∙ sym (put_other (slice q) m hop words k j u.0)
            ]
      ]

-- a word comes into the slot of a message
pub enter_slice : (q : Queues) → IsShaped q.image → Seats q → (m hop : ℕ) → IsHop q.image m hop
    → is_some (q.places m hop) ≡ true → (word : Word) (k j : ℕ) → IsHop q.image k j
    → slice (enter q m hop word) k j ≡ put_at (slice q) m hop (slice q m hop ++ word ∷ []) k j
enter_slice q shaped seats m hop h sits word k j g =
    let is : q.places m hop ≡ Some (seat q m hop) = seated q m hop sits in
    let mine : slice q m hop ≡ words_at (slots_at q m hop) (seat q m hop) = ap (slice_of (slots_at q m hop)) is in
    reworded_slice q shaped seats m hop (seat q m hop) h is (words_at (slots_at q m hop) (seat q m hop) ++ word ∷ []) k j g
    ∙ ap (λ (ws : List Word). put_at (slice q) m hop (ws ++ word ∷ []) k j) (sym mine)

-- the oldest word leaves the slot of a message
draw_slice : (q : Queues) → IsShaped q.image → Seats q → (m hop : ℕ) → IsHop q.image m hop
    → is_some (q.places m hop) ≡ true → (k j : ℕ) → IsHop q.image k j
    → slice (draw q m hop) k j ≡ without_oldest q m hop k j
draw_slice q shaped seats m hop h sits k j g =
    let is : q.places m hop ≡ Some (seat q m hop) = seated q m hop sits in
    let mine : slice q m hop ≡ words_at (slots_at q m hop) (seat q m hop) = ap (slice_of (slots_at q m hop)) is in
    reworded_slice q shaped seats m hop (seat q m hop) h is (drop 1 (words_at (slots_at q m hop) (seat q m hop))) k j g
    ∙ ap (λ (ws : List Word). put_at (slice q) m hop (drop 1 ws) k j) (sym mine)

-- a queue is as long as the marks at its ends differ
pub slice_long : (q : Queues) → IsKept q → (m hop : ℕ) → IsHop q.image m hop
    → length (slice q m hop) + q.marks m (suc hop) ≡ q.marks m hop
slice_long q k m hop h =
    elim (some_or_none (q.places m hop)) [
      | inl t ↦
          let empty : length (slice q m hop) ≡ 0 = ap (λ o. length (slice_of (slots_at q m hop) o)) t in
          elim (cases_lt (q.marks m (suc hop)) (q.marks m hop)) [
            | inl w ↦ absurd (none-some _ (sym t ∙ is_seat q k m hop h w))
            | inr w ↦ omega (arith, empty, w, k.flows.falls m hop h)
          ]
      | inr t ↦
          let mine : slice q m hop ≡ words_at (slots_at q m hop) t.0 = ap (slice_of (slots_at q m hop)) t.1 in
          omega (arith, ap length mine, k.waits m hop t.0 h t.1)
    ]

-- the oldest word of a message leaves, with the slot where it is the last one
module _ (q : Queues) (kept : IsKept q) (m hop : ℕ) (h : IsHop q.image m hop)
    (waiting : q.marks m (suc hop) < q.marks m hop) (sits : is_some (q.places m hop) ≡ true) where
  abbrev d : Queues
  d = draw q m hop

  drawn : Seats d
  drawn =
      words_seats q kept.seats m hop (seat q m hop) h (seated q m hop sits)
      (drop 1 (words_at (slots_at q m hop) (seat q m hop)))

  freed_words : (k j i : ℕ) → words_at ((release d m hop).slots (link_at q.image k j)) i ≡ words_at (slots_at d k j) i
  freed_words k j i =
      let there : seat q m hop < length (d.slots (link_at q.image m hop)) =
      (drawn.held m hop (seat q m hop) h (seated q m hop sits)).0
      in
      field_kept d.slots (link_at q.image m hop) (seat q m hop)
      (record (slot_at (d.slots (link_at q.image m hop)) (seat q m hop)) { holder = None })
      there (λ (x : Slot). x.words.items) (link_at q.image k j) i refl

  raised_here : raised_at q.marks m (suc hop) m (suc hop) ≡ q.marks m (suc hop) + 1
  raised_here =
      elim (mark_after q.marks m (suc hop) m (suc hop)) [ inl u ↦ u.1.1 | inr u ↦ absurd (u.1 refl refl) ]

  release_slice : nat_eq (raised_at q.marks m (suc hop) m (suc hop)) (message_of q.image m).length ≡ true
      → (k j : ℕ) → IsHop q.image k j → slice (release (draw (raise q m (suc hop)) m hop) m hop) k j ≡ without_oldest q m hop k j
  release_slice end k j g =
      let r : Queues = release (draw (raise q m (suc hop)) m hop) m hop in
      let last : raised_at q.marks m (suc hop) m (suc hop) ≡ (message_of q.image m).length = eqb-true _ _ end in
      elim (same_or_other m k hop j) [
        | inl t ↦
            let gone : slice r k j ≡ [] =
            ap (slice_of (r.slots (link_at q.image k j))) (put_same q.places m hop None k j t.0 t.1.0)
            in
            let short : drop 1 (slice q m hop) ≡ [] =
            nil_from_length (drop 1 (slice q m hop))
            (omega (arith, length-drop 1 (slice q m hop), slice_long q kept m hop h, few q kept m hop h waiting hop h.1, last, raised_here))
            in
            gone ∙ sym (put_same (slice q) m hop (drop 1 (slice q m hop)) k j t.0 t.1.0 ∙ short)
        | inr t ↦
            ap (slice_of (r.slots (link_at q.image k j))) (put_other q.places m hop None k j t.1)
            ∙ same_words (r.slots (link_at q.image k j)) (slots_at d k j) (q.places k j) (freed_words k j)
            ∙ draw_slice q kept.shaped kept.seats m hop h sits k j g
      ]

  pub leave_slice : (k j : ℕ) → IsHop q.image k j → slice (leave (raise q m (suc hop)) m hop) k j ≡ without_oldest q m hop k j
  leave_slice k j g =
      let test : Bool = nat_eq (raised_at q.marks m (suc hop) m (suc hop)) (message_of q.image m).length in
      let after : Bool → Queues =
      λ b. cond b (release (draw (raise q m (suc hop)) m hop) m hop) (draw (raise q m (suc hop)) m hop)
      in
      elim (cases_Bool test) [
        | inl t ↦ ap (λ b. slice (after b) k j) t ∙ release_slice t k j g
        | inr t ↦ ap (λ b. slice (after b) k j) t ∙ draw_slice q kept.shaped kept.seats m hop h sits k j g
      ]
