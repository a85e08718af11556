-- What the tests of the calls compute.
use Rattle.std.proofs.Common.{◌≡◌, ℕ, suc, pred, ◌+◌, ◌-◌, ◌*◌, ◌<◌, ◌≤◌, Bool, true, false, ◌&&◌, nat_lt, nat_le, List, [], Some, None, is_some, length, get_or, slice_get, refl, sym, ap, ◌∙◌, arith, inl, inr, lt-ltb, ltb-true}
use Rattle.std.proofs.lemmas.Bool.{and_left, cases_Bool, false_from_ne_true, le-leb, leb-false, leb-true}
use Rattle.std.proofs.lemmas.List.Sums.{count_by-le-length}
use Rattle.std.proofs.lemmas.Option.{get_or_from_slice_get, none-some, slice_get-get_or, slice_get_within}
use Rattle.sys_base.specs.Grid.{cell_count}
use Rattle.cell_code.specs.Marks.{groups_of, has_room, has_word, hops, is_bound, link_of, live, may_bind, may_forward, may_read, may_write, message_of}
use Rattle.link_slots.specs.Slots.{held_count}
use Rattle.link_slots.specs.declared.slot.Slot.{Slot}
use Rattle.link_queues.specs.Fabrics.{Queues}
use Rattle.link_queues.specs.Keeping.{IsHop, IsKept, has_free_place}
use Rattle.link_queues.proofs.Shapes.{reaches}
use Rattle.link_queues.proofs.Steps.{few}

same_test : (a b c : ℕ) → b ≤ a → nat_lt (a - b) c ≡ nat_lt a (b + c)
same_test a b c l =
    elim (cases_Bool (nat_lt a (b + c))) [
      | inl t ↦ let h : a < b + c = ltb-true _ _ t in lt-ltb _ _ (omega (arith, h, l)) ∙ sym t
      | inr t ↦
          false_from_ne_true _ (λ e.
          let h : a - b < c = ltb-true _ _ e in
          let g : nat_lt a (b + c) ≡ true = lt-ltb _ _ (omega (arith, h, l)) in
          absurd (cc))
          ∙ sym t
    ]

and_true : (b : Bool) → (b && true) ≡ b
and_true true = refl
and_true false = refl

module _ (q : Queues) (k : IsKept q) (m hop : ℕ) (h : IsHop q.image m hop) where
  -- where words are left, a slot that is not full is a bound hop with room
  pub free_is : q.marks m (suc hop) < (message_of q.image m).length
      → has_free_place q m hop ≡ (is_bound q.image q.bound m hop && has_room q.cap q.marks m hop)
  free_is l =
      let live : is_some (q.places m hop) ≡ (is_bound q.image q.bound m hop && true) =
      k.seats.holds m hop h ∙ ap (λ b. is_bound q.image q.bound m hop && b) (lt-ltb _ _ l)
      in
      ap (λ b. b && nat_lt (q.marks m hop - q.marks m (suc hop)) q.cap) (live ∙ and_true (is_bound q.image q.bound m hop))
      ∙ ap (λ b. is_bound q.image q.bound m hop && b) (same_test _ _ q.cap (k.flows.falls m hop h))

pub first_hop : (q : Queues) → IsKept q → (m : ℕ) → m < length q.image.messages → IsHop q.image m 0
first_hop q k m l = (l, reaches q.image k.shaped m l)

pub last_hop : (q : Queues) → IsKept q → (m : ℕ) → m < length q.image.messages
    → (1 ≤ hops q.image m) × (IsHop q.image m (hops q.image m - 1) × (suc (hops q.image m - 1) ≡ hops q.image m))
last_hop q k m l =
    let some : 0 < hops q.image m = reaches q.image k.shaped m l in
    (omega (arith, some), ((l, omega (arith, some)), omega (arith, some)))

pub writes : (q : Queues) → IsKept q → (m : ℕ) → m < length q.image.messages
    → q.marks m 0 < (message_of q.image m).length → has_free_place q m 0 ≡ may_write q.image q.cap q.marks q.bound m
writes q k m l w =
    let g : IsHop q.image m 0 = first_hop q k m l in
    let left : q.marks m 1 < (message_of q.image m).length = omega (arith, w, k.flows.falls m 0 g) in
    free_is q k m 0 g left
    ∙ ap (λ b. is_bound q.image q.bound m 0 && (b && has_room q.cap q.marks m 0)) (sym (lt-ltb _ _ w))

pub reads : (q : Queues) → IsKept q → (m : ℕ) → m < length q.image.messages
    → has_word q.marks m (hops q.image m - 1) ≡ may_read q.image q.marks m
reads q k m l =
    let g = last_hop q k m l in
    let before : hops q.image m - 1 ≡ pred (hops q.image m) = omega (arith, g.0) in
    ap (λ n. nat_lt (q.marks m n) (q.marks m (hops q.image m - 1))) g.1.1
    ∙ ap (λ n. nat_lt (q.marks m (hops q.image m)) (q.marks m n)) before

pub moves_on : (q : Queues) → IsKept q → (m hop : ℕ) → IsHop q.image m hop → suc hop < hops q.image m
    → has_word q.marks m hop ≡ true
    → has_free_place q m (suc hop) ≡ may_forward q.image q.cap q.marks q.bound m hop
moves_on q k m hop h n w =
    let waiting : q.marks m (suc hop) < q.marks m hop = ltb-true _ _ w in
    let next : IsHop q.image m (suc hop) = (h.0, n) in
    let left : q.marks m (suc (suc hop)) < (message_of q.image m).length =
    omega (arith, k.flows.falls m (suc hop) next, waiting, few q k m hop h waiting hop h.1)
    in
    let rest : Bool = is_bound q.image q.bound m (suc hop) && has_room q.cap q.marks m (suc hop) in
    free_is q k m (suc hop) next left
    ∙ sym (ap (λ b. b && (nat_lt (suc hop) (hops q.image m) && (has_word q.marks m hop && rest))) (lt-ltb m (length q.image.messages) h.0)
    ∙ ap (λ b. b && (has_word q.marks m hop && rest)) (lt-ltb _ _ n) ∙ ap (λ b. b && rest) w)

-- ---- a link that may bind its next group

same_room : (a n b : ℕ) → a ≤ b → nat_le n (b - a) ≡ nat_le (a + n) b
same_room a n b l =
    elim (cases_Bool (nat_le (a + n) b)) [
      | inl t ↦ le-leb _ _ (omega (arith, leb-true _ _ t, l)) ∙ sym t
      | inr t ↦
          false_from_ne_true _ (λ e. omega (arith, leb-true _ _ e, leb-false _ _ t, l)) ∙ sym t
    ]

module _ (q : Queues) (k : IsKept q) (l : ℕ) (h : l < 4 * cell_count q.image.grid) where
  pub may_next : (members : List ℕ) (n count held : ℕ) → slice_get (groups_of q.image l) (q.bound l) ≡ Some members
      → n ≡ length members → count ≡ length (q.slots l) → held ≡ held_count (q.slots l)
      → nat_le n (count - held) ≡ may_bind q.image q.marks q.bound l
  may_next members n count held is a b c =
      let some : q.bound l < length (groups_of q.image l) = slice_get_within _ _ members is in
      let group : get_or (groups_of q.image l) (q.bound l) [] ≡ members =
      get_or_from_slice_get (groups_of q.image l) (q.bound l) members [] is
      in
      let fits : held ≤ count =
      omega (arith, b, c, count_by-le-length (λ (s : Slot). is_some s.holder) (q.slots l))
      in
      same_room held n count fits
      ∙ ap (λ i. nat_le i count)
      (omega (arith, a, c, k.seats.live l, ap length group))
      ∙ ap (nat_le (length (live q.image q.marks q.bound l) + length (get_or (groups_of q.image l) (q.bound l) [])))
      (b ∙ k.seats.queues l h)
      ∙ sym (ap (λ t. t && nat_le (length (live q.image q.marks q.bound l) + length (get_or (groups_of q.image l) (q.bound l) []))
      (link_of q.image.links l).queues) (lt-ltb _ _ some))

  pub none_next : slice_get (groups_of q.image l) (q.bound l) ≡ None → false ≡ may_bind q.image q.marks q.bound l
  none_next is =
      let no : nat_lt (q.bound l) (length (groups_of q.image l)) ≡ false =
      false_from_ne_true _ (λ e.
      none-some _ (sym is ∙ slice_get-get_or (groups_of q.image l) (q.bound l) [] (ltb-true _ _ e)))
      in
      sym (and_left _ _ no)
