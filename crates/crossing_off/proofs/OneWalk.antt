-- There is one walk: two walks go through the same cells, and neither goes on where the other ends.
use Rattle.std.proofs.Common.{◌≡◌, ℕ, zero, suc, ◌-◌, ◌<◌, ◌≤◌, List, Option, Some, None, length, get_or, map, Contains, IsSomeAnd, slice_get, sym, ◌∙◌, ap, subst, inl, inr, arith}
use Rattle.std.proofs.lemmas.Bool.{cases_lt}
use Rattle.std.proofs.lemmas.List.{get_or-map, length-map, same_lists}
use Rattle.std.proofs.lemmas.List.Elements.{All-contains}
use Rattle.std.proofs.lemmas.Option.{slice_get_within, slice_get-get_or, get_or_from_slice_get}
use Rattle.comm_sequence.specs.Sequences.{Sequences}
use Rattle.comm_sequence.specs.declared.comm.Comm.{Comm}
use Rattle.crossing_off.specs.declared.waits.Wait.{Wait}
use Rattle.crossing_off.specs.declared.waits.WalkEnd.{WalkEnd}
use Rattle.crossing_off.specs.declared.waits.WalkEnd.TheVariants.{Again, NothingLeft}
use Rattle.crossing_off.specs.Walk.{partner_of, HasFront, IsLeastLeft, IsWait, IsEnd, IsWalkOver}
use Rattle.crossing_off.proofs.Lists.{at_some, some_there, is_there, Contains-from_slice_get}

-- a wait by its parts
made_of : ℕ → Comm → ℕ → Wait
made_of cell front partner = record { cell = cell; front = front; partner = partner }

-- what a cell waits for is given by the cell
one_wait : (s : Sequences) (fronts : List (Option Comm)) (x y : Wait) → IsWait s fronts x → IsWait s fronts y → x.cell ≡ y.cell → x ≡ y
unfolding made_of
one_wait s fronts x y h k e =
    let f : Some (Some x.front) ≡ Some (Some y.front) = sym h.front ∙ ap (slice_get fronts) e ∙ k.front in
    let front : x.front ≡ y.front = cc in
    let p : Some x.partner ≡ Some y.partner = sym h.partner ∙ ap (partner_of s.ends) front ∙ k.partner in
    let partner : x.partner ≡ y.partner = cc in
    ap (λ c. made_of c x.front x.partner) e ∙ ap (λ f. made_of y.cell f x.partner) front ∙ ap (made_of y.cell y.front) partner

-- the cell that is waited for last
last_waits : (fronts : List (Option Comm)) (waits : List Wait) (e : WalkEnd) → IsEnd fronts waits e
    → (c : ℕ) × IsSomeAnd (slice_get waits (length waits - 1)) (λ last. last.partner ≡ c)
last_waits fronts waits (Again c) h = (c, h.0)
last_waits fronts waits (NothingLeft c) h = (c, h.0)

-- a cell has nothing left, or it has a front
pub not_both : (o : Option (Option Comm)) (e : Comm) → o ≡ Some None → o ≡ Some (Some e) → ⊥
not_both o e h k = cc

-- no wait goes on from the end: a later one would be at a cell that was visited, or that has nothing left
no_more : (fronts : List (Option Comm)) (waits : List Wait) (e : WalkEnd) (last : Wait) (next : Wait) → IsEnd fronts waits e
    → slice_get waits (length waits - 1) ≡ Some last → next.cell ≡ last.partner → HasFront fronts next.cell next.front
    → ((j : ℕ) (w : Wait) → slice_get waits j ≡ Some w → w.cell ≡ next.cell → ⊥) → ⊥
no_more fronts waits (Again c) last next h l e f differ =
    let at : last.partner ≡ c = at_some (λ (w : Wait). w.partner ≡ c) (slice_get waits (length waits - 1)) last h.0 l in
    let j = h.1.0 in
    let within : j < length waits = omega (arith, h.1.1, length-map waits (λ (w : Wait). w.cell)) in
    let w = is_there waits j within in
    let cell : w.0.cell ≡ c =
    ap (λ (x : Wait). x.cell) (sym (get_or_from_slice_get waits j w.0 w.0 w.1)) ∙ sym (get_or-map (λ (x : Wait). x.cell) waits j w.0 c within) ∙ h.1.2 in
    differ j w.0 w.1 (cell ∙ sym (e ∙ at))
no_more fronts waits (NothingLeft c) last next h l e f differ =
    let at : last.partner ≡ c = at_some (λ (w : Wait). w.partner ≡ c) (slice_get waits (length waits - 1)) last h.0 l in
    not_both (slice_get fronts c) next.front h.1 (ap (slice_get fronts) (sym (e ∙ at)) ∙ f)

-- one end at most
one_end : (fronts : List (Option Comm)) (waits : List Wait) (d e : WalkEnd) (last : Wait) → IsEnd fronts waits d → IsEnd fronts waits e
    → slice_get waits (length waits - 1) ≡ Some last → ((c : ℕ) → Contains (map (λ (w : Wait). w.cell) waits) c → slice_get fronts c ≡ Some None → ⊥)
    → d ≡ e
one_end fronts waits (Again c) (Again b) last h k l apart =
    ap Again (sym (at_some (λ (w : Wait). w.partner ≡ c) _ last h.0 l) ∙ at_some (λ (w : Wait). w.partner ≡ b) _ last k.0 l)
one_end fronts waits (NothingLeft c) (NothingLeft b) last h k l apart =
    ap NothingLeft (sym (at_some (λ (w : Wait). w.partner ≡ c) _ last h.0 l) ∙ at_some (λ (w : Wait). w.partner ≡ b) _ last k.0 l)
one_end fronts waits (Again c) (NothingLeft b) last h k l apart =
    let e : b ≡ c = sym (at_some (λ (w : Wait). w.partner ≡ b) _ last k.0 l) ∙ at_some (λ (w : Wait). w.partner ≡ c) _ last h.0 l in
    absurd (apart c h.1 (ap (slice_get fronts) (sym e) ∙ k.1))
one_end fronts waits (NothingLeft c) (Again b) last h k l apart =
    let e : c ≡ b = sym (at_some (λ (w : Wait). w.partner ≡ c) _ last h.0 l) ∙ at_some (λ (w : Wait). w.partner ≡ b) _ last k.0 l in
    absurd (apart b k.1 (ap (slice_get fronts) (sym e) ∙ h.1))

-- a wait of a walk
wait_at : (s : Sequences) (fronts : List (Option Comm)) (a : List Wait) (e : WalkEnd) → IsWalkOver s fronts a e → (k : ℕ) (w : Wait) → slice_get a k ≡ Some w → IsWait s fronts w
wait_at s fronts a e h k w at = All-contains (IsWait s fronts) a w h.are_waits (Contains-from_slice_get a k w at)

-- a list with a first element
begun : (P : Wait → Type 0) (waits : List Wait) → IsSomeAnd (slice_get waits 0) P → 0 < length waits
begun P waits h = let w = some_there P (slice_get waits 0) h in omega (arith, slice_get_within waits 0 w.0 w.1)

-- a walk has a first wait
not_empty : (s : Sequences) (fronts : List (Option Comm)) (a : List Wait) (e : WalkEnd) → IsWalkOver s fronts a e → 0 < length a
not_empty s fronts a e h = begun (λ w. IsLeastLeft fronts w.cell) a h.begins

module _ (s : Sequences) (fronts : List (Option Comm)) (a b : List Wait) (ea eb : WalkEnd) (h : IsWalkOver s fronts a ea) (k : IsWalkOver s fronts b eb) where
  -- the waits at one place are the same
  same_at : (n : ℕ) (x y : Wait) → slice_get a n ≡ Some x → slice_get b n ≡ Some y → x ≡ y
  same_at zero x y p q =
      let P : Wait → Type 0 = λ w. IsLeastLeft fronts w.cell in
      let l = at_some P (slice_get a 0) x h.begins p in
      let m = at_some P (slice_get b 0) y k.begins q in
      let low : x.cell ≤ y.cell = l.least y.cell m.something.0 m.something.1 in
      let high : y.cell ≤ x.cell = m.least x.cell l.something.0 l.something.1 in
      one_wait s fronts x y (wait_at s fronts a ea h zero x p) (wait_at s fronts b eb k zero y q) (omega arith)
  same_at (suc n) x y p q =
      let in_a : n < length a = omega (arith, slice_get_within a (suc n) x p) in
      let in_b : n < length b = omega (arith, slice_get_within b (suc n) y q) in
      let u = is_there a n in_a in
      let v = is_there b n in_b in
      let before : u.0 ≡ v.0 = same_at n u.0 v.0 u.1 v.1 in
      let cells : x.cell ≡ y.cell = h.goes_on n u.0 x u.1 p ∙ ap (λ (w : Wait). w.partner) before ∙ sym (k.goes_on n v.0 y v.1 q) in
      one_wait s fronts x y (wait_at s fronts a ea h (suc n) x p) (wait_at s fronts b eb k (suc n) y q) cells

  -- neither walk goes on where the other ends
  not_longer : length a < length b → ⊥
  not_longer l =
      let n = length a in
      let some = not_empty s fronts a ea h in
      let before : n - 1 < length a = omega arith in
      let u = is_there a (n - 1) before in
      let v = is_there b (n - 1) (omega arith) in
      let next = is_there b n l in
      let e : suc (n - 1) ≡ n = omega arith in
      let next_at : slice_get b (suc (n - 1)) ≡ Some next.0 = ap (slice_get b) e ∙ next.1 in
      let same : v.0 ≡ u.0 = sym (same_at (n - 1) u.0 v.0 u.1 v.1) in
      let on : next.0.cell ≡ u.0.partner = k.goes_on (n - 1) v.0 next.0 v.1 next_at ∙ ap (λ (w : Wait). w.partner) same in
      no_more fronts a ea u.0 next.0 h.ends u.1 on (wait_at s fronts b eb k n next.0 next.1).front
      (λ j w p c. let in_a = slice_get_within a j w p in
      let x = is_there b j (omega arith) in
      let eq : x.0 ≡ w = sym (same_at j w x.0 p x.1) in
      let place : j ≡ n = k.differ j n x.0 next.0 x.1 next.1 (ap (λ (z : Wait). z.cell) eq ∙ c) in
      absurd (omega arith))

-- two walks are the same
pub same_walk : (s : Sequences) (fronts : List (Option Comm)) (a b : List Wait) (ea eb : WalkEnd) → IsWalkOver s fronts a ea → IsWalkOver s fronts b eb
    → (a ≡ b) × (ea ≡ eb)
same_walk s fronts a b ea eb h k =
    let n = length a in
    let long : length a ≡ length b =
    elim (cases_lt (length a) (length b)) [
      | inl p ↦ absurd (not_longer s fronts a b ea eb h k p)
      | inr p ↦ elim (cases_lt (length b) (length a)) [
        | inl q ↦ absurd (not_longer s fronts b a eb ea k h q)
        | inr q ↦ omega arith
      ]
    ] in
    let waits : a ≡ b = same_lists a b long (λ j d l.
    same_at s fronts a b ea eb h k j (get_or a j d) (get_or b j d) (slice_get-get_or a j d l) (slice_get-get_or b j d (omega (arith, long)))) in
    let some = not_empty s fronts a ea h in
    let before : n - 1 < length a = omega arith in
    let last = is_there a (n - 1) before in
    let P : List Wait → Type 0 = λ ws. IsEnd fronts ws eb in (
      waits,
      one_end fronts a ea eb last.0 h.ends (subst P (sym waits) k.ends) last.1
          (λ c in_waits none. let j = in_waits.0 in
          let within : j < length a = omega (arith, in_waits.1, length-map a (λ (w : Wait). w.cell)) in
          let w = is_there a j within in
          let cell : w.0.cell ≡ c =
          ap (λ (x : Wait). x.cell) (sym (get_or_from_slice_get a j w.0 w.0 w.1)) ∙ sym (get_or-map (λ (x : Wait). x.cell) a j w.0 c within) ∙ in_waits.2 in
          not_both (slice_get fronts c) w.0.front none (ap (slice_get fronts) (sym cell) ∙ (wait_at s fronts a ea h j w.0 w.1).front)),
    )
