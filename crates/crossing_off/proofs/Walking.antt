-- The state of a walk.
use Rattle.std.proofs.Common.{◌≡◌, ℕ, suc, ◌-◌, ◌<◌, ◌≤◌, Bool, true, false, cond, List, [], ◌∷◌, ◌++◌, Option, Some, None, length, get_or, set, map, All, Contains, IsSomeAnd, sum_by, slice_get, sym, ◌∙◌, ap, subst, refl, inl, inr, ◌⊎◌, ⊎_elim, arith}
use Rattle.std.specs.Option.{option_map}
use Rattle.std.proofs.lemmas.Bool.{cases_eq, cases_lt, false≢true}
use Rattle.std.proofs.lemmas.List.{length-map, map-append, length_push, length-set, get_or-set_same, get_or-set_other, get_or_append_left, get_or_push}
use Rattle.std.proofs.lemmas.List.Elements.{All-nil, All-append, All-cons, Contains-append_right, Contains-append_left}
use Rattle.std.proofs.lemmas.List.FromFn.{get_or-map-range_with_len, length-map-range_with_len, length-range_with_len}
use Rattle.std.proofs.lemmas.List.Sums.{sum_by-cons}
use Rattle.std.proofs.lemmas.Option.{slice_get_within, slice_get-get_or, get_or_from_slice_get}
use Rattle.cell_types.specs.Groups.{below}
use Rattle.comm_sequence.specs.Sequences.{Sequences, IsSequences, message_of}
use Rattle.comm_sequence.specs.declared.comm.Comm.{Comm}
use Rattle.comm_sequence.specs.declared.comm.Comm.TheVariants.{Write, Read}
use Rattle.crossing_off.specs.declared.answer.Residue.{Residue}
use Rattle.crossing_off.specs.declared.waits.Wait.{Wait}
use Rattle.crossing_off.specs.declared.waits.WalkEnd.{WalkEnd}
use Rattle.crossing_off.specs.declared.waits.WalkEnd.TheVariants.{Again, NothingLeft}
use Rattle.crossing_off.specs.Answer.{IsResidue}
use Rattle.crossing_off.specs.Greedy.{rest, front}
use Rattle.crossing_off.specs.Walk.{partner_of, HasFront, IsLeastLeft, IsWait, IsEnd, IsWalkOver}
use Rattle.crossing_off.proofs.Ends.{has_ends_at, front_known}
use Rattle.crossing_off.proofs.Exact.{cell_at}
use Rattle.crossing_off.proofs.OneWalk.{not_both}
use Rattle.crossing_off.proofs.Lists.{at_some, some_and, is_there}

-- ---- the fronts of a residue
pub fronts_long : {b : ℕ} (s : Sequences) (r : Residue) → IsResidue s b r → length r.fronts.items ≡ length s.lists
fronts_long s r h = ap length h.fronts_are ∙ length-map-range_with_len (front s h.crossed) 0 (length s.lists)

-- a front of a residue is what the rule leaves first
pub front_is : {b : ℕ} (s : Sequences) (r : Residue) (h : IsResidue s b r) (c : ℕ) (d : Option Comm) → c < length s.lists → get_or r.fronts.items c d ≡ front s h.crossed c
front_is s r h c d l = ap (λ xs. get_or xs c d) h.fronts_are ∙ get_or-map-range_with_len (front s h.crossed) 0 (length s.lists) c c d l (omega arith)

-- a front is on a message
pub on_known : {b : ℕ} (s : Sequences) (r : Residue) (c : ℕ) (e : Comm) → IsSequences s → IsResidue s b r → c < length s.lists → get_or r.fronts.items c None ≡ Some e → message_of e < length s.ends
on_known s r c e sound h l f = front_known s h.crossed c e sound l (sym (front_is s r h c None l) ∙ f)

-- a sum of some terms has a term that is not 0
some_of : (f : ℕ → ℕ) (xs : List ℕ) → 1 ≤ sum_by f xs → (i : ℕ) × (i < length xs) × (1 ≤ f (get_or xs i 0))
some_of f [] h = absurd (omega arith)
some_of f (x ∷ xs) h =
    ⊎_elim
    (λ l. (0, omega arith, omega (arith, l)))
    (λ z. let r = some_of f xs (omega (arith, z, sum_by-cons f x xs)) in (suc r.0, omega (arith, r.1), r.2))
    (cases_lt 0 (f x))

-- a sum over all cells has a cell whose term is not 0
pub some_term : (f : ℕ → ℕ) (n : ℕ) → 1 ≤ sum_by f (below n) → (c : ℕ) × (c < n) × (1 ≤ f c)
some_term f n h =
    let some = some_of f (below n) h in
    let l : some.0 < n = omega (arith, some.1, length-range_with_len 0 n) in
    (some.0, l, omega (arith, some.2, ap f (cell_at n some.0 l)))

-- a cell has something left
pub something_left : {b : ℕ} (s : Sequences) (r : Residue) → IsResidue s b r → 1 ≤ r.left → (c : ℕ) × (e : Comm) × HasFront r.fronts.items c e
something_left s r h l =
    let some = some_term (λ c. length (rest s h.crossed c)) (length s.lists) (omega (arith, h.left_is, l)) in
    let c = some.0 in
    let first = is_there (rest s h.crossed c) 0 (omega (arith, some.2)) in
    (c, first.0, slice_get-get_or r.fronts.items c None (omega (arith, fronts_long s r h, some.1)) ∙ ap Some (front_is s r h c None some.1 ∙ first.1))

-- what a value was mapped from
mapped_from : (f : ℕ × ℕ → ℕ) (o : Option (ℕ × ℕ)) (p : ℕ) → option_map f o ≡ Some p → (x : ℕ × ℕ) × (o ≡ Some x) × (f x ≡ p)
mapped_from f None p h = absurd (cc h)
mapped_from f (Some x) p h = (x, refl, cc h)

-- the partner is a cell
pub partner_in : (s : Sequences) (e : Comm) (p : ℕ) → IsSequences s → partner_of s.ends e ≡ Some p → p < length s.lists
partner_in s (Write m) p sound h =
    let x = mapped_from (λ e. e.1) (slice_get s.ends m) p h in
    let e = has_ends_at s m x.0 sound x.1 in
    omega (arith, e.receiver_in, x.2)
partner_in s (Read m) p sound h =
    let x = mapped_from (λ e. e.0) (slice_get s.ends m) p h in
    let e = has_ends_at s m x.0 sound x.1 in
    omega (arith, e.sender_in, x.2)

-- ---- the walk
abbrev pub unvisited : List Bool → ℕ
unvisited visited = sum_by (λ b. cond b 0 1) visited

-- The walk so far: it is at this cell, these waits came before it, and just their cells are visited.
pub record IsWalking (s : Sequences) (fs : List (Option Comm)) (waits : List Wait) (visited : List Bool) (cell : ℕ) : Type 0 where
  pub sound : IsSequences s
  pub inside : cell < length s.lists
  pub long : length visited ≡ length s.lists
  pub begins : waits ≡ [] → IsLeastLeft fs cell
  pub begun : 0 < length waits → IsSomeAnd (slice_get waits 0) (λ first. IsLeastLeft fs first.cell)
  pub last : 0 < length waits → IsSomeAnd (slice_get waits (length waits - 1)) (λ last. last.partner ≡ cell)
  pub are_waits : All (IsWait s fs) waits
  pub goes_on : (k : ℕ) (wait next : Wait) → slice_get waits k ≡ Some wait → slice_get waits (suc k) ≡ Some next → next.cell ≡ wait.partner
  pub differ : (j k : ℕ) (a b : Wait) → slice_get waits j ≡ Some a → slice_get waits k ≡ Some b → a.cell ≡ b.cell → j ≡ k
  pub marked : (c : ℕ) → get_or visited c false ≡ true → Contains (map (λ (w : Wait). w.cell) waits) c
  pub all_marked : (k : ℕ) (w : Wait) → slice_get waits k ≡ Some w → get_or visited w.cell false ≡ true

-- a walk before its first wait
pub walking_start : (s : Sequences) (fs : List (Option Comm)) (visited : List Bool) (cell : ℕ) → IsSequences s → IsLeastLeft fs cell → cell < length s.lists
    → length visited ≡ length s.lists → ((c : ℕ) → get_or visited c false ≡ false) → IsWalking s fs [] visited cell
walking_start s fs visited cell sound least inside long fresh = record {
  sound = sound;
  inside = inside;
  long = long;
  begins = λ e. least;
  begun = λ l. absurd (omega arith);
  last = λ l. absurd (omega arith);
  are_waits = All-nil (IsWait s fs);
  goes_on = λ k wait next p q. absurd (omega (arith, slice_get_within {A = Wait} [] k wait p));
  differ = λ j k a b p q e. absurd (omega (arith, slice_get_within {A = Wait} [] j a p));
  marked = λ c v. absurd (false≢true (sym (fresh c) ∙ v));
  all_marked = λ k w p. absurd (omega (arith, slice_get_within {A = Wait} [] k w p));
}

-- a list with no elements
none_there : (xs : List Wait) → length xs ≡ 0 → xs ≡ []
none_there [] h = refl
none_there (x ∷ xs) h = absurd (omega arith)

-- an element of a list with one more
pushed_at : (xs : List Wait) (w x : Wait) (k : ℕ) → slice_get (xs ++ w ∷ []) k ≡ Some x → ((k ≡ length xs) × (x ≡ w)) ⊎ (slice_get xs k ≡ Some x)
pushed_at xs w x k h =
    let l = slice_get_within (xs ++ w ∷ []) k x h in
    let is : get_or (xs ++ w ∷ []) k x ≡ x = get_or_from_slice_get (xs ++ w ∷ []) k x x h in
    ⊎_elim
    (λ e. inl (e, sym is ∙ get_or_push xs w x k (sym e)))
    (λ n. let in' : k < length xs = omega (arith, length_push xs w) in
    inr (slice_get-get_or xs k x in' ∙ ap Some (sym (get_or_append_left xs (w ∷ []) x k in') ∙ is)))
    (cases_eq k (length xs))

-- the element that was added
last_pushed : (xs : List Wait) (w : Wait) (k : ℕ) → k ≡ length xs → slice_get (xs ++ w ∷ []) k ≡ Some w
last_pushed xs w k e =
    slice_get-get_or (xs ++ w ∷ []) k w (omega (arith, length_push xs w)) ∙ ap Some (get_or_push xs w w k (sym e))

-- ---- one wait more
module _ (s : Sequences) (fs : List (Option Comm)) (waits : List Wait) (visited : List Bool) (cell : ℕ) (front : Comm) (partner : ℕ)
    (h : IsWalking s fs waits visited cell) (f : HasFront fs cell front) (p : partner_of s.ends front ≡ Some partner) (v : get_or visited cell false ≡ false) where
  -- the wait at the cell
  abbrev here : Wait
  here = record { cell = cell; front = front; partner = partner }

  -- the walk begins at the least cell
  first_more : IsSomeAnd (slice_get (waits ++ here ∷ []) 0) (λ first. IsLeastLeft fs first.cell)
  first_more =
      let P : Wait → Type 0 = λ first. IsLeastLeft fs first.cell in
      let first = is_there (waits ++ here ∷ []) 0 (omega (arith, length_push waits here)) in
      some_and P (slice_get (waits ++ here ∷ []) 0) first.0 first.1
      (⊎_elim
      (λ x. subst P (sym x.1) (h.begins (none_there waits (sym x.0))))
      (λ x. at_some P (slice_get waits 0) first.0 (h.begun (omega (arith, slice_get_within waits 0 first.0 x))) x)
      (pushed_at waits here first.0 0 first.1))

  -- the last wait is for the next cell
  last_more : IsSomeAnd (slice_get (waits ++ here ∷ []) (length (waits ++ here ∷ []) - 1)) (λ last. last.partner ≡ partner)
  last_more =
      some_and (λ (w : Wait). w.partner ≡ partner) (slice_get (waits ++ here ∷ []) (length (waits ++ here ∷ []) - 1)) here
      (last_pushed waits here (length (waits ++ here ∷ []) - 1) (omega (arith, length_push waits here))) refl

  -- the walk goes on at the cell that is waited for
  goes_on_more : (k : ℕ) (wait next : Wait) → slice_get (waits ++ here ∷ []) k ≡ Some wait → slice_get (waits ++ here ∷ []) (suc k) ≡ Some next → next.cell ≡ wait.partner
  goes_on_more k wait next a b =
      ⊎_elim
      (λ x. ⊎_elim
      (λ y. absurd (omega (arith, x.0, y.0)))
      (λ y. let P : Option Wait → Type 0 = λ o. IsSomeAnd o (λ last. last.partner ≡ cell) in
      let place : length waits - 1 ≡ k = omega (arith, x.0) in
      let is_last = subst P (ap (slice_get waits) place) (h.last (omega (arith, x.0))) in
      ap (λ (w : Wait). w.cell) x.1 ∙ sym (at_some (λ (w : Wait). w.partner ≡ cell) (slice_get waits k) wait is_last y))
      (pushed_at waits here wait k a))
      (λ x. ⊎_elim
      (λ y. absurd (omega (arith, y.0, slice_get_within waits (suc k) next x)))
      (λ y. h.goes_on k wait next y x)
      (pushed_at waits here wait k a))
      (pushed_at waits here next (suc k) b)

  -- a wait of before is at another cell
  other_cell : (k : ℕ) (w : Wait) → slice_get waits k ≡ Some w → w.cell ≡ cell → ⊥
  other_cell k w a e = false≢true (sym v ∙ ap (λ c. get_or visited c false) (sym e) ∙ h.all_marked k w a)

  -- the cells differ
  differ_more : (j k : ℕ) (a b : Wait) → slice_get (waits ++ here ∷ []) j ≡ Some a → slice_get (waits ++ here ∷ []) k ≡ Some b → a.cell ≡ b.cell → j ≡ k
  differ_more j k a b x y e =
      ⊎_elim
      (λ p. ⊎_elim
      (λ q. p.0 ∙ sym q.0)
      (λ q. absurd (other_cell k b q (sym e ∙ ap (λ (w : Wait). w.cell) p.1)))
      (pushed_at waits here b k y))
      (λ p. ⊎_elim
      (λ q. absurd (other_cell j a p (e ∙ ap (λ (w : Wait). w.cell) q.1)))
      (λ q. h.differ j k a b p q e)
      (pushed_at waits here b k y))
      (pushed_at waits here a j x)

  -- a visited cell is that of a wait
  marked_more : (c : ℕ) → get_or (set visited cell true) c false ≡ true → Contains (map (λ (w : Wait). w.cell) (waits ++ here ∷ [])) c
  marked_more c m =
      let P : List ℕ → Type 0 = λ cells. Contains cells c in
      subst P (sym (map-append (λ (w : Wait). w.cell) waits (here ∷ [])))
      (⊎_elim
      (λ e. Contains-append_right (map (λ (w : Wait). w.cell) waits) (cell ∷ []) c (0, omega arith, sym e))
      (λ n. Contains-append_left (map (λ (w : Wait). w.cell) waits) (cell ∷ []) c (h.marked c (sym (get_or-set_other visited cell c true false n) ∙ m)))
      (cases_eq c cell))

  -- the cell of each wait is visited
  all_marked_more : (k : ℕ) (w : Wait) → slice_get (waits ++ here ∷ []) k ≡ Some w → get_or (set visited cell true) w.cell false ≡ true
  all_marked_more k w a =
      let set_here : get_or (set visited cell true) cell false ≡ true = get_or-set_same visited cell true false (omega (arith, h.inside, h.long)) in
      ⊎_elim
      (λ x. ap (λ (y : Wait). get_or (set visited cell true) y.cell false) x.1 ∙ set_here)
      (λ x. get_or-set_other visited cell w.cell true false (other_cell k w x) ∙ h.all_marked k w x)
      (pushed_at waits here w k a)

  -- the walk after one more wait
  pub walking_more : IsWalking s fs (waits ++ here ∷ []) (set visited cell true) partner
  walking_more = record {
    sound = h.sound;
    inside = partner_in s front partner h.sound p;
    long = length-set visited cell true ∙ h.long;
    begins = λ e. absurd (omega (arith, ap length e, length_push waits here));
    begun = λ l. first_more;
    last = λ l. last_more;
    are_waits = All-append (IsWait s fs) waits (here ∷ []) h.are_waits
        (All-cons (IsWait s fs) here [] (record { front = f; partner = p }) (All-nil (IsWait s fs)));
    goes_on = goes_on_more;
    differ = differ_more;
    marked = marked_more;
    all_marked = all_marked_more;
  }

-- ---- the end
-- a walk with a wait, and its end
pub walked : (s : Sequences) (fs : List (Option Comm)) (waits : List Wait) (visited : List Bool) (cell : ℕ) (end : WalkEnd)
    → IsWalking s fs waits visited cell → 0 < length waits → IsEnd fs waits end → IsWalkOver s fs waits end
walked s fs waits visited cell end h some ends = record {
  begins = h.begun some;
  are_waits = h.are_waits;
  goes_on = h.goes_on;
  differ = h.differ;
  ends = ends;
}

-- a visited cell is that of a wait
pub end_again : (s : Sequences) (fs : List (Option Comm)) (waits : List Wait) (visited : List Bool) (cell : ℕ) → IsWalking s fs waits visited cell → get_or visited cell false ≡ true
    → (0 < length waits) × IsEnd fs waits (Again cell)
end_again s fs waits visited cell h v =
    let c = h.marked cell v in
    let some : 0 < length waits = omega (arith, c.1, length-map waits (λ (w : Wait). w.cell)) in
    (some, (h.last some, c))

-- a cell with nothing left is not the first
pub end_nothing : (s : Sequences) (fs : List (Option Comm)) (waits : List Wait) (visited : List Bool) (cell : ℕ) → IsWalking s fs waits visited cell → slice_get fs cell ≡ Some None
    → (0 < length waits) × IsEnd fs waits (NothingLeft cell)
end_nothing s fs waits visited cell h n =
    ⊎_elim
    (λ some. (some, (h.last some, n)))
    (λ z. let least = h.begins (none_there waits (omega arith)) in absurd (not_both (slice_get fs cell) least.something.0 n least.something.1))
    (cases_lt 0 (length waits))
