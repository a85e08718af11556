-- Where something is left, there is a walk.
use Rattle.std.proofs.Common.{◌≡◌, ℕ, zero, suc, ◌<◌, ◌≤◌, ◌⊎◌, Bool, true, false, cond, List, [], ◌∷◌, ◌++◌, Option, None, Some, length, get_or, replicate, set, slice_get, sym, ◌∙◌, ap, subst, refl, inl, inr, ⊎_elim, arith}
use Rattle.std.proofs.lemmas.Bool.{cases_lt, cases_Bool}
use Rattle.std.proofs.lemmas.List.{get_or-replicate, get_or_past, length-replicate}
use Rattle.std.proofs.lemmas.List.FromFn.{get_or-map-range_with_len, length-map-range_with_len}
use Rattle.std.proofs.lemmas.List.Sums.{sum_by-set}
use Rattle.std.proofs.lemmas.Option.{slice_get_within, slice_get-get_or, get_or_from_slice_get}
use Rattle.std.specs.Option.{option_map}
use Rattle.comm_sequence.specs.Sequences.{Sequences, IsSequences, message_of}
use Rattle.comm_sequence.specs.declared.comm.Comm.{Comm}
use Rattle.comm_sequence.specs.declared.comm.Comm.TheVariants.{Write, Read}
use Rattle.crossing_off.specs.Greedy.{rest, front, fronts, left}
use Rattle.crossing_off.specs.Walk.{partner_of, HasFront, IsLeastLeft, IsWalkOver}
use Rattle.crossing_off.specs.declared.waits.Wait.{Wait}
use Rattle.crossing_off.specs.declared.waits.WalkEnd.{WalkEnd}
use Rattle.crossing_off.specs.declared.waits.WalkEnd.TheVariants.{Again, NothingLeft}
use Rattle.crossing_off.proofs.Ends.{has_ends, front_known}
use Rattle.crossing_off.proofs.Lists.{is_there}
use Rattle.crossing_off.proofs.Walking.{some_term, unvisited, IsWalking, walking_start, walking_more, walked, end_again, end_nothing}

-- a cell has an operation left first, or not
front_or_not : (o : Option (Option Comm)) → ((e : Comm) × (o ≡ Some (Some e))) ⊎ ((e : Comm) → o ≡ Some (Some e) → ⊥)
front_or_not None = inr (λ e h. cc h)
front_or_not (Some None) = inr (λ e h. cc h)
front_or_not (Some (Some e)) = inl (e, refl)

-- there is a least cell with something left, or none below this number has
least_left : (fs : List (Option Comm)) (n : ℕ)
    → ((cell : ℕ) × IsLeastLeft fs cell) ⊎ ((cell : ℕ) (e : Comm) → cell < n → HasFront fs cell e → ⊥)
least_left fs zero = inr (λ cell e l h. absurd (omega arith))
least_left fs (suc n) = elim (least_left fs n) [
  | inl found ↦ inl found
  | inr none ↦ elim (front_or_not (slice_get fs n)) [
    | inl here ↦
        inl (
          n,
          record {
            something = here;
            least = λ other e h. ⊎_elim (λ less. absurd (none other e less h)) (λ more. omega arith) (cases_lt other n);
          },
        )
    | inr not ↦
        inr (λ cell e l h. ⊎_elim (λ less. none cell e less h)
        (λ more. let same : cell ≡ n = omega arith in not e (subst (λ c. HasFront fs c e) same h)) (cases_lt cell n))
  ]
]

-- The fronts are those of lists of these sequences: each is on a message with ends.
record AreFronts (s : Sequences) (fs : List (Option Comm)) : Type 0 where
  sound : IsSequences s
  long : length fs ≡ length s.lists
  known : (cell : ℕ) (e : Comm) → HasFront fs cell e → message_of e < length s.ends

-- what is waited for
partner : (s : Sequences) (e : Comm) → IsSequences s → message_of e < length s.ends → (p : ℕ) × (partner_of s.ends e ≡ Some p)
partner s (Write m) sound l = let e = has_ends s m sound l in (e.receiver, ap (option_map (λ (x : ℕ × ℕ). x.1)) e.is)
partner s (Read m) sound l = let e = has_ends s m sound l in (e.sender, ap (option_map (λ (x : ℕ × ℕ). x.0)) e.is)

-- fewer cells are unvisited once one more is visited
fewer : (visited : List Bool) (cell : ℕ) → cell < length visited → get_or visited cell false ≡ false
    → unvisited (set visited cell true) < unvisited visited
fewer visited cell l fresh =
    omega (arith, sum_by-set (λ b. cond b 0 1) visited cell true false l, ap {B = ℕ} (λ b. cond b 0 1) fresh)

-- A walk with these fronts.
abbrev SomeWalk : Sequences → List (Option Comm) → Type 0
SomeWalk s fs = (waits : List Wait) × (end : WalkEnd) × IsWalkOver s fs waits end

-- what is no operation is nothing
no_front : (o : Option Comm) → ((e : Comm) → o ≡ Some e → ⊥) → o ≡ None
no_front None h = refl
no_front (Some e) h = absurd (h e refl)

-- The cell has something left, and it has not been visited.
record GoesOn (fs : List (Option Comm)) (visited : List Bool) (cell : ℕ) : Type 0 where
  front : Comm
  at : HasFront fs cell front
  fresh : get_or visited cell false ≡ false

-- a walk ends at a cell, or goes on from it
ends_or_on : (s : Sequences) (fs : List (Option Comm)) → AreFronts s fs → (waits : List Wait) (visited : List Bool) (cell : ℕ)
    → IsWalking s fs waits visited cell → SomeWalk s fs ⊎ GoesOn fs visited cell
ends_or_on s fs are waits visited cell h = elim (cases_Bool (get_or visited cell false)) [
  | inl seen ↦
      let end = end_again s fs waits visited cell h seen in
      inl (waits, Again cell, walked s fs waits visited cell (Again cell) h end.0 end.1)
  | inr fresh ↦ elim (front_or_not (slice_get fs cell)) [
    | inl front ↦ inr (record { front = front.0; at = front.1; fresh = fresh })
    | inr none ↦
        let inside : cell < length fs = omega (arith, are.long, h.inside) in
        let at : slice_get fs cell ≡ Some (get_or fs cell None) = slice_get-get_or fs cell None inside in
        let empty = no_front (get_or fs cell None) (λ e is. none e (at ∙ ap Some is)) in
        let end = end_nothing s fs waits visited cell h (at ∙ ap Some empty) in
        inl (waits, NothingLeft cell, walked s fs waits visited cell (NothingLeft cell) h end.0 end.1)
  ]
]

-- fewer cells are unvisited where a walk goes on
fewer_left : (s : Sequences) (fs : List (Option Comm)) (waits : List Wait) (visited : List Bool) (cell : ℕ)
    → IsWalking s fs waits visited cell → GoesOn fs visited cell → unvisited (set visited cell true) < unvisited visited
fewer_left s fs waits visited cell h on = fewer visited cell (omega (arith, h.long, h.inside)) on.fresh

-- the walk ends, since it visits no cell twice
walks_on : (n : ℕ) (s : Sequences) (fs : List (Option Comm)) → AreFronts s fs → (waits : List Wait) (visited : List Bool) (cell : ℕ)
    → IsWalking s fs waits visited cell → unvisited visited ≤ n → SomeWalk s fs
walks_on zero s fs are waits visited cell h few = elim (ends_or_on s fs are waits visited cell h) [
  | inl walk ↦ walk
  | inr on ↦ absurd (omega (arith, few, fewer_left s fs waits visited cell h on))
]
walks_on (suc n) s fs are waits visited cell h few = elim (ends_or_on s fs are waits visited cell h) [
  | inl walk ↦ walk
  | inr on ↦
      let next = partner s on.front are.sound (are.known cell on.front on.at) in
      walks_on n s fs are (waits ++ record { cell = cell; front = on.front; partner = next.0 } ∷ []) (set visited cell true) next.0
      (walking_more s fs waits visited cell on.front next.0 h on.at next.1 on.fresh)
      (omega (arith, few, fewer_left s fs waits visited cell h on))
]

-- the fronts that the rule leaves
are_fronts : (s : Sequences) (crossed : List Comm) → IsSequences s → AreFronts s (fronts s crossed)
are_fronts s crossed sound = record {
  sound = sound;
  long = length-map-range_with_len (front s crossed) 0 (length s.lists);
  known = λ cell e h.
      let inside : cell < length s.lists =
      omega (arith, slice_get_within (fronts s crossed) cell (Some e) h, length-map-range_with_len (front s crossed) 0 (length s.lists)) in
      let at : get_or (fronts s crossed) cell None ≡ Some e = get_or_from_slice_get (fronts s crossed) cell (Some e) None h in
      front_known s crossed cell e sound inside
      (sym (get_or-map-range_with_len (front s crossed) 0 (length s.lists) cell cell None inside (omega arith)) ∙ at);
}

-- a list of one value everywhere
all_false : (n cell : ℕ) → get_or (replicate n false) cell false ≡ false
all_false n cell =
    ⊎_elim
    (λ l. get_or-replicate n cell false false l)
    (λ g. get_or_past (replicate n false) cell false (omega (arith, g, length-replicate n false)))
    (cases_lt cell n)

-- something is left in some cell
some_front : (s : Sequences) (crossed : List Comm) → 1 ≤ left s crossed → (cell : ℕ) × (e : Comm) × HasFront (fronts s crossed) cell e
some_front s crossed some =
    let found = some_term (λ cell. length (rest s crossed cell)) (length s.lists) some in
    let first = is_there (rest s crossed found.0) 0 (omega (arith, found.2)) in
    let long = length-map-range_with_len (front s crossed) 0 (length s.lists) in
    let at = get_or-map-range_with_len (front s crossed) 0 (length s.lists) found.0 found.0 None found.1 (omega arith) in
    (found.0, first.0, slice_get-get_or (fronts s crossed) found.0 None (omega (arith, long, found.1)) ∙ ap Some (at ∙ first.1))

-- where the rule leaves something, there is a walk
pub some_walk : (s : Sequences) (crossed : List Comm) → IsSequences s → 1 ≤ left s crossed → SomeWalk s (fronts s crossed)
some_walk s crossed sound some =
    let fs = fronts s crossed in
    let are = are_fronts s crossed sound in
    let there = some_front s crossed some in
    let n = length s.lists in
    elim (least_left fs (length fs)) [
      | inl least ↦
          let e = least.1.something in
          let inside : least.0 < n = omega (arith, slice_get_within fs least.0 (Some e.0) e.1, are.long) in
          let visited = replicate n false in
          walks_on (unvisited visited) s fs are [] visited least.0
          (walking_start s fs visited least.0 sound least.1 inside (length-replicate n false) (all_false n)) (omega arith)
      | inr none ↦ absurd (none there.0 there.1 (slice_get_within fs there.0 (Some there.1) there.2) there.2)
    ]
