-- Labels are proposed for all lists; and labels are consistent, or fall first somewhere.
use Rattle.std.proofs.Common.{◌≡◌, ℕ, zero, suc, ◌+◌, ◌<◌, ◌≤◌, ◌↔◌, ◌⊎◌, Bool, false, ◌&&◌, ◌||◌, nat_eq, nat_lt, List, [], ◌∷◌, length, map, get_or, refl, sym, ap, subst, inl, inr, ⊎_elim, arith}
use Rattle.std.specs.Bool.{IsTrue}
use Rattle.std.specs.List.{All, list_any, slice_index}
use Rattle.std.proofs.lemmas.Bool.{cases_lt, lt-ltb, le-ltb}
use Rattle.cell_types.specs.Groups.{below}
use Rattle.comm_sequence.specs.Labels.{IsConsistent, IsProposal, proposed}
use Rattle.comm_sequence.specs.Sequences.{message_of}
use Rattle.comm_sequence.specs.declared.comm.Comm.{Comm}
use Rattle.labelling.specs.Falls.{FallsAt, IsFall, NeverFalls, NoFallBefore}
use Rattle.labelling.specs.bodies.Sets.{stand_next, Through}
use Rattle.labelling.specs.declared.falls.Fall.{Fall}
use Rattle.labelling.proofs.Chains.{through_none, through_more}
use Rattle.labelling.proofs.Closed.{below_from_all, closed_is_table}
use Rattle.labelling.proofs.Falling.{IsPassed, passed_first, passed_more, passed_all, falls_here, empty_never_falls, fall_of, consistent_where_none}

-- ---- proposed labels

-- whether one message is another one, or stands before it in some list
near : List (List Comm) → ℕ → ℕ → ℕ → Bool
near lists count a b = nat_lt b count && (nat_eq a b || list_any (λ list. stand_next list a b) lists)

-- whether a chain leads from one message to another through messages below a number
chained : (ℕ → ℕ → Bool) → ℕ → ℕ → ℕ → Bool
chained step zero a b = step a b
chained step (suc k) a b = chained step k a b || (chained step k a k && chained step k k b)

-- it tells of the chains
tells_chains : (step : ℕ → ℕ → Bool) (k a b : ℕ) → (IsTrue (chained step k a b) ↔ Through step k a b)
unfolding chained
tells_chains step zero a b = through_none step a b
tells_chains step (suc k) a b =
    let more = through_more step (chained step k) (chained step (suc k)) k (tells_chains step k) (λ c d. refl) a b in
    let one : k + 1 ≡ suc k = omega arith in
    subst (λ n. IsTrue (chained step (suc k) a b) ↔ Through step n a b) one more

-- a message below the number
near_within : (lists : List (List Comm)) (count a b : ℕ) → b < count
    → near lists count a b ≡ (nat_eq a b || list_any (λ list. stand_next list a b) lists)
unfolding near
near_within lists count a b within =
    ap (λ t. t && (nat_eq a b || list_any (λ list. stand_next list a b) lists)) (lt-ltb b count within)

-- no message above it
near_past : (lists : List (List Comm)) (count a b : ℕ) → count ≤ b → near lists count a b ≡ false
unfolding near
near_past lists count a b past =
    ap (λ t. t && (nat_eq a b || list_any (λ list. stand_next list a b) lists)) (le-ltb b count past)

-- labels are proposed for lists whose messages are below a number
pub some_proposal : (lists : List (List Comm)) (count : ℕ) → All (λ list. All (λ comm. message_of comm < count) list) lists
    → (labels : List ℕ) × IsProposal lists count labels
some_proposal lists count known =
    let must = chained (near lists count) count in (
      map (proposed must count) (below count),
      record {
        must = must;
        table = closed_is_table lists count (below_from_all lists count known) (near lists count) must
            (near_within lists count) (near_past lists count) (tells_chains (near lists count) count);
        labels_are = refl;
      },
    )

-- ---- falls

-- The labels fall in this list first at some place.
record FirstIn (list : List Comm) (labels : List ℕ) : Type 0 where
  at : ℕ
  before : ℕ
  after : ℕ
  falls : FallsAt list labels at before after
  first : NoFallBefore list labels at

-- behind what is passed the labels fall first somewhere, or never in the list
fall_from : (list : List Comm) (labels : List ℕ) (at before : ℕ) (left : List Comm) → IsPassed list labels at before left
    → FirstIn list labels ⊎ NeverFalls list labels
fall_from list labels at before [] h = inr (passed_all list labels at before [] h refl)
fall_from list labels at before (x ∷ rest) h = elim (cases_lt (slice_index labels (message_of x)) (slice_index labels before)) [
  | inl lower ↦
      inl (record {
        at = at;
        before = before;
        after = message_of x;
        falls = falls_here list labels at before (x ∷ rest) x rest h refl lower;
        first = h.none;
      })
  | inr le ↦ fall_from list labels (at + 1) (message_of x) rest (passed_more list labels at before (x ∷ rest) x rest h refl le)
]

-- labels fall first somewhere in a list, or never
fall_in : (list : List Comm) (labels : List ℕ) → FirstIn list labels ⊎ NeverFalls list labels
fall_in [] labels = inr (empty_never_falls [] labels refl)
fall_in (x ∷ left) labels =
    fall_from (x ∷ left) labels 1 (message_of x) left (passed_first (x ∷ left) x left labels refl)

-- labels fall first in a list before this one, or never in those before
fall_before : (lists : List (List Comm)) (labels : List ℕ) (n : ℕ)
    → ((fall : Fall) × IsFall lists labels fall) ⊎ ((cell : ℕ) → cell < n → NeverFalls (get_or lists cell []) labels)
fall_before lists labels zero = inr (λ cell l. absurd (omega arith))
fall_before lists labels (suc n) = elim (fall_before lists labels n) [
  | inl found ↦ inl found
  | inr none ↦ elim (fall_in (get_or lists n []) labels) [
    | inl here ↦
        let fall : Fall = record { cell = n; at = here.at; before = here.before; after = here.after } in
        inl (fall, fall_of lists labels fall n (get_or lists n []) refl refl here.falls here.first none)
    | inr never ↦
        inr (λ cell l. ⊎_elim (λ less. none cell less)
        (λ more. let same : n ≡ cell = omega arith in subst (λ c. NeverFalls (get_or lists c []) labels) same never) (cases_lt cell n))
  ]
]

-- labels are consistent, or fall first somewhere
pub consistent_or_fall : (lists : List (List Comm)) (labels : List ℕ) → IsConsistent lists labels ⊎ ((fall : Fall) × IsFall lists labels fall)
consistent_or_fall lists labels = elim (fall_before lists labels (length lists)) [
  | inl found ↦ inr found
  | inr none ↦ inl (consistent_where_none lists labels none)
]
