-- What a recorded schedule picks.
use Rattle.std.proofs.Common.{◌≡◌, ℕ, zero, suc, ◌+◌, List, [], ◌∷◌, drop, Some, None, refl, sym, subst, ap, ◌∙◌, add-one}
use Rattle.std.specs.List.{slice_get, Contains}
use Rattle.sys_base.specs.declared.actor.Actor.{Actor}
use Rattle.schedules.specs.Picks.{PicksRecorded, TakesEntry, IsFirstPlace, one_more_stop}
use Rattle.schedules.specs.Recording.{Recording}
use Rattle.schedules.specs.declared.chooser.Pick.{Pick}
use Rattle.schedules.specs.declared.chooser.Pick.TheVariants.{Stop}
use Rattle.schedules.specs.declared.recorded.Standing.{Standing}
use Rattle.schedules.specs.declared.recorded.Standing.TheVariants.{Running, Ended, NotEnabled}

none_left : (entries : List Actor) → slice_get entries 0 ≡ None → entries ≡ []
none_left [] none = refl
none_left (e ∷ entries) none = cc

-- it stops, since no entry is left
pub stops_ended : (before : Recording) (enabled : List Actor) (pick : Pick) (after : Recording) → pick ≡ Stop
    → after ≡ record before { standing = Ended; stops = one_more_stop before.stops } → slice_get before.left 0 ≡ None
    → PicksRecorded before enabled pick after
stops_ended before enabled pick after e f none =
    rw (e, f) (record { reason = none_left before.left none; same_left = refl; same_taken = refl; one_more_stop = refl })

-- it stops, since the next entry is not enabled
pub stops_at : (before : Recording) (enabled : List Actor) (pick : Pick) (after : Recording) (n : ℕ) (entry : Actor) → pick ≡ Stop
    → after ≡ record before { standing = NotEnabled n; stops = one_more_stop before.stops } → n ≡ before.taken + 1
    → slice_get before.left 0 ≡ Some entry → (Contains enabled entry → ⊥) → PicksRecorded before enabled pick after
stops_at before enabled pick after n entry e f number here none =
    rw (e, f) (record { reason = (number, entry, here, none); same_left = refl; same_taken = refl; one_more_stop = refl })

next_left : (entries : List Actor) (n : ℕ) (entry : Actor) → slice_get (drop n entries) 0 ≡ Some entry
    → drop n entries ≡ entry ∷ drop (suc n) entries
next_left [] zero entry here = cc
next_left [] (suc n) entry here = cc
next_left (e ∷ entries) zero entry here = cc
next_left (e ∷ entries) (suc n) entry here = next_left entries n entry here

takes_from : (enabled : List Actor) (place : ℕ) (entries : List Actor) (n : ℕ) (standing : Standing) (stops : ℕ) (entry : Actor)
    → slice_get (drop n entries) 0 ≡ Some entry → IsFirstPlace enabled place entry
    → TakesEntry (record { left = drop n entries; taken = n; standing = standing; stops = stops }) enabled place entry
    (record { left = drop (n + 1) entries; taken = n + 1; standing = Running; stops = stops })
takes_from enabled place entries n standing stops entry here first = record {
  next = rw (add-one n) (next_left entries n entry here);
  place_of_entry = first;
  one_more = refl;
  running = refl;
  same_stops = refl;
}

-- it takes its next entry
pub takes_entry : (before : Recording) (enabled : List Actor) (place : ℕ) (entries : List Actor) (n : ℕ) (standing : Standing) (stops : ℕ)
    (entry : Actor) → record { left = drop n entries; taken = n; standing = standing; stops = stops } ≡ before
    → slice_get before.left 0 ≡ Some entry → IsFirstPlace enabled place entry
    → (x : Actor) × TakesEntry before enabled place x
    (record { left = drop (n + 1) entries; taken = n + 1; standing = Running; stops = stops })
takes_entry before enabled place entries n standing stops entry same here first = (
  entry,
  subst (λ (b : Recording). TakesEntry b enabled place entry
      (record { left = drop (n + 1) entries; taken = n + 1; standing = Running; stops = stops })) same
      (takes_from enabled place entries n standing stops entry
      (ap (λ (r : Recording). slice_get r.left 0) same ∙ here) first),
)
