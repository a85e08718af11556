-- What schedules pick.
use Rattle.std.specs.Prelude.{ℕ, ◌≡◌, ◌+◌, ◌-◌, ◌%◌, ◌^◌, ◌<◌, ◌≤◌, min, List, [], ◌∷◌, length, position, slice_get, Option, Some, None, unwrap_or, Contains}
use Rattle.rand_pcg.specs.Lcg.{Lcg}
use Rattle.rand_pcg.specs.Pcg.{pcg32}
use Rattle.sys_base.specs.Actors.{is_before}
use Rattle.sys_base.specs.declared.actor.Actor.{Actor}
use Rattle.schedules.specs.Recording.{Recording}
use Rattle.schedules.specs.declared.chooser.Pick.{Pick}
use Rattle.schedules.specs.declared.chooser.Pick.TheVariants.{At, Stop}
use Rattle.schedules.specs.declared.recorded.Standing.{Standing}
use Rattle.schedules.specs.declared.recorded.Standing.TheVariants.{Running, Ended, NotEnabled}

-- ---- any schedule

-- A pick is a place of the list, or a stop.
abbrev pub IsPlaceIn : List Actor → Pick → Type 0
IsPlaceIn enabled (At place) = place < length enabled
IsPlaceIn enabled Stop = Unit {0}

-- a count of stops after one more: a count that stands at the last value of its type stays there
abbrev pub one_more_stop : ℕ → ℕ
one_more_stop count = min (count + 1) (2 ^ 64 - 1)

-- A pick stops only where the count of stops rose. One that stood at its last value counts as risen.
abbrev pub StopsByCount : Pick → ℕ → ℕ → Type 0
StopsByCount (At place) before now = Unit {0}
StopsByCount Stop before now = one_more_stop before ≤ now

-- ---- round

-- the place that goes round: that of the first actor after the one taken last, or else the first place
abbrev pub round_place : Option Actor → List Actor → ℕ
round_place None enabled = 0
round_place (Some last) enabled = unwrap_or (position (is_before last) enabled) 0

-- It picks that place, and the actor there is then the one taken last.
pub record PicksRound (before : Option Actor) (enabled : List Actor) (pick : Pick) (after : Option Actor) : Type 0 where
  pub place : pick ≡ At (round_place before enabled)
  pub taken : after ≡ slice_get enabled (round_place before enabled)

-- ---- drawn places

-- It draws the next word of the generator and picks the place that the word leaves modulo the number of actors.
pub record PicksDrawn (before : Lcg) (enabled : List Actor) (pick : Pick) (after : Lcg) : Type 0 where
  pub place : pick ≡ At ((pcg32 before).0 % length enabled)
  pub drawn : after ≡ (pcg32 before).1

-- ---- recorded entries

-- An actor stands at this place of a list, and at none before it.
pub record IsFirstPlace (actors : List Actor) (place : ℕ) (actor : Actor) : Type 0 where
  pub here : slice_get actors place ≡ Some actor
  pub first : (k : ℕ) → k < place → slice_get actors k ≡ Some actor → ⊥

-- A recorded schedule takes its next entry, which stands at this place of the list.
pub record TakesEntry (before : Recording) (enabled : List Actor) (place : ℕ) (entry : Actor)
    (after : Recording) : Type 0 where
  pub next : before.left ≡ entry ∷ after.left
  pub place_of_entry : IsFirstPlace enabled place entry
  pub one_more : after.taken ≡ before.taken + 1
  pub running : after.standing ≡ Running
  pub same_stops : after.stops ≡ before.stops

-- It has this reason to stop: no entry is left, or the next one, numbered from 1, is not in the list.
abbrev pub HasReason : Recording → List Actor → Standing → Type 0
HasReason before enabled Running = ⊥
HasReason before enabled Ended = before.left ≡ []
HasReason before enabled (NotEnabled n) =
    (n ≡ before.taken + 1) × (entry : Actor) × (slice_get before.left 0 ≡ Some entry) × (Contains enabled entry → ⊥)

-- It stops for that reason, and keeps its entries.
pub record StopsRecorded (before : Recording) (enabled : List Actor) (after : Recording) : Type 0 where
  pub reason : HasReason before enabled after.standing
  pub same_left : after.left ≡ before.left
  pub same_taken : after.taken ≡ before.taken
  pub one_more_stop : after.stops ≡ one_more_stop before.stops

-- It takes its next entry, or stops.
abbrev pub PicksRecorded : Recording → List Actor → Pick → Recording → Type 0
PicksRecorded before enabled (At place) after = (entry : Actor) × TakesEntry before enabled place entry after
PicksRecorded before enabled Stop after = StopsRecorded before enabled after
