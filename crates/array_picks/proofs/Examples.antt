-- The definitions, computed on one message of one word from one cell to the next.
use Rattle.std.proofs.Common.{◌≡◌, ℕ, zero, suc, ◌+◌, ◌<◌, List, [], ◌∷◌, Some, length, slice_get, slice_index_or, Contains, refl, ap, arith}
use Rattle.std.specs.Option.{unwrap_or}
use Rattle.sys_base.specs.declared.actor.Actor.{Actor}
use Rattle.sys_base.specs.declared.actor.Actor.TheVariants.{Cell, Bind}
use Rattle.array_model.specs.Runs.{after}
use Rattle.array_model.specs.States.{ArrayState, Inputs, opening}
use Rattle.array_model.proofs.Examples.{one_word}
use Rattle.schedules.specs.declared.chooser.Pick.{Pick}
use Rattle.schedules.specs.declared.chooser.Pick.TheVariants.{At}
use Rattle.schedules.specs.declared.recorded.Standing.TheVariants.{Running, Ended, NotEnabled}
use Rattle.array_picks.specs.Picked.{PicksStep, PicksWhole}
use Rattle.array_picks.specs.Replays.{PicksNext, Replays}

abbrev no_input : Inputs
no_input c = []

abbrev whole : List Actor
whole = Cell 0 ∷ Bind 1 ∷ Cell 0 ∷ Cell 1 ∷ Cell 1 ∷ Cell 1 ∷ []

-- the state after some steps, with a capacity of 1
abbrev left : List Actor → ArrayState
left run = unwrap_or (after one_word no_input 1 (opening one_word) run) (opening one_word)

-- the schedule that always takes the first place, and keeps its value
abbrev takes_first : ℕ → List Actor → Pick → ℕ → Type 0
takes_first value enabled pick after = (pick ≡ At 0) × (after ≡ value)

abbrev First : ArrayState → Actor → ArrayState → Type 0
First s a next = PicksStep takes_first one_word no_input 1 s 5 a next 5

one : First (left []) (Cell 0) (left (Cell 0 ∷ []))
one = record { place = 0; picked = (refl, refl); there = refl; moves = refl }

two : First (left (Cell 0 ∷ [])) (Bind 1) (left (Cell 0 ∷ Bind 1 ∷ []))
two = record { place = 0; picked = (refl, refl); there = refl; moves = refl }

three : First (left (Cell 0 ∷ Bind 1 ∷ [])) (Cell 0) (left (Cell 0 ∷ Bind 1 ∷ Cell 0 ∷ []))
three = record { place = 0; picked = (refl, refl); there = refl; moves = refl }

four : First (left (Cell 0 ∷ Bind 1 ∷ Cell 0 ∷ [])) (Cell 1) (left (Cell 0 ∷ Bind 1 ∷ Cell 0 ∷ Cell 1 ∷ []))
four = record { place = 0; picked = (refl, refl); there = refl; moves = refl }

five : First (left (Cell 0 ∷ Bind 1 ∷ Cell 0 ∷ Cell 1 ∷ [])) (Cell 1) (left (Cell 0 ∷ Bind 1 ∷ Cell 0 ∷ Cell 1 ∷ Cell 1 ∷ []))
five = record { place = 0; picked = (refl, refl); there = refl; moves = refl }

six : First (left (Cell 0 ∷ Bind 1 ∷ Cell 0 ∷ Cell 1 ∷ Cell 1 ∷ [])) (Cell 1) (left whole)
six = record { place = 0; picked = (refl, refl); there = refl; moves = refl }

-- the whole run
picked : PicksWhole takes_first one_word no_input 1 5 whole (left whole) 5
picked =
    record {
      picked = (
        left (Cell 0 ∷ []),
        5,
        one,
        (
          left (Cell 0 ∷ Bind 1 ∷ []),
          5,
          two,
          (
            left (Cell 0 ∷ Bind 1 ∷ Cell 0 ∷ []),
            5,
            three,
            (
              left (Cell 0 ∷ Bind 1 ∷ Cell 0 ∷ Cell 1 ∷ []),
              5,
              four,
              (left (Cell 0 ∷ Bind 1 ∷ Cell 0 ∷ Cell 1 ∷ Cell 1 ∷ []), 5, five, (left whole, 5, six, (refl, refl))),
            ),
          ),
        ),
      );
      ended = refl;
    }

-- the run may not end where an actor is enabled
not_whole : PicksWhole takes_first one_word no_input 1 5 [] (left []) 5 → ⊥
not_whole whole = cc

-- no other actor moves than the one that stands at the place
not_another : First (left []) (Bind 1) (left (Bind 1 ∷ [])) → ⊥
not_another moves = another moves.place moves.picked.0 moves.there where
  another : (place : ℕ) → At place ≡ At 0 → slice_get (Cell 0 ∷ Bind 1 ∷ []) place ≡ Some (Bind 1) → ⊥
  another zero taken there = cc
  another (suc place) taken there = cc

-- the schedule that always takes the second place, and counts its picks
abbrev takes_second : ℕ → List Actor → Pick → ℕ → Type 0
takes_second value enabled pick after = (pick ≡ At 1) × (after ≡ value + 1)

second : PicksStep takes_second one_word no_input 1 (left []) 5 (Bind 1) (left (Bind 1 ∷ [])) 6
second = record { place = 1; picked = (refl, refl); there = refl; moves = refl }

-- ---- entries

abbrev second_first : List Actor
second_first = Bind 1 ∷ Cell 0 ∷ []

abbrev twice : List Actor
twice = Cell 0 ∷ Cell 0 ∷ []

abbrev Next : ArrayState → List Actor → Actor → ArrayState → List Actor → Type 0
Next s entries a next rest = PicksStep PicksNext one_word no_input 1 s entries a next rest

-- an entry is taken wherever its actor stands
takes_bind : Next (left []) second_first (Bind 1) (left (Bind 1 ∷ [])) (Cell 0 ∷ [])
takes_bind =
    record { place = 1; picked = (Bind 1, refl, record { here = refl; first = not_before }); there = refl; moves = refl } where
      not_before : (k : ℕ) → k < 1 → slice_get (Cell 0 ∷ Bind 1 ∷ []) k ≡ Some (Bind 1) → ⊥
      not_before zero below same = cc
      not_before (suc k) below same = omega (arith, below)

then_cell : Next (left (Bind 1 ∷ [])) (Cell 0 ∷ []) (Cell 0) (left second_first) []
then_cell =
    record { place = 0; picked = (Cell 0, refl, record { here = refl; first = λ k below. omega (arith, below) }); there = refl; moves = refl }

-- all entries are taken, and an actor is enabled there
all_taken : Replays one_word no_input 1 second_first second_first (left second_first) [] Ended
all_taken =
    record {
      taken = (left (Bind 1 ∷ []), Cell 0 ∷ [], takes_bind, (left second_first, [], then_cell, (refl, refl)));
      ends = (omega arith, refl);
    }

-- the second of these is not enabled, since cell 0 waits for its queue
takes_cell : Next (left []) twice (Cell 0) (left (Cell 0 ∷ [])) (Cell 0 ∷ [])
takes_cell =
    record { place = 0; picked = (Cell 0, refl, record { here = refl; first = λ k below. omega (arith, below) }); there = refl; moves = refl }

not_there : Contains (Bind 1 ∷ []) (Cell 0) → ⊥
not_there found = at found.0 found.1 found.2 where
  at : (k : ℕ) → k < 1 → slice_index_or (Bind 1 ∷ []) k (Cell 0) ≡ Cell 0 → ⊥
  at zero below same = cc
  at (suc k) below same = omega (arith, below)

second_refused : Replays one_word no_input 1 twice (Cell 0 ∷ []) (left (Cell 0 ∷ [])) (Cell 0 ∷ []) (NotEnabled 2)
second_refused =
    record {
      taken = (left (Cell 0 ∷ []), Cell 0 ∷ [], takes_cell, (refl, refl));
      ends = (omega arith, refl, Cell 0, refl, not_there);
    }

-- and they lead no further for no other reason
not_ended : Replays one_word no_input 1 twice (Cell 0 ∷ []) (left (Cell 0 ∷ [])) (Cell 0 ∷ []) Ended → ⊥
not_ended replays = omega (arith, ap length replays.ends.1)

not_running : Replays one_word no_input 1 twice (Cell 0 ∷ []) (left (Cell 0 ∷ [])) (Cell 0 ∷ []) Running → ⊥
not_running replays = omega (arith, ap length replays.ends)
