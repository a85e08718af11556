-- What becomes of a simulation that a schedule drives.
use Rattle.std.specs.Prelude.{◌≡◌, ◌+◌, ◌<◌, List, [], ◌++◌, length}
use Rattle.sys_base.specs.declared.actor.Actor.{Actor}
use Rattle.array_model.specs.States.{ArrayState}
use Rattle.array_model.specs.Steps.{enabled}
use Rattle.schedules.specs.declared.chooser.Pick.{Pick}
use Rattle.schedules.specs.declared.chooser.Pick.TheVariants.{Stop}
use Rattle.array_picks.specs.Picked.{PicksRun}
use Rattle.array_sim.specs.Simulations.{IsAfter, Simulation, cap_in, inputs_in}
use Rattle.array_drive.specs.Driving.{Recorded}
use Rattle.array_drive.specs.declared.driving.Driven.{Driven}
use Rattle.array_drive.specs.declared.driving.Driven.TheVariants.{Finished, Stopped}

-- The picks of a schedule, and a simulation that a run has led to its last state.
module _ {S : Type 0} (picks : S → List Actor → Pick → S → Type 0) (sim : Simulation) where
  -- the enabled actors of a state
  abbrev pub enabled_in : ArrayState → List Actor
  enabled_in s = enabled sim.array.image (inputs_in sim.array) (cap_in sim.array) s

  -- The schedule has picked more actors, one after the other. The run with these behind it has led the simulation to
  -- its new state, and the trail has recorded each of them.
  pub record Follows (value : S) (noted : Recorded) (run : List Actor) (last : ArrayState) (new : Simulation)
      (left : S) (notes : Recorded) : Type 0 where
    pub more : List Actor
    pub end : ArrayState
    pub picked : PicksRun picks sim.array.image (inputs_in sim.array) (cap_in sim.array) last value more end left
    pub after : IsAfter new (run ++ more) end
    pub entries : notes.entries ≡ noted.entries ++ more
    pub room : notes.room + length more ≡ noted.room

  -- A run ends in a state. It is finished where no actor is enabled there, and the schedule makes no pick. It is
  -- stopped where some actor is, and the schedule, asked with the enabled actors, stops.
  abbrev pub EndsBy : ArrayState → S → Driven → S → Type 0
  EndsBy end value Finished left = (enabled_in end ≡ []) × (left ≡ value)
  EndsBy end value Stopped left = (0 < length (enabled_in end)) × picks value (enabled_in end) Stop left

  -- The schedule has driven the simulation on from a state to the end of the run.
  pub record Drives (value : S) (noted : Recorded) (run : List Actor) (last : ArrayState) (driven : Driven)
      (new : Simulation) (left : S) (notes : Recorded) : Type 0 where
    pub before : S
    pub follows : Follows value noted run last new before notes
    pub ends : EndsBy follows.end before driven left
