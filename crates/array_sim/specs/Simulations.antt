-- What contracts see of a simulation, and the states of the array's model that it stands for.
use Rattle.std.specs.Prelude.{ℕ, ◌≡◌, ◌*◌, ◌<◌, ◌≤◌, ℤ, List, [], length, slice_index, slice_index_or}
use Rattle.sys_base.specs.declared.actor.Actor.{Actor}
use Rattle.cell_code.specs.Images.{IsShaped}
use Rattle.cell_code.specs.Rows.{State, opening_state}
use Rattle.cell_code.specs.declared.image.Image.{Image}
use Rattle.cell_machine.specs.Machine.{Machine}
use Rattle.array_model.specs.Runs.{IsRun, peak}
use Rattle.array_model.specs.States.{ArrayState, Inputs, IsCounted, cells}
use Rattle.link_queues.specs.Standing.{StandsFor as QueuesStandFor}
use Rattle.link_queues.specs.Tables.{Laid, queues}

-- an array that runs: its image, the machine of each cell, the queues, and the peak of each link so far
pub record Contents : Type 0 where
  pub image : Image
  pub cells : List Machine
  pub fabric : Laid
  pub peaks : List ℕ

-- a simulation: its array, and how many steps were made
pub record Simulation : Type 0 where
  pub array : Contents
  pub steps : ℕ

-- the input of each cell, by its index
abbrev pub inputs_of : List (List ℤ) → Inputs
inputs_of inputs cell = slice_index_or inputs cell []

-- the machine of a cell; one that is not there has no input and holds nothing
abbrev pub machine_at : List Machine → ℕ → Machine
machine_at machines c =
    slice_index_or machines c (record { cell = 0; input = []; state = opening_state 0 0; places = 0; room = 0 })

-- the capacity of each queue
abbrev pub cap_in : Contents → ℕ
cap_in array = array.fabric.cap

-- the input of each cell
abbrev pub inputs_in : Contents → Inputs
inputs_in array c = (machine_at array.cells c).input

-- the state of each cell
abbrev pub states_in : Contents → ℕ → State
states_in array c = (machine_at array.cells c).state

-- the peak of a link so far
abbrev pub peak_in : Contents → ℕ → ℕ
peak_in array link = slice_index array.peaks link

-- The array stands for a state of the model: its cells are in that state's states, and its queues stand for the state:
-- they have its marks, its words and its numbers of bound groups. No words that were read are kept, so it may stand
-- for many states.
pub record StandsFor (array : Contents) (s : ArrayState) : Type 0 where
  pub cells : s.cell ≡ states_in array
  pub queues : QueuesStandFor (queues array.fabric) s

-- A run has led the simulation to a state: it is a run to that state, for which the array stands, of as many steps as
-- were made, and the peak of each link is that of the run.
pub record IsAfter (sim : Simulation) (run : List Actor) (last : ArrayState) : Type 0 where
  pub is_run : IsRun sim.array.image (inputs_in sim.array) (cap_in sim.array) run last
  pub stands : StandsFor sim.array last
  pub counted : length run ≡ sim.steps
  pub peaks : (l : ℕ) → l < 4 * cells sim.array.image
      → peak_in sim.array l ≡ peak sim.array.image (inputs_in sim.array) (cap_in sim.array) run l

-- Some run has led the simulation to a state. Its image is shaped, its capacity is 1 to 64, and each cell has as many
-- input words as it takes.
pub record IsReached (sim : Simulation) : Type 0 where
  pub shaped : IsShaped sim.array.image
  pub some_words : 1 ≤ cap_in sim.array
  pub most_words : cap_in sim.array ≤ 64
  pub counted : IsCounted sim.array.image (inputs_in sim.array)
  pub run : List Actor
  pub last : ArrayState
  pub after : IsAfter sim run last
