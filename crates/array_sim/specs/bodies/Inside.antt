-- Words that only proofs need: what holds of an array that runs, and of a simulation, at all times.
use Rattle.std.specs.Prelude.{ℕ, pred, ◌≡◌, ◌*◌, ◌<◌, ◌≤◌, max, Bool, true, false, List, ◌++◌, Option, Some, None, length, map, flat_map}
use Rattle.sys_base.specs.Groups.{below}
use Rattle.sys_base.specs.declared.actor.Actor.{Actor}
use Rattle.sys_base.specs.declared.actor.Actor.TheVariants.{Cell, Forward, Bind}
use Rattle.cell_code.specs.Images.{IsShaped}
use Rattle.cell_code.specs.Marks.{hops}
use Rattle.cell_code.specs.declared.image.Image.{Image}
use Rattle.cell_code.specs.declared.image.LinkImage.{LinkImage}
use Rattle.cell_code.specs.declared.instruction.Instr.{Instr}
use Rattle.cell_code.specs.declared.instruction.Instr.TheVariants.{Halt, Read, Write}
use Rattle.cell_machine.specs.Machine.{IsReached as IsReachedMachine}
use Rattle.array_model.specs.States.{ArrayState, cell_of, cells}
use Rattle.array_model.specs.Steps.{enabled, step}
use Rattle.link_queues.specs.Fabrics.{words_in}
use Rattle.link_queues.specs.Tables.{queues}
use Rattle.array_sim.specs.Simulations.{Contents, Simulation, IsReached, StandsFor, cap_in, inputs_in, machine_at, peak_in}
use Rattle.array_sim.specs.bodies.Wiring.{Wired, IsWired}

-- the queues and the peaks
abbrev pub wired_in : Contents → Wired
wired_in array = record { fabric = array.fabric; peaks = array.peaks }

-- whether the next instruction of a cell has a step, by the messages that may be written and read
abbrev pub can_go : (write read : ℕ → Bool) → Option Instr → Bool
can_go write read (Some (Write m)) = write m
can_go write read (Some (Read m word)) = read m
can_go write read (Some Halt) = false
can_go write read None = false
can_go write read (Some _) = true

-- The image is shaped, the queues and peaks are those of the image, and each cell has a machine with the cell's
-- number, which its image's code has led to its state.
pub record IsArray (array : Contents) : Type 0 where
  pub shaped : IsShaped array.image
  pub wired : IsWired array.image (wired_in array)
  pub machines : length array.cells ≡ cells array.image
  pub numbers : (c : ℕ) → c < cells array.image → (machine_at array.cells c).cell ≡ c
  pub reached : (c : ℕ) → c < cells array.image
      → IsReachedMachine (cell_of array.image c) (machine_at array.cells c)

-- the actors that may be enabled at some time: cells, forwards, and the links that have a group
abbrev pub scanned : Image → List Actor
scanned image =
    map Cell (below (cells image))
    ++ (flat_map (λ m. map (Forward m) (below (pred (hops image m)))) (below (length image.messages))
    ++ map (λ (link : LinkImage). Bind link.link) image.links)

-- These are the enabled actors of the array.
abbrev pub AreEnabled : Contents → List Actor → Type 0
AreEnabled array list =
    (s : ArrayState) → StandsFor array s → list ≡ enabled array.image (inputs_in array) (cap_in array) s

-- Some run has led the simulation to a state; the actors are those that may be enabled, the list has those that are,
-- and there is room for all.
pub record IsSimulation (sim : Simulation) (actors list : List Actor) (room : ℕ) : Type 0 where
  pub reached : IsReached sim
  pub actors_are : actors ≡ scanned sim.array.image
  pub listed : AreEnabled sim.array list
  pub room_is : length actors ≤ room

-- An actor has taken its step: the image, also that of the queues, the capacity and the inputs stay, each state for
-- which the array stood has become the model's next one, and each peak the number of words that its link has now,
-- where that is more.
pub record HasStepped (old : Contents) (actor : Actor) (new : Contents) : Type 0 where
  pub image_is : new.image ≡ old.image
  pub queues_are : new.fabric.image ≡ old.image
  pub cap_is : cap_in new ≡ cap_in old
  pub inputs_are : inputs_in new ≡ inputs_in old
  pub leads : (s next : ArrayState) → StandsFor old s → step old.image (inputs_in old) (cap_in old) s actor ≡ Some next
      → StandsFor new next
  pub peaks : (l : ℕ) → l < 4 * cells old.image
      → peak_in new l ≡ max (peak_in old l) (words_in (queues new.fabric) l)
