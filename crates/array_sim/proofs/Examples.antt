-- The definitions, computed on a message that goes over two links.
use Rattle.std.proofs.Common.{◌≡◌, true, false, [], ◌∷◌, Some, refl}
use Rattle.sys_base.specs.declared.actor.Actor.TheVariants.{Cell, Forward, Bind}
use Rattle.cell_code.specs.declared.image.Image.{Image}
use Rattle.cell_code.specs.declared.instruction.Instr.TheVariants.{Write, Read, Halt}
use Rattle.array_sim.specs.Simulations.{inputs_of}
use Rattle.array_sim.specs.bodies.Inside.{can_go, scanned}

-- the first of three cells writes a word to the third one
abbrev two_hops : Image
two_hops =
    record {
      grid = record { rows = 1; cols = 3 };
      buffer = 0;
      bound = 7;
      messages = record { from = 0; to = 2; length = 1; label = 0; route = 1 ∷ 5 ∷ [] } ∷ [];
      links =
          record { link = 1; queues = 1; groups = record { label = 0; members = 0 ∷ [] } ∷ [] }
          ∷ record { link = 5; queues = 1; groups = record { label = 0; members = 0 ∷ [] } ∷ [] }
          ∷ [];
      cells = [];
    }

-- the cells, the forward from the first hop to the second one, and the two links that have a group
actors_that_may_step : scanned two_hops
    ≡ Cell 0 ∷ Cell 1 ∷ Cell 2 ∷ Forward 0 0 ∷ Bind 1 ∷ Bind 5 ∷ []
actors_that_may_step = refl

-- a write goes by the one test, a read by the other, and `halt` never
write_goes : can_go (λ m. true) (λ m. false) (Some (Write 0)) ≡ true
write_goes = refl

read_waits : can_go (λ m. true) (λ m. false) (Some (Read 0 1)) ≡ false
read_waits = refl

halt_stands : can_go (λ m. true) (λ m. true) (Some Halt) ≡ false
halt_stands = refl

-- a cell that has no input has none
no_input : inputs_of ([] ∷ []) 3 ≡ []
no_input = refl
