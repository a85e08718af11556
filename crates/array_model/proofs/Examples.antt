-- The definitions, computed on one message of one word from one cell to the next.
use Rattle.std.proofs.Common.{◌≡◌, false, List, [], ◌∷◌, Option, Some, None, pos, refl}
use Rattle.std.specs.Option.{option_map}
use Rattle.sys_base.specs.declared.actor.Actor.{Actor}
use Rattle.sys_base.specs.declared.actor.Actor.TheVariants.{Cell, Forward, Bind}
use Rattle.sys_base.specs.declared.word.Word.TheVariants.{Num}
use Rattle.cell_code.specs.Marks.{queue}
use Rattle.cell_code.specs.declared.image.Image.{Image}
use Rattle.cell_code.specs.declared.instruction.Instr.TheVariants.{Push, Load, Write, Read, Emit, Halt}
use Rattle.array_model.specs.Runs.{after, peak}
use Rattle.array_model.specs.States.{ArrayState, Inputs, opening}
use Rattle.array_model.specs.Steps.{enabled, is_enabled}

-- cell 0 writes 7, and cell 1 reads and emits it
abbrev pub one_word : Image
one_word =
    record {
      grid = record { rows = 1; cols = 2 };
      buffer = 0;
      bound = 6;
      messages = record { from = 0; to = 1; length = 1; label = 0; route = 1 ∷ [] } ∷ [];
      links = record { link = 1; queues = 1; groups = record { label = 0; members = 0 ∷ [] } ∷ [] } ∷ [];
      cells =
          record { takes = 0; emits = 0; words = 0; counters = 0; stack = 1; code = Push (pos 7) ∷ Write 0 ∷ Halt ∷ [] }
          ∷ record { takes = 0; emits = 1; words = 1; counters = 0; stack = 1; code = Read 0 0 ∷ Load 0 ∷ Emit ∷ Halt ∷ [] }
          ∷ [];
    }

abbrev no_input : Inputs
no_input c = []

-- the state after some steps, with a capacity of 1
abbrev left : List Actor → Option ArrayState
left run = after one_word no_input 1 (opening one_word) run

-- what an answer is for the state after some steps
abbrev there : {A : Type 0} → (ArrayState → A) → List Actor → Option A
there f run = option_map f (left run)

abbrev whole : List Actor
whole = Cell 0 ∷ Bind 1 ∷ Cell 0 ∷ Cell 1 ∷ Cell 1 ∷ Cell 1 ∷ []

-- the whole run has as many steps as the bound, and ends with both cells at `halt` and the word in the output
it_ends : there (λ s. (s.cell 0).at ∷ (s.cell 1).at ∷ []) whole ≡ Some (2 ∷ 3 ∷ [])
it_ends = refl

it_emits : there (λ s. (s.cell 1).held.output) whole ≡ Some (Num (pos 7) ∷ [])
it_emits = refl

at_most_one_word : peak one_word no_input 1 whole 1 ≡ 1
at_most_one_word = refl

-- who is enabled, one after another
first_enabled : there (enabled one_word no_input 1) [] ≡ Some (Cell 0 ∷ Bind 1 ∷ [])
first_enabled = refl

-- nothing is written before its hop is bound
not_bound : there (enabled one_word no_input 1) (Cell 0 ∷ []) ≡ Some (Bind 1 ∷ [])
not_bound = refl

then_bound : there (enabled one_word no_input 1) (Cell 0 ∷ Bind 1 ∷ []) ≡ Some (Cell 0 ∷ [])
then_bound = refl

-- and nothing is read before it was written
then_written : there (enabled one_word no_input 1) (Cell 0 ∷ Bind 1 ∷ Cell 0 ∷ []) ≡ Some (Cell 1 ∷ [])
then_written = refl

in_the_queue : there (λ s. queue s.history s.marks 0 0) (Cell 0 ∷ Bind 1 ∷ Cell 0 ∷ []) ≡ Some (Num (pos 7) ∷ [])
in_the_queue = refl

none_enabled : there (enabled one_word no_input 1) whole ≡ Some []
none_enabled = refl

-- an actor that is not enabled ends no run
no_run : left (Cell 0 ∷ Cell 0 ∷ []) ≡ None
no_run = refl

no_early_read : left (Cell 1 ∷ []) ≡ None
no_early_read = refl

no_cell_there : there (λ s. is_enabled one_word no_input 1 s (Cell 2)) [] ≡ Some false
no_cell_there = refl

no_hop_there : there (λ s. is_enabled one_word no_input 1 s (Forward 0 0)) (Cell 0 ∷ Bind 1 ∷ Cell 0 ∷ []) ≡ Some false
no_hop_there = refl
