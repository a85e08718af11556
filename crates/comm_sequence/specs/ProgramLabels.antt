-- The labels of the messages of a program.
use Rattle.std.specs.Prelude.{ℕ, ◌≡◌, not, is_some, IsTrue, List, Bool, Option, Some, find, length, map, option_map}
use Rattle.std.specs.List.{list_any}
use Rattle.cell_types.specs.Code.{ProgramCode}
use Rattle.cell_types.specs.declared.program.Message.{Message}
use Rattle.comm_sequence.specs.Labels.{IsProposal}
use Rattle.comm_sequence.specs.Sequences.{sequences_of}

-- whether a message has a label in the source
abbrev pub has_label : Message → Bool
has_label message = is_some message.label

-- A message of the program has a label in the source.
abbrev pub IsLabelled : ProgramCode → Type 0
IsLabelled program = IsTrue (list_any has_label program.messages)

-- the name of the first message without a label, if there is one
abbrev pub first_unlabelled : List Message → Option (List ℕ)
first_unlabelled messages = option_map (λ (m : Message). m.name) (find (λ m. not (has_label m)) messages)

-- These are the labels of the program's messages: those of the source, where a message has one there, and otherwise
-- the proposed ones.
pub record AreLabels (program : ProgramCode) (labels : List ℕ) : Type 0 where
  pub given : IsLabelled program → map (λ (m : Message). m.label) program.messages ≡ map Some labels
  pub proposed : (IsLabelled program → ⊥) → IsProposal (sequences_of program).lists (length program.messages) labels
