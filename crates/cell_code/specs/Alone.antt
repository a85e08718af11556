-- A cell that runs by itself, over streams of words that its messages bring: every write is taken, and every read
-- gets a word.
use Rattle.std.specs.Prelude.{ℕ, zero, suc, ◌≡◌, ◌≤◌, ℤ, List, [], ◌∷◌, ◌++◌, Option, Some, None, slice_get}
use Rattle.std.specs.Option.{option_and_then}
use Rattle.sys_base.specs.Communications.{Communication, Reads, times}
use Rattle.sys_base.specs.Held.{Streams, word_at}
use Rattle.sys_base.specs.declared.word.Word.{Word}
use Rattle.cell_code.specs.declared.instruction.Instr.{Instr}
use Rattle.cell_code.specs.declared.instruction.Instr.TheVariants.{Halt}
use Rattle.cell_code.specs.Rows.{State, opening_state, Row, Stands, Moves, Sends, Receives, row_of, received, communication_of}

-- a cell alone: its state, the communications that it has made, and the words that it has written, each with its
-- message
pub record Alone : Type 0 where
  pub state : State
  pub made : List Communication
  pub sent : List (ℕ × Word)

-- the cell before its first step
abbrev pub opening_alone : ℕ → ℕ → Alone
opening_alone words counters = record { state = opening_state words counters; made = []; sent = [] }

-- some communications, and one more if there is one
abbrev pub noted : List Communication → Option Communication → List Communication
noted made None = made
noted made (Some one) = made ++ one ∷ []

-- the cell after a row of an instruction that makes this communication; the word that is read is the next one of its
-- message's stream, and the number 0 past its end
abbrev pub after_row : Streams → Option Communication → Alone → Row → Option Alone
after_row streams one s Stands = None
after_row streams one s (Moves next) = Some (record s { state = next; made = noted s.made one })
after_row streams one s (Sends message word next) =
    Some (record { state = next; made = noted s.made one; sent = s.sent ++ (message, word) ∷ [] })
after_row streams one s (Receives message variable next) =
    let word = word_at streams message (times (Reads message) s.made) in
    Some (record s { state = received next variable word; made = noted s.made one })

-- one step of the cell alone, if it has one
abbrev pub alone_step : List Instr → ℕ → List ℤ → Streams → Alone → Option Alone
alone_step code cell input streams s =
    option_and_then (λ instr. after_row streams (communication_of instr) s (row_of cell input s.state instr))
    (slice_get code s.state.at)

-- the cell after so many steps, if it has them
abbrev pub after_steps : List Instr → ℕ → List ℤ → Streams → ℕ → Alone → Option Alone
after_steps code cell input streams zero s = Some s
after_steps code cell input streams (suc n) s =
    option_and_then (after_steps code cell input streams n) (alone_step code cell input streams s)

-- The cell runs alone through these states, one after another, until it is at `halt`.
abbrev pub RunsThrough : List Instr → ℕ → List ℤ → Streams → Alone → List Alone → Type 0
RunsThrough code cell input streams s [] = slice_get code s.state.at ≡ Some Halt
RunsThrough code cell input streams s (next ∷ rest) =
    (alone_step code cell input streams s ≡ Some next) × RunsThrough code cell input streams next rest
