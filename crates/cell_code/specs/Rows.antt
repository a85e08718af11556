-- The machine of a cell: its states, and what a step of each instruction does.
use Rattle.std.specs.Prelude.{ℕ, ◌+◌, nat_eq, nat_lt, if◌then◌else◌, ℤ, pos, List, [], ◌∷◌, Option, Some, None, replicate, slice_get}
use Rattle.sys_base.specs.Communications.{Communication, Writes, Reads, Takes, Emits}
use Rattle.sys_base.specs.Held.{Held, variable, with_word, counter, with_counter, element, with_element, takes_first, tested, given, with_taken, with_emitted}
use Rattle.sys_base.specs.Words.{applied, negated}
use Rattle.sys_base.specs.declared.word.Word.{Word}
use Rattle.sys_base.specs.declared.word.Word.TheVariants.{Num}
use Rattle.cell_code.specs.declared.instruction.Instr.{Instr}
use Rattle.cell_code.specs.declared.instruction.Instr.TheVariants.{Push, Load, LoadAt, Counter, Neg, Bin, Store, StoreAt, Write, Read, Take, Emit, Loop, Next, IfZero, Jump, Halt}

-- a state of a cell: the address of its next instruction, its stack with the top first, and what it holds
pub record State : Type 0 where
  pub at : ℕ
  pub stack : List Word
  pub held : Held

-- the opening state, with so many words and counters: address 0, an empty stack, and 0 everywhere
abbrev pub opening_state : ℕ → ℕ → State
opening_state words counters =
    record {
      at = 0;
      stack = [];
      held =
          record {
            words = replicate words (Num (pos 0));
            counters = replicate counters 0;
            kept = None;
            taken = 0;
            output = [];
          };
    }

-- a row: what a step does
pub data Row : Type 0 where
  -- there is no step: the code ends here, or a word that the instruction pops is missing
  Stands : Row
  -- the cell goes to a state by itself
  Moves : (next : State) → Row
  -- the cell writes a word to a message, and goes to a state
  Sends : (message : ℕ) → (word : Word) → (next : State) → Row
  -- the cell reads the next word of a message into a variable, in a state
  Receives : (message variable : ℕ) → (next : State) → Row

-- the cell goes to this address, with this stack, and holds this
abbrev pub moves : ℕ → List Word → Held → Row
moves at stack held = Moves (record { at = at; stack = stack; held = held })

-- a row for the popped word and the rest of the stack
abbrev pub on_one : List Word → (Word → List Word → Row) → Row
on_one [] row = Stands
on_one (top ∷ rest) row = row top rest

-- a row for two popped words, the lower one first, and the rest of the stack
abbrev pub on_two : List Word → (Word → Word → List Word → Row) → Row
on_two stack row = on_one stack (λ top under. on_one under (λ lower rest. row lower top rest))

-- a counter after a turn of a loop: it grows by one, up to the number of turns
abbrev pub grown : ℕ → ℕ → ℕ
grown value turns = if nat_lt value turns then value + 1 else value

-- the row of each instruction, in a cell with a number and an input, in a state
abbrev pub row_of : ℕ → List ℤ → State → Instr → Row
row_of cell input s (Push number) = moves (s.at + 1) (Num number ∷ s.stack) s.held
row_of cell input s (Load word) = moves (s.at + 1) (variable s.held word ∷ s.stack) s.held
row_of cell input s (LoadAt base len line) =
    on_one s.stack (λ index rest. moves (s.at + 1) (element s.held base len index cell line ∷ rest) s.held)
row_of cell input s (Counter k) = moves (s.at + 1) (Num (pos (counter s.held k)) ∷ s.stack) s.held
row_of cell input s (Neg line) = on_one s.stack (λ a rest. moves (s.at + 1) (negated a cell line ∷ rest) s.held)
row_of cell input s (Bin op line) =
    on_two s.stack (λ a b rest. moves (s.at + 1) (applied op a b cell line ∷ rest) s.held)
row_of cell input s (Store word) =
    on_one s.stack (λ value rest. moves (s.at + 1) rest (with_word s.held word value))
row_of cell input s (StoreAt base len line) =
    on_two s.stack (λ index value rest. moves (s.at + 1) rest (with_element s.held base len index value cell line))
row_of cell input s (Write message) =
    on_one s.stack (λ value rest.
    Sends message (given s.held.kept value) (record { at = s.at + 1; stack = rest; held = s.held }))
row_of cell input s (Read message word) = Receives message word (record s { at = s.at + 1 })
row_of cell input s (Take word) = moves (s.at + 1) s.stack (with_taken s.held input word)
row_of cell input s Emit = on_one s.stack (λ value rest. moves (s.at + 1) rest (with_emitted s.held value))
row_of cell input s (Loop k turns exit) =
    moves (if nat_eq turns 0 then exit else s.at + 1) s.stack (with_counter s.held k 0)
row_of cell input s (Next k turns body) =
    let value = grown (counter s.held k) turns in
    moves (if nat_lt value turns then body else s.at + 1) s.stack (with_counter s.held k value)
row_of cell input s (IfZero target) =
    on_one s.stack (λ test rest.
    moves (if takes_first s.held.kept test then s.at + 1 else target) rest (tested s.held test))
row_of cell input s (Jump target) = moves target s.stack s.held
row_of cell input s Halt = Stands

-- the row of the instruction at a state's address; outside the code there is no step
abbrev pub row_at : List Instr → ℕ → List ℤ → State → Row
row_at code cell input s = elim (slice_get code s.at) [ None ↦ Stands | Some instr ↦ row_of cell input s instr ]

-- a state in which a read word is stored
abbrev pub received : State → ℕ → Word → State
received s variable word = record s { held = with_word s.held variable word }

-- the communication that an instruction makes, if it makes one
abbrev pub communication_of : Instr → Option Communication
communication_of (Write message) = Some (Writes message)
communication_of (Read message word) = Some (Reads message)
communication_of (Take word) = Some Takes
communication_of Emit = Some Emits
communication_of _ = None
