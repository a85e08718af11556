-- A cell alone, by its source: its statements are done one after another, over a given input and given streams. There
-- is no other cell, no queue and no code in it. What one event does to what the cell holds is in `sys_base`,
-- `specs/Held.antt`.
use Rattle.std.specs.Prelude.{ℕ, zero, suc, ◌+◌, if◌then◌else◌, nat_eq, ℤ, pos, List, [], ◌∷◌, ◌++◌, None, map, filter, replicate, slice_index_or}
use Rattle.sys_base.specs.Communications.{Communication, Writes, Reads, Takes, Emits, times}
use Rattle.sys_base.specs.Held.{Held, variable, with_word, counter, with_counter, element, with_element, takes_first, tested, given, with_taken, with_emitted, Streams, word_at}
use Rattle.sys_base.specs.Words.{applied, negated}
use Rattle.sys_base.specs.declared.word.Word.{Word}
use Rattle.sys_base.specs.declared.word.Word.TheVariants.{Num}
use Rattle.cell_types.specs.Code.{Expression, Number, Variable, Counter, Element, Negated, Applied, Action, Set, SetAt, Write, Read, Take, Emit, For, If, Block, End, Then, CellCode, ProgramCode}
use Rattle.cell_types.specs.Resolved.{cell_with}

-- a cell alone: what it holds, what it has communicated, and the words that it has written, each with its message
pub record Solo : Type 0 where
  pub held : Held
  pub made : List Communication
  pub sent : List (ℕ × Word)

-- the value of an expression of a statement on this line, in a cell that holds this
abbrev pub value_of : (cell line : ℕ) → Held → Expression → Word
value_of cell line held (Number number) = Num (pos number)
value_of cell line held (Variable word) = variable held word
value_of cell line held (Counter depth) = Num (pos (counter held depth))
value_of cell line held (Element base len index) = element held base len (value_of cell line held index) cell line
value_of cell line held (Negated operand) = negated (value_of cell line held operand) cell line
value_of cell line held (Applied op left right) =
    applied op (value_of cell line held left) (value_of cell line held right) cell line

-- this many turns of a loop, from this one on, each by its number
abbrev pub turns_from : (ℕ → Solo → Solo) → (first count : ℕ) → Solo → Solo
turns_from body first zero solo = solo
turns_from body first (suc count) solo = turns_from body (first + 1) count (body first solo)

-- a counter gets a value
abbrev pub counting : ℕ → ℕ → Solo → Solo
counting depth value solo = record solo { held = with_counter solo.held depth value }

-- a word is written to a message
abbrev pub writing : ℕ → Word → Solo → Solo
writing message word solo =
    record solo {
      made = solo.made ++ Writes message ∷ [];
      sent = solo.sent ++ (message, given solo.held.kept word) ∷ [];
    }

-- the next word of a message is read into a variable: its place in the stream is how often the message has been read
abbrev pub reading : Streams → ℕ → ℕ → Solo → Solo
reading streams message word solo =
    record {
      held = with_word solo.held word (word_at streams message (times (Reads message) solo.made));
      made = solo.made ++ Reads message ∷ [];
      sent = solo.sent;
    }

-- the next word of the input is taken into a variable
abbrev pub taking : List ℤ → ℕ → Solo → Solo
taking input word solo = record solo { held = with_taken solo.held input word; made = solo.made ++ Takes ∷ [] }

-- a word is emitted
abbrev pub emitting : Word → Solo → Solo
emitting word solo = record solo { held = with_emitted solo.held word; made = solo.made ++ Emits ∷ [] }

module _ (cell : ℕ) (input : List ℤ) (streams : Streams) where
  abbrev mutual
    -- what is done by a statement on this line
    pub do_action : (line : ℕ) → Action → Solo → Solo
    do_action line (Set word value) solo =
        record solo { held = with_word solo.held word (value_of cell line solo.held value) }
    do_action line (SetAt base len index value) solo =
        record solo {
          held = with_element solo.held base len
              (value_of cell line solo.held index) (value_of cell line solo.held value) cell line;
        }
    do_action line (Write message value) solo = writing message (value_of cell line solo.held value) solo
    do_action line (Read message word) solo = reading streams message word solo
    do_action line (Take word) solo = taking input word solo
    do_action line (Emit value) solo = emitting (value_of cell line solo.held value) solo
    do_action line (For depth turns body) solo =
        counting depth turns (turns_from (λ turn now. do_block body (counting depth turn now)) 0 turns solo)
    do_action line (If test first second) solo =
        let word = value_of cell line solo.held test in
        let now = record solo { held = tested solo.held word } in
        if takes_first solo.held.kept word then do_block first now else do_block second now

    -- what is done by statements, one after another
    pub do_block : Block → Solo → Solo
    do_block End solo = solo
    do_block (Then line action rest) solo = do_block rest (do_action line action solo)

-- a cell with this many words and counters that has done nothing: its words are the number 0, and so are its counters
abbrev pub opening : (words counters : ℕ) → Solo
opening words counters =
    record {
      held = record {
        words = replicate words (Num (pos 0));
        counters = replicate counters 0;
        kept = None;
        taken = 0;
        output = [];
      };
      made = [];
      sent = [];
    }

-- the code of a cell of a program by its index; it has no statements where there is no such cell
abbrev pub code_of : ProgramCode → ℕ → CellCode
code_of program cell = slice_index_or program.cells cell (cell_with 0 End)

-- a cell of a program alone, by its index: what it has come to at the end of its statements, for its input and these
-- streams
abbrev pub solo : ProgramCode → (cell : ℕ) → (input : List ℤ) → Streams → Solo
solo program cell input streams =
    let code = code_of program cell in
    do_block cell input streams code.body (opening code.words code.counters)

-- the words that were written to a message, in order
abbrev pub written_to : ℕ → Solo → List Word
written_to message solo = map (λ sent. sent.1) (filter (λ sent. nat_eq message sent.0) solo.sent)

-- the words that were emitted, in order
abbrev pub emitted : Solo → List Word
emitted solo = solo.held.output
