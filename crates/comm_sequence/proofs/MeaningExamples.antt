-- The meaning, computed on a filter of three cells and on two cells that agree.
use Rattle.std.proofs.Common.{◌≡◌, ℕ, zero, suc, ◌<◌, List, [], ◌∷◌, None, Some, length, slice_get, subst, refl, arith}
use Rattle.std.specs.Prelude.{ℤ, pos}
use Rattle.sys_base.specs.Held.{Streams}
use Rattle.sys_base.specs.declared.kinds.Op.TheVariants.{Add, Mul}
use Rattle.sys_base.specs.declared.word.Word.{Word}
use Rattle.sys_base.specs.declared.word.Word.TheVariants.{Num}
use Rattle.cell_types.specs.Code.{Expression, Number, Variable, Applied, Action, Set, Write, Read, Take, Emit, For, Block, End, Then, CellCode, ProgramCode}
use Rattle.cell_types.specs.Communications.{length_of}
use Rattle.cell_types.specs.Solo.{written_to}
use Rattle.cell_types.specs.declared.program.Message.{Message}
use Rattle.comm_sequence.specs.Meaning.{alone, Agree, IsMeaning, words_emitted}

-- statements on line 2, one after another
abbrev body : List Action → Block
body [] = End
body (a ∷ more) = Then 2 a (body more)

-- a cell with three words, whose statements are four turns of these
abbrev four_turns : List Action → CellCode
four_turns actions =
    record { words = 3; counters = 1; stack = 3; body = body (For 0 4 (body actions) ∷ []) }

-- a variable times a number, added to another variable
abbrev plus_times : ℕ → ℕ → ℕ → Expression
plus_times y factor old = Applied Add (Variable y) (Applied Mul (Number factor) (Variable old))

-- a message between two cells, over this link
abbrev message : (name from to link : ℕ) → Message
message name from to link = record { name = name ∷ []; from = from; to = to; route = link ∷ []; label = None }

-- A filter with the taps 1, 2 and 3: the samples and the sums go from cell to cell, the samples one turn later each
-- time. Message 0 has the samples of the first cell, 1 its sums, 2 and 3 those of the second one. Variable 0 is x, 1
-- is y, 2 is old.
abbrev filter_program : ProgramCode
filter_program =
    record {
      grid = record { rows = 1; cols = 3 };
      queues = 0 ∷ 2 ∷ 0 ∷ 0 ∷ 0 ∷ 2 ∷ 0 ∷ 2 ∷ 0 ∷ 0 ∷ 0 ∷ 2 ∷ [];
      messages = message 88 0 1 1 ∷ message 89 0 1 1 ∷ message 90 1 2 5 ∷ message 91 1 2 5 ∷ [];
      cells = four_turns (Take 0 ∷ Write 1 (Applied Mul (Number 1) (Variable 0)) ∷ Write 0 (Variable 0) ∷ [])
          ∷ four_turns (Read 1 1 ∷ Read 0 0 ∷ Write 3 (plus_times 1 2 2) ∷ Write 2 (Variable 2) ∷ Set 2 (Variable 0) ∷ [])
          ∷ four_turns (Read 3 1 ∷ Read 2 0 ∷ Emit (plus_times 1 3 2) ∷ Set 2 (Variable 0) ∷ []) ∷ [];
      buffer = 0;
    }

-- four words
abbrev words : (a b c d : ℕ) → List Word
words a b c d = Num (pos a) ∷ Num (pos b) ∷ Num (pos c) ∷ Num (pos d) ∷ []

-- the input of the first cell: one sample of 1, and then 0
abbrev inputs : List (List ℤ)
inputs = (pos 1 ∷ pos 0 ∷ pos 0 ∷ pos 0 ∷ []) ∷ [] ∷ [] ∷ []

-- the words of the messages
abbrev streams : Streams
streams zero = words 1 0 0 0
streams (suc zero) = words 1 0 0 0
streams (suc (suc zero)) = words 0 1 0 0
streams (suc (suc (suc zero))) = words 1 2 0 0
streams (suc (suc (suc (suc n)))) = []

-- The last cell emits the taps.
taps : words_emitted filter_program inputs streams ≡ [] ∷ [] ∷ words 1 2 3 0 ∷ []
taps = refl

agree : Agree filter_program inputs streams
agree =
    record {
      lengths = λ index within. long index within;
      written = λ index message at. sent index message at;
    }
  where
    long : (index : ℕ) → index < 4 → length (streams index) ≡ length_of filter_program index
    long zero within = refl
    long (suc zero) within = refl
    long (suc (suc zero)) within = refl
    long (suc (suc (suc zero))) within = refl
    long (suc (suc (suc (suc n)))) within = absurd (omega arith)

    sent : (index : ℕ) (m : Message) → slice_get filter_program.messages index ≡ Some m
        → written_to index (alone filter_program inputs streams m.from) ≡ streams index
    sent zero m at =
        let e : message 88 0 1 1 ≡ m = cc at in
        subst (λ (m : Message). written_to 0 (alone filter_program inputs streams m.from) ≡ streams 0) e refl
    sent (suc zero) m at =
        let e : message 89 0 1 1 ≡ m = cc at in
        subst (λ (m : Message). written_to 1 (alone filter_program inputs streams m.from) ≡ streams 1) e refl
    sent (suc (suc zero)) m at =
        let e : message 90 1 2 5 ≡ m = cc at in
        subst (λ (m : Message). written_to 2 (alone filter_program inputs streams m.from) ≡ streams 2) e refl
    sent (suc (suc (suc zero))) m at =
        let e : message 91 1 2 5 ≡ m = cc at in
        subst (λ (m : Message). written_to 3 (alone filter_program inputs streams m.from) ≡ streams 3) e refl
    sent (suc (suc (suc (suc n)))) m at = absurd (cc at)

-- So that is the meaning.
meaning : IsMeaning filter_program inputs ([] ∷ [] ∷ words 1 2 3 0 ∷ [])
meaning = record { streams = streams; agree = agree; words = refl }
