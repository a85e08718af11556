-- The definitions on whole sources.
use Rattle.std.proofs.Common.{◌≡◌, ℕ, List, [], ◌∷◌, ◌++◌, refl}
use Rattle.std.specs.Prelude.{codes, map, Some, None, replicate, slice_get}
use Rattle.std.specs.Option.{option_map_or}
use Rattle.sys_base.specs.declared.kinds.Op.TheVariants as O
use Rattle.cell_tree.specs.declared.source.MessageDecl.{MessageDecl}
use Rattle.cell_tree.specs.declared.source.Place.{Place}
use Rattle.cell_tree.specs.declared.source.VarDecl.{VarDecl}
use Rattle.cell_types.specs.Alike.{AlikeBlock}
use Rattle.cell_types.specs.Code as C
use Rattle.cell_types.specs.Code.{Block, CellCode}
use Rattle.cell_types.specs.Communications.{Writes, Reads, Emits, communications, takes_of, emits_of}
use Rattle.cell_types.specs.Cost.{block_cost, cells_cost}
use Rattle.cell_types.specs.Depth.{expression_stack}
use Rattle.cell_types.specs.Faults.{source_faults}
use Rattle.cell_types.specs.Groups.{bound, groups, need, lengths_of, rising, routes_of}
use Rattle.cell_types.specs.Resolved.{resolved_program}
use Rattle.cell_types.specs.Written as T
use Rattle.cell_types.specs.Written.{WrittenExpression, WrittenAction, WrittenStatement, WrittenCell, WrittenSource, in_block}

-- a row and a column
abbrev pub place : ℕ → ℕ → Place
place row col = record { row = row; col = col }

-- a statement on line 1
abbrev pub stmt : WrittenAction → WrittenStatement
stmt action = record { line = 1; act = action }

-- a loop and a choice of these statements
abbrev pub loop : List ℕ → ℕ → List WrittenStatement → WrittenStatement
loop counter turns body = stmt (T.For counter turns (in_block body))

abbrev pub choice : WrittenExpression → List WrittenStatement → List WrittenStatement → WrittenStatement
choice test first second = stmt (T.If test (in_block first) (in_block second))

-- a variable on line 1
abbrev pub variable : List ℕ → VarDecl
variable name = record { name = name; length = None; line = 1 }

-- an array on line 1
abbrev pub array : List ℕ → ℕ → VarDecl
array name n = record { name = name; length = Some n; line = 1 }

-- a cell on line 1
abbrev pub cell : ℕ → ℕ → List VarDecl → List WrittenStatement → WrittenCell
cell row col vars body = record { place = place row col; vars = vars; body = in_block body; line = 1 }

-- a message on line 1, without a route and a label
abbrev pub message : List ℕ → Place → Place → MessageDecl
message name from to = record { name = name; from = from; to = to; route = []; label = None; line = 1 }

-- a source on line 1 without `link` lines
abbrev pub source : ℕ → ℕ → ℕ → List MessageDecl → List WrittenCell → WrittenSource
source rows cols queues messages cells =
    record {
      rows = rows;
      cols = cols;
      array_line = 1;
      queues = queues;
      queues_line = 1;
      buffer = 0;
      buffer_line = 0;
      links = [];
      messages = messages;
      cells = cells;
    }

-- the statements of a cell of a source
abbrev body_at : WrittenSource → ℕ → Block
body_at s index = option_map_or (λ (c : CellCode). c.body) (slice_get (resolved_program s).cells index) C.End

abbrev pub named_A : List ℕ
named_A = codes "A"

abbrev pub named_B : List ℕ
named_B = codes "B"

abbrev pub named_x : List ℕ
named_x = codes "x"

abbrev pub named_i : List ℕ
named_i = codes "i"

-- `message A from 0.0 to 0.1;`
abbrev pub from_left : MessageDecl
from_left = message named_A (place 0 0) (place 0 1)

-- `var x; read A x; emit x;`
abbrev pub reader : WrittenCell
reader = cell 0 1 (variable named_x ∷ []) (stmt (T.Read named_A named_x) ∷ stmt (T.Emit (T.Named named_x)) ∷ [])

-- `write A 7;`
abbrev pub writer : WrittenCell
writer = cell 0 0 [] (stmt (T.Write named_A (T.Number 7)) ∷ [])

-- One word from one cell to the next.
abbrev pub one_word : WrittenSource
one_word = source 1 2 1 (from_left ∷ []) (writer ∷ reader ∷ [])

one_word_faults : source_faults one_word ≡ []
one_word_faults = refl

one_word_program : resolved_program one_word ≡ record {
  grid = record { rows = 1; cols = 2 };
  queues = 0 ∷ 1 ∷ 0 ∷ 0 ∷ 0 ∷ 0 ∷ 0 ∷ 1 ∷ [];
  messages = record { name = named_A; from = 0; to = 1; route = 1 ∷ []; label = None } ∷ [];
  cells =
      record { words = 0; counters = 0; stack = 1; body = C.Then 1 (C.Write 0 (C.Number 7)) C.End }
      ∷ record {
        words = 1;
        counters = 0;
        stack = 1;
        body = C.Then 1 (C.Read 0 0) (C.Then 1 (C.Emit (C.Variable 0)) C.End);
      } ∷ [];
  buffer = 0;
}
one_word_program = refl

one_word_writes : communications (resolved_program one_word) 0 ≡ Writes 0 ∷ []
one_word_writes = refl

one_word_reads : communications (resolved_program one_word) 1 ≡ Reads 0 ∷ Emits ∷ []
one_word_reads = refl

one_word_nowhere : communications (resolved_program one_word) 2 ≡ []
one_word_nowhere = refl

one_word_groups : groups (routes_of (resolved_program one_word)) (0 ∷ []) (1 ∷ []) 1 ≡ (0, 0 ∷ []) ∷ []
one_word_groups = refl

one_word_bound : bound (resolved_program one_word) (0 ∷ []) ≡ 6
one_word_bound = refl

-- Two messages from one cell to the next, written in this order.
abbrev two_messages : WrittenSource
two_messages =
    source 1 2 1 (from_left ∷ message named_B (place 0 0) (place 0 1) ∷ [])
    (cell 0 0 []
    (stmt (T.Write named_A (T.Number 1)) ∷ stmt (T.Write named_A (T.Number 2)) ∷ stmt (T.Write named_B (T.Number 3)) ∷ [])
    ∷ cell 0 1 (variable named_x ∷ [])
    (stmt (T.Read named_A named_x) ∷ stmt (T.Read named_A named_x) ∷ stmt (T.Read named_B named_x)
    ∷ stmt (T.Emit (T.Named named_x)) ∷ []) ∷ [])

two_messages_lengths : lengths_of (resolved_program two_messages) ≡ 2 ∷ 1 ∷ []
two_messages_lengths = refl

-- Messages of different labels use a queue one after the other, and those of one label together.
two_groups : groups (routes_of (resolved_program two_messages)) (0 ∷ 1 ∷ []) (2 ∷ 1 ∷ []) 1 ≡ (0, 0 ∷ []) ∷ (1, 1 ∷ []) ∷ []
two_groups = refl

one_group : groups (routes_of (resolved_program two_messages)) (3 ∷ 3 ∷ []) (2 ∷ 1 ∷ []) 1 ≡ (3, 0 ∷ 1 ∷ []) ∷ []
one_group = refl

two_groups_need : need (routes_of (resolved_program two_messages)) (0 ∷ 1 ∷ []) (2 ∷ 1 ∷ []) 1 ≡ 1
two_groups_need = refl

one_group_needs : need (routes_of (resolved_program two_messages)) (3 ∷ 3 ∷ []) (2 ∷ 1 ∷ []) 1 ≡ 2
one_group_needs = refl

-- A message of length 0 is in no group.
empty_message : groups (routes_of (resolved_program two_messages)) (3 ∷ 1 ∷ []) (2 ∷ 0 ∷ []) 1 ≡ (3, 0 ∷ []) ∷ []
empty_message = refl

unused_link : need (routes_of (resolved_program two_messages)) (0 ∷ 1 ∷ []) (2 ∷ 1 ∷ []) 7 ≡ 0
unused_link = refl

two_messages_bound : bound (resolved_program two_messages) (0 ∷ 1 ∷ []) ≡ 13
two_messages_bound = refl

sorted_once : rising (4 ∷ 1 ∷ 4 ∷ 0 ∷ []) ≡ 0 ∷ 1 ∷ 4 ∷ []
sorted_once = refl

-- `for i 3 { write A i + 1; }` and `for i 3 { read A x; emit x; }`, two links apart
abbrev three_words : WrittenSource
three_words =
    source 1 3 1 (message named_A (place 0 0) (place 0 2) ∷ [])
    (cell 0 0 []
    (loop named_i 3 (stmt (T.Write named_A (T.Applied O.Add (T.Named named_i) (T.Number 1))) ∷ []) ∷ [])
    ∷ cell 0 2 (variable named_x ∷ [])
    (loop named_i 3 (stmt (T.Read named_A named_x) ∷ stmt (T.Emit (T.Named named_x)) ∷ []) ∷ []) ∷ [])

three_words_faults : source_faults three_words ≡ []
three_words_faults = refl

three_words_bound : bound (resolved_program three_words) (0 ∷ []) ≡ 34
three_words_bound = refl

three_words_writes : communications (resolved_program three_words) 0 ≡ Writes 0 ∷ Writes 0 ∷ Writes 0 ∷ []
three_words_writes = refl

three_words_emits : emits_of (resolved_program three_words) 2 ≡ 3
three_words_emits = refl

three_words_takes : takes_of (resolved_program three_words) 2 ≡ 0
three_words_takes = refl

-- A cell that is not declared is empty.
three_words_middle : slice_get (resolved_program three_words).cells 1
    ≡ Some (record { words = 0; counters = 0; stack = 0; body = C.End })
three_words_middle = refl

three_words_first : slice_get (resolved_program three_words).cells 0
    ≡ Some (record {
      words = 0;
      counters = 1;
      stack = 2;
      body = C.Then 1
          (C.For 0 3 (C.Then 1 (C.Write 0 (C.Applied O.Add (C.Counter 0) (C.Number 1))) C.End)) C.End;
    })
three_words_first = refl

-- `if 1 { for i 2 { write A 1; } } else { write A 2; write A 3; }`: arms that are written differently and communicate alike
abbrev alike_arms : WrittenSource
alike_arms =
    source 1 2 1 (from_left ∷ [])
    (cell 0 0 []
    (choice (T.Number 1)
    (loop named_i 2 (stmt (T.Write named_A (T.Number 1)) ∷ []) ∷ [])
    (stmt (T.Write named_A (T.Number 2)) ∷ stmt (T.Write named_A (T.Number 3)) ∷ []) ∷ [])
    ∷ cell 0 1 (variable named_x ∷ [])
    (loop named_i 2 (stmt (T.Read named_A named_x) ∷ stmt (T.Emit (T.Named named_x)) ∷ []) ∷ []) ∷ [])

alike_arms_costs : map (λ (c : CellCode). block_cost c.body) (resolved_program alike_arms).cells ≡ 10 ∷ 9 ∷ []
alike_arms_costs = refl

alike_arms_bound : bound (resolved_program alike_arms) (0 ∷ []) ≡ 20
alike_arms_bound = refl

alike_arms_alike : AlikeBlock (body_at alike_arms 0)
alike_arms_alike = ((refl, ((tt, tt), tt), (tt, (tt, tt))), tt)

-- `if 1 { emit 1; } else { }`
abbrev one_armed : WrittenStatement
one_armed = choice (T.Number 1) (stmt (T.Emit (T.Number 1)) ∷ []) []

-- Its arms are not alike, but for a loop of 0 turns.
not_alike : AlikeBlock (body_at (source 1 1 1 [] (cell 0 0 [] (one_armed ∷ []) ∷ [])) 0) → ⊥
not_alike alike = cc alike.0.0

never_run : AlikeBlock (body_at (source 1 1 1 [] (cell 0 0 [] (loop named_i 0 (one_armed ∷ []) ∷ []) ∷ [])) 0)
never_run = (tt, tt)

-- `x = 0;` 126 times and `x = -x;` once
abbrev long_body : List WrittenStatement
long_body =
    replicate 126 (stmt (T.Set named_x (T.Number 0))) ++ stmt (T.Set named_x (T.Negated (T.Named named_x))) ∷ []

-- `for i 65535 { .. }` and the same statements behind it take just as many steps as cells may.
most_steps : cells_cost
    (resolved_program (source 1 1 1 [] (cell 0 0 (variable named_x ∷ []) (loop named_i 65535 long_body ∷ long_body) ∷ [])))
    ≡ 16777216
most_steps = refl

-- `1 + (2 + 3)` needs a stack of three words, and `1 + 2 + 3` one of two.
to_the_right : expression_stack (C.Applied O.Add (C.Number 1) (C.Applied O.Add (C.Number 2) (C.Number 3))) ≡ 3
to_the_right = refl

to_the_left : expression_stack (C.Applied O.Add (C.Applied O.Add (C.Number 1) (C.Number 2)) (C.Number 3)) ≡ 2
to_the_left = refl
