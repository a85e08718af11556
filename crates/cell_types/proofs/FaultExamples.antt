-- A source for each of the static faults.
use Rattle.std.proofs.Common.{◌≡◌, ℕ, List, [], ◌∷◌, true, false, refl}
use Rattle.std.specs.Prelude.{Some, replicate}
use Rattle.sys_base.specs.declared.kinds.Dir.{Dir}
use Rattle.sys_base.specs.declared.kinds.Dir.TheVariants as D
use Rattle.sys_base.specs.declared.kinds.Limit.TheVariants as L
use Rattle.sys_base.specs.Grid.{Extent}
use Rattle.cell_tree.specs.declared.source.LinkDecl.{LinkDecl}
use Rattle.cell_tree.specs.declared.source.MessageDecl.{MessageDecl}
use Rattle.cell_tree.specs.declared.source.VarDecl.{VarDecl}
use Rattle.cell_types.specs.Faults.{source_faults, message_faults, var_faults}
use Rattle.cell_types.specs.Written as T
use Rattle.cell_types.specs.Written.{WrittenStatement, WrittenCell, WrittenSource}
use Rattle.cell_types.specs.declared.error.Found.TheVariants as F
use Rattle.cell_types.specs.declared.error.RouteFault.TheVariants as R
use Rattle.cell_types.specs.declared.error.StaticError.TheVariants as E
use Rattle.cell_types.specs.declared.error.What.TheVariants as W
use Rattle.cell_types.proofs.Examples.{place, stmt, variable, array, cell, message, source, loop, named_A, named_B, named_x, named_i, from_left, reader, writer}

-- a source of one row of two cells with these messages and cells
abbrev pair : List MessageDecl → List WrittenCell → WrittenSource
pair messages cells = source 1 2 1 messages cells

-- a source of one cell with these variables and statements
abbrev alone : List VarDecl → List WrittenStatement → WrittenSource
alone vars body = source 1 1 1 [] (cell 0 0 vars body ∷ [])

-- a message from 0.0 to 0.1 along these directions
abbrev along : List Dir → MessageDecl
along dirs = record from_left { route = dirs }

many_rows : source_faults (source 17 1 1 [] []) ≡ E.Limit L.Rows 1 ∷ []
many_rows = refl

no_columns : source_faults (source 1 0 1 [] []) ≡ E.Limit L.Columns 1 ∷ []
no_columns = refl

largest : source_faults (source 16 16 32 [] []) ≡ []
largest = refl

many_queues : source_faults (source 1 1 33 [] []) ≡ E.Limit L.Queues 1 ∷ []
many_queues = refl

largest_buffer : source_faults (record (source 1 1 1 [] []) { buffer = 64; buffer_line = 2 }) ≡ []
largest_buffer = refl

large_buffer : source_faults (record (source 1 1 1 [] []) { buffer = 65; buffer_line = 2 }) ≡ E.Limit L.Buffer 2 ∷ []
large_buffer = refl

-- `link 0.0 E queues 2;` and others
abbrev link : Dir → ℕ → ℕ → LinkDecl
link dir queues line = record { place = place 0 0; dir = dir; queues = queues; line = line }

abbrev linked : List LinkDecl → WrittenSource
linked links = record (pair [] []) { links = links }

one_link : source_faults (linked (link D.E 2 2 ∷ [])) ≡ []
one_link = refl

no_neighbour : source_faults (linked (link D.S 2 2 ∷ [])) ≡ E.OutsideGrid 2 ∷ []
no_neighbour = refl

link_twice : source_faults (linked (link D.E 2 2 ∷ link D.E 2 3 ∷ [])) ≡ E.Twice (W.Link 1) 3 ∷ []
link_twice = refl

link_of_no_queues : source_faults (linked (link D.E 0 2 ∷ [])) ≡ E.Limit L.Queues 2 ∷ []
link_of_no_queues = refl

message_twice : source_faults (pair (from_left ∷ from_left ∷ []) (writer ∷ reader ∷ [])) ≡ E.Twice (W.Named named_A) 1 ∷ []
message_twice = refl

-- The 512th message is fine, and the 513th is not.
abbrev two_cells : Extent
two_cells = record { rows = 1; cols = 2 }

message_512 : message_faults two_cells (replicate 511 (message named_B (place 0 0) (place 0 1))) from_left ≡ []
message_512 = refl

message_513 : message_faults two_cells (replicate 512 (message named_B (place 0 0) (place 0 1))) from_left
    ≡ E.Limit L.Messages 1 ∷ []
message_513 = refl

to_itself : source_faults (pair (message named_A (place 0 0) (place 0 0) ∷ []) []) ≡ E.SelfMessage named_A 1 ∷ []
to_itself = refl

around : source_faults (pair (along (D.E ∷ D.W ∷ []) ∷ []) []) ≡ E.Route named_A R.WrongEnd 1 ∷ []
around = refl

off_the_grid : source_faults (pair (along (D.E ∷ D.E ∷ []) ∷ []) []) ≡ E.Route named_A R.LeavesGrid 1 ∷ []
off_the_grid = refl

twice_over : source_faults (pair (along (D.E ∷ D.W ∷ D.E ∷ []) ∷ []) []) ≡ E.Route named_A (R.LinkTwice 1) 1 ∷ []
twice_over = refl

-- The first fault of a walk counts, and where the receiver is no cell the first fault of the list is that.
twice_and_off : source_faults (pair (along (D.E ∷ D.W ∷ D.E ∷ D.N ∷ []) ∷ []) []) ≡ E.Route named_A (R.LinkTwice 1) 1 ∷ []
twice_and_off = refl

largest_label : source_faults (pair (record from_left { label = Some 65535 } ∷ []) []) ≡ []
largest_label = refl

large_label : source_faults (pair (record from_left { label = Some 65536 } ∷ []) []) ≡ E.Limit L.Label 1 ∷ []
large_label = refl

cell_twice : source_faults (pair [] (cell 0 1 [] [] ∷ cell 0 1 [] [] ∷ [])) ≡ E.Twice (W.Cell 1) 1 ∷ []
cell_twice = refl

cell_outside : source_faults (pair [] (cell 0 2 [] [] ∷ [])) ≡ E.OutsideGrid 1 ∷ []
cell_outside = refl

variable_twice : source_faults (alone (variable named_x ∷ array named_x 2 ∷ []) []) ≡ E.Twice (W.Named named_x) 1 ∷ []
variable_twice = refl

variable_like_a_message : source_faults (pair (from_left ∷ []) (cell 0 0 (variable named_A ∷ []) [] ∷ []))
    ≡ E.Twice (W.Named named_A) 1 ∷ []
variable_like_a_message = refl

variable_64 : var_faults [] (replicate 63 (variable named_x)) (variable named_i) ≡ []
variable_64 = refl

variable_65 : var_faults [] (replicate 64 (variable named_x)) (variable named_i) ≡ E.Limit L.Names 1 ∷ []
variable_65 = refl

no_words : source_faults (alone (array named_x 0 ∷ []) []) ≡ E.Limit L.Words 1 ∷ []
no_words = refl

most_words : source_faults (alone (variable named_i ∷ array named_x 1023 ∷ []) []) ≡ []
most_words = refl

many_words : source_faults (alone (variable named_i ∷ array named_x 1024 ∷ []) []) ≡ E.Limit L.Words 1 ∷ []
many_words = refl

unknown_message : source_faults (pair (from_left ∷ []) (cell 0 0 [] (stmt (T.Write named_B (T.Number 7)) ∷ []) ∷ []))
    ≡ E.Unknown named_B 1 ∷ []
unknown_message = refl

-- The end of a message comes before what is written.
receiver_writes : source_faults (pair (from_left ∷ []) (cell 0 1 [] (stmt (T.Write named_A (T.Named named_x)) ∷ []) ∷ []))
    ≡ E.WrongEnd named_A 1 true 1 ∷ E.Unknown named_x 1 ∷ []
receiver_writes = refl

sender_reads : source_faults (pair (from_left ∷ []) (cell 0 0 (variable named_x ∷ []) (stmt (T.Read named_A named_x) ∷ []) ∷ []))
    ≡ E.WrongEnd named_A 0 false 1 ∷ []
sender_reads = refl

-- `for i 2 { i = 1; }`
set_a_counter : source_faults (alone [] (loop named_i 2 (stmt (T.Set named_i (T.Number 1)) ∷ []) ∷ []))
    ≡ E.WrongKind named_i F.Counter 1 ∷ []
set_a_counter = refl

-- A counter means nothing behind its loop, and may be used again there.
behind_its_loop : source_faults (alone [] (loop named_i 2 [] ∷ stmt (T.Emit (T.Named named_i)) ∷ []))
    ≡ E.Unknown named_i 1 ∷ []
behind_its_loop = refl

loop_again : source_faults (alone [] (loop named_i 2 [] ∷ loop named_i 2 [] ∷ [])) ≡ []
loop_again = refl

counter_twice : source_faults (alone [] (loop named_i 2 (loop named_i 2 [] ∷ []) ∷ []))
    ≡ E.Twice (W.Named named_i) 1 ∷ []
counter_twice = refl

counter_like_a_variable : source_faults (alone (variable named_i ∷ []) (loop named_i 2 [] ∷ []))
    ≡ E.Twice (W.Named named_i) 1 ∷ []
counter_like_a_variable = refl

most_turns : source_faults (alone [] (loop named_i 65535 [] ∷ [])) ≡ []
most_turns = refl

many_turns : source_faults (alone [] (loop named_i 65536 [] ∷ [])) ≡ E.Limit L.Turns 1 ∷ []
many_turns = refl

-- An array is no value, a variable is no array, and a message is neither.
array_as_value : source_faults (alone (array named_x 2 ∷ []) (stmt (T.Emit (T.Named named_x)) ∷ []))
    ≡ E.WrongKind named_x F.Array 1 ∷ []
array_as_value = refl

variable_as_array : source_faults (alone (variable named_x ∷ []) (stmt (T.Emit (T.Element named_x (T.Number 0))) ∷ []))
    ≡ E.WrongKind named_x F.Variable 1 ∷ []
variable_as_array = refl

take_a_message : source_faults (pair (from_left ∷ []) (cell 0 0 [] (stmt (T.Take named_A) ∷ []) ∷ []))
    ≡ E.WrongKind named_A F.Message 1 ∷ []
take_a_message = refl
