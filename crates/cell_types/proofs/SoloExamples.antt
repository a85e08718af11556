-- Cells alone, on programs whose words are known.
use Rattle.std.proofs.Common.{◌≡◌, ℕ, ◌+◌, ℤ, pos, negsuc, List, [], ◌∷◌, refl}
use Rattle.sys_base.specs.Communications.{Writes, Reads, Takes}
use Rattle.sys_base.specs.Held.{Streams}
use Rattle.sys_base.specs.Words.{fault_at}
use Rattle.sys_base.specs.declared.kinds.Kind.TheVariants as K
use Rattle.sys_base.specs.declared.kinds.Op.TheVariants as O
use Rattle.sys_base.specs.declared.word.Word.{Word}
use Rattle.sys_base.specs.declared.word.Word.TheVariants.{Num}
use Rattle.cell_types.specs.Code.{Number, Variable, Counter, Element, Negated, Applied, Set, SetAt, Write, Read, Take, Emit, For, If, Block, End, Then}
use Rattle.cell_types.specs.Solo.{Solo, do_block, opening, written_to, emitted}

-- no word in any stream
abbrev silent : Streams
silent message = []

-- a cell by its index, its words, its counters and its statements, with an input and streams
abbrev alone : (cell words counters : ℕ) → Block → List ℤ → Streams → Solo
alone cell words counters body input streams = do_block cell input streams body (opening words counters)

-- a number
abbrev num : ℕ → Word
num n = Num (pos n)

-- ---- `emit 1 / 0;` on line 3

abbrev by_zero : Solo
by_zero = alone 0 0 0 (Then 3 (Emit (Applied O.Div (Number 1) (Number 0))) End) [] silent

by_zero_emits : emitted by_zero ≡ fault_at K.Z 0 3 ∷ []
by_zero_emits = refl

-- ---- `if 1 / 0 { write A 5; } else { write A 6; }` on line 3, and `write A 7;` on line 4

abbrev breaking : Solo
breaking =
    alone 0 0 0 (
    Then 3 (If (Applied O.Div (Number 1) (Number 0)) (Then 3 (Write 0 (Number 5)) End) (Then 3 (Write 0 (Number 6)) End)) (
    Then 4 (Write 0 (Number 7)) End)) [] silent

-- a broken cell writes the fault that it keeps in place of each word
breaking_writes : written_to 0 breaking ≡ fault_at K.Z 0 3 ∷ fault_at K.Z 0 3 ∷ []
breaking_writes = refl

-- what it communicates is what it would communicate unbroken
breaking_made : breaking.made ≡ Writes 0 ∷ Writes 0 ∷ []
breaking_made = refl

-- and none of it to another message
breaking_elsewhere : written_to 1 breaking ≡ []
breaking_elsewhere = refl

-- its reader: `for i 2 { read A x; emit x; }`
abbrev passing_on : Solo
passing_on =
    alone 1 1 1 (Then 6 (For 0 2 (Then 6 (Read 0 0) (Then 6 (Emit (Variable 0)) End))) End) []
    (λ message. fault_at K.Z 0 3 ∷ num 9 ∷ [])

-- a fault that is read does not break a cell
passing_on_emits : emitted passing_on ≡ fault_at K.Z 0 3 ∷ num 9 ∷ []
passing_on_emits = refl

-- the counter has counted both turns
passing_on_counts : passing_on.held.counters ≡ 2 ∷ []
passing_on_counts = refl

-- ---- `var a[2];` and on the lines from 4 on `emit (-9223372036854775807 - 1) / -1;` `emit a[2];` `emit a[1] + 4;` `a[2] = 1;`
-- `emit 3;`

abbrev outside : Solo
outside =
    alone 0 2 0 (
    Then 4 (Emit (Applied O.Div (Applied O.Sub (Negated (Number 9223372036854775807)) (Number 1)) (Negated (Number 1)))) (
    Then 5 (Emit (Element 0 2 (Number 2))) (
    Then 6 (Emit (Applied O.Add (Element 0 2 (Number 1)) (Number 4))) (
    Then 7 (SetAt 0 2 (Number 2) (Number 1)) (
    Then 8 (Emit (Number 3)) End))))) [] silent

outside_emits : emitted outside ≡ fault_at K.O 0 4 ∷ fault_at K.X 0 5 ∷ num 4 ∷ fault_at K.X 0 7 ∷ []
outside_emits = refl

-- a store outside the array changes no element
outside_words : outside.held.words ≡ num 0 ∷ num 0 ∷ []
outside_words = refl

-- ---- `for i 3 { read A x; take y; write B x - y * i; }` with two words of input and two of A

abbrev mixing : Solo
mixing =
    alone 2 2 1 (
    Then 3 (For 0 3 (
    Then 3 (Read 4 0) (
    Then 3 (Take 1) (
    Then 3 (Write 5 (Applied O.Sub (Variable 0) (Applied O.Mul (Variable 1) (Counter 0)))) End)))) End)
    (pos 7 ∷ negsuc 1 ∷ []) (λ message. num message ∷ num 30 ∷ [])

-- past the end of the input and of a stream there is the number 0
mixing_writes : written_to 5 mixing ≡ num 4 ∷ num 32 ∷ num 0 ∷ []
mixing_writes = refl

mixing_made : mixing.made ≡ Reads 4 ∷ Takes ∷ Writes 5 ∷ Reads 4 ∷ Takes ∷ Writes 5 ∷ Reads 4 ∷ Takes ∷ Writes 5 ∷ []
mixing_made = refl

-- ---- a loop of no turns, both arms of an `if`, and a store in an array by a counter

abbrev choosing : Solo
choosing =
    alone 0 3 2 (
    Then 1 (For 0 0 (Then 1 (Emit (Number 1)) End)) (
    Then 2 (For 0 3 (Then 2 (SetAt 0 3 (Counter 0) (Applied O.Mul (Counter 0) (Counter 0))) End)) (
    Then 3 (For 0 2 (Then 3 (If (Counter 0) (Then 3 (Emit (Element 0 3 (Number 2))) End) (Then 3 (Emit (Number 8)) End)) End)) End)))
    [] silent

choosing_emits : emitted choosing ≡ num 8 ∷ num 4 ∷ []
choosing_emits = refl

choosing_words : choosing.held.words ≡ num 0 ∷ num 1 ∷ num 4 ∷ []
choosing_words = refl

-- ---- the first fault is kept: an index that is a fault on line 1, and one that is negative on line 2

abbrev twice_broken : Solo
twice_broken =
    alone 3 1 0 (
    Then 1 (SetAt 0 1 (Applied O.Rem (Number 1) (Number 0)) (Number 1)) (
    Then 2 (SetAt 0 1 (Negated (Number 1)) (Number 1)) (
    Then 3 (Set 0 (Number 5)) (
    Then 4 (Emit (Number 1)) End)))) [] silent

twice_broken_emits : emitted twice_broken ≡ fault_at K.Z 3 1 ∷ []
twice_broken_emits = refl

-- a broken cell goes on assigning
twice_broken_words : twice_broken.held.words ≡ num 5 ∷ []
twice_broken_words = refl

-- ---- the arms of an `if` that breaks the cell, and of one after it: `if 1 / 0 { x = 1; } else { x = 2; }`
-- `if 1 { y = 1; } else { y = 2; }`

abbrev second_arms : Solo
second_arms =
    alone 0 2 0 (
    Then 1 (If (Applied O.Div (Number 1) (Number 0)) (Then 1 (Set 0 (Number 1)) End) (Then 1 (Set 0 (Number 2)) End)) (
    Then 2 (If (Number 1) (Then 2 (Set 1 (Number 1)) End) (Then 2 (Set 1 (Number 2)) End)) End)) [] silent

-- a broken cell takes the second arm of every `if`
second_arms_words : second_arms.held.words ≡ num 2 ∷ num 2 ∷ []
second_arms_words = refl

-- ---- a broken cell goes on reading and taking

abbrev reading_on : Solo
reading_on =
    alone 0 2 0 (
    Then 1 (If (Applied O.Div (Number 1) (Number 0)) End End) (
    Then 2 (Read 0 0) (
    Then 3 (Take 1) End))) (negsuc 4 ∷ []) (λ message. num 6 ∷ [])

reading_on_words : reading_on.held.words ≡ num 6 ∷ Num (negsuc 4) ∷ []
reading_on_words = refl

-- ---- places in two streams and in the input: `read A w; read B x; take y; read A z;`

abbrev two_streams : Solo
two_streams =
    alone 0 4 0 (
    Then 1 (Read 0 0) (
    Then 2 (Read 1 1) (
    Then 3 (Take 2) (
    Then 4 (Read 0 3) End)))) (pos 3 ∷ pos 4 ∷ []) (λ message. num (message + 5) ∷ num (message + 7) ∷ [])

-- each message and the input have a place of their own
two_streams_words : two_streams.held.words ≡ num 5 ∷ num 6 ∷ num 3 ∷ num 7 ∷ []
two_streams_words = refl

-- ---- `for i 2 { for j 2 { emit 10 * i + j; } }`

abbrev nested : Solo
nested =
    alone 0 0 2 (
    Then 1 (For 0 2 (
    Then 1 (For 1 2 (
    Then 1 (Emit (Applied O.Add (Applied O.Mul (Number 10) (Counter 0)) (Counter 1))) End)) End)) End) [] silent

nested_emits : emitted nested ≡ num 0 ∷ num 1 ∷ num 10 ∷ num 11 ∷ []
nested_emits = refl
