-- What a cell holds, and what one event does to it. A cell alone by its source and the machine of a cell share these.
use Rattle.std.specs.Prelude.{ℕ, ◌+◌, Bool, true, false, nat_lt, if◌then◌else◌, ℤ, pos, negsuc, List, [], ◌∷◌, ◌++◌, Option, Some, None, slice_index_or, slice_set}
use Rattle.std.specs.Ordering.{int_eq}
use Rattle.sys_base.specs.declared.kinds.Kind.TheVariants as K
use Rattle.sys_base.specs.declared.word.Fault.{Fault}
use Rattle.sys_base.specs.declared.word.Word.{Word}
use Rattle.sys_base.specs.declared.word.Word.TheVariants.{Num, Fault as Faulty}

-- what a cell holds: the words of its variables and arrays, its counters, the fault that it keeps where it is broken,
-- how many input words it has taken, and the words that it has emitted
pub record Held : Type 0 where
  pub words : List Word
  pub counters : List ℕ
  pub kept : Option Fault
  pub taken : ℕ
  pub output : List Word

-- ---- variables, elements and counters

-- the word of a variable
abbrev pub variable : Held → ℕ → Word
variable held word = slice_index_or held.words word (Num (pos 0))

-- a word is stored in a variable
abbrev pub with_word : Held → ℕ → Word → Held
with_word held word value = record held { words = slice_set held.words word value }

-- the value of a counter
abbrev pub counter : Held → ℕ → ℕ
counter held k = slice_index_or held.counters k 0

-- a counter gets a value
abbrev pub with_counter : Held → ℕ → ℕ → Held
with_counter held k value = record held { counters = slice_set held.counters k value }

-- an element is read, in a cell at a line: the index's fault, or X where the index is not below the array's length
abbrev pub element : Held → (base len : ℕ) → Word → ℕ → ℕ → Word
element held base len (Faulty fault) cell line = Faulty fault
element held base len (Num (negsuc n)) cell line = Faulty (record { kind = K.X; cell = cell; line = line })
element held base len (Num (pos n)) cell line =
    if nat_lt n len then variable held (base + n) else Faulty (record { kind = K.X; cell = cell; line = line })

-- ---- the break

-- the fault that is kept once this one comes: only the first is
abbrev pub first_kept : Option Fault → Fault → Option Fault
first_kept None fault = Some fault
first_kept (Some first) fault = Some first

-- the cell breaks by a fault
abbrev pub broken_by : Held → Fault → Held
broken_by held fault = record held { kept = first_kept held.kept fault }

-- a word is stored in an element, in a cell at a line; or the cell breaks by the index's fault, or by X where the index
-- is not below the array's length, and no element changes
abbrev pub with_element : Held → (base len : ℕ) → Word → Word → ℕ → ℕ → Held
with_element held base len (Faulty fault) value cell line = broken_by held fault
with_element held base len (Num (negsuc n)) value cell line =
    broken_by held (record { kind = K.X; cell = cell; line = line })
with_element held base len (Num (pos n)) value cell line =
    if nat_lt n len then with_word held (base + n) value
    else broken_by held (record { kind = K.X; cell = cell; line = line })

-- whether a test takes the first arm: no fault is kept, and the word is a number other than 0
abbrev pub takes_first : Option Fault → Word → Bool
takes_first (Some fault) test = false
takes_first None (Faulty fault) = false
takes_first None (Num n) = if int_eq n (pos 0) then false else true

-- a word is tested: the cell breaks by its fault
abbrev pub tested : Held → Word → Held
tested held (Faulty fault) = broken_by held fault
tested held (Num n) = held

-- what a cell gives out in place of a value: the fault that it keeps, where it is broken
abbrev pub given : Option Fault → Word → Word
given None value = value
given (Some fault) value = Faulty fault

-- ---- input, output and messages

-- the next input word is taken into a variable, and 0 past the end of the input
abbrev pub with_taken : Held → List ℤ → ℕ → Held
with_taken held input word =
    record (with_word held word (Num (slice_index_or input held.taken (pos 0)))) { taken = held.taken + 1 }

-- a word is emitted
abbrev pub with_emitted : Held → Word → Held
with_emitted held value = record held { output = held.output ++ given held.kept value ∷ [] }

-- the words of each message, in order
abbrev pub Streams : Type 0
Streams = ℕ → List Word

-- the word at a place of a message's stream, and the number 0 past its end
abbrev pub word_at : Streams → ℕ → ℕ → Word
word_at streams message place = slice_index_or (streams message) place (Num (pos 0))
