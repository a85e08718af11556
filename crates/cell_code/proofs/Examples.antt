-- Cells that run alone, and cells that are shaped or not.
use Rattle.std.proofs.Common.{◌≡◌, ℕ, ◌<◌, ◌≤◌, List, [], ◌∷◌, Option, Some, None, pos, refl, inl, arith}
use Rattle.std.specs.Option.{option_map}
use Rattle.sys_base.specs.Communications.{Communication, Writes, Reads, Emits}
use Rattle.sys_base.specs.Held.{Streams}
use Rattle.sys_base.specs.Words.{fault_at}
use Rattle.sys_base.specs.declared.kinds.Kind.TheVariants as K
use Rattle.sys_base.specs.declared.kinds.Op.TheVariants.{Add, Sub, Div, Rem}
use Rattle.sys_base.specs.declared.word.Word.{Word}
use Rattle.sys_base.specs.declared.word.Word.TheVariants.{Num}
use Rattle.cell_code.specs.declared.image.CellImage.{CellImage}
use Rattle.cell_code.specs.declared.instruction.Instr.{Instr}
use Rattle.cell_code.specs.declared.instruction.Instr.TheVariants.{Push, Load, LoadAt, Counter, Neg, Bin, StoreAt, Write, Read, Take, Emit, Loop, Next, IfZero, Jump, Halt}
use Rattle.cell_code.specs.Alone.{Alone, opening_alone, after_steps, RunsThrough}
use Rattle.cell_code.specs.ShapedCells.{EndsInHalt, OnPath, StackRule, KeepsCounts, IsShapedCell, starts, goes}
use Rattle.cell_code.proofs.Checks.{checked_cell}

abbrev number : ℕ → Word
number n = Num (pos n)

-- the sender of a message of one word, 7
abbrev sender : List Instr
sender = Push (pos 7) ∷ Write 0 ∷ Halt ∷ []

-- its receiver, which emits the word
abbrev receiver : List Instr
receiver = Read 0 0 ∷ Load 0 ∷ Emit ∷ Halt ∷ []

-- a cell alone, by its parts
abbrev alone : ℕ → List Word → List Word → List Word → List Communication → List (ℕ × Word) → Alone
alone at stack words output made sent =
    record {
      state =
          record {
            at = at;
            stack = stack;
            held = record { words = words; counters = []; kept = None; taken = 0; output = output };
          };
      made = made;
      sent = sent;
    }

the_sender_runs : (streams : Streams) → RunsThrough sender 0 [] streams (opening_alone 0 0)
    (alone 1 (number 7 ∷ []) [] [] [] [] ∷ alone 2 [] [] [] (Writes 0 ∷ []) ((0, number 7) ∷ []) ∷ [])
the_sender_runs streams = (refl, (refl, refl))

the_receiver_runs : RunsThrough receiver 1 [] (λ message. number 7 ∷ []) (opening_alone 1 0)
    (alone 1 [] (number 7 ∷ []) [] (Reads 0 ∷ []) []
    ∷ alone 2 (number 7 ∷ []) (number 7 ∷ []) [] (Reads 0 ∷ []) []
    ∷ alone 3 [] (number 7 ∷ []) (number 7 ∷ []) (Reads 0 ∷ Emits ∷ []) []
    ∷ [])
the_receiver_runs = (refl, (refl, (refl, refl)))

nothing_to_read : RunsThrough (Read 0 0 ∷ Halt ∷ []) 1 [] (λ message. []) (opening_alone 1 0)
    (alone 1 [] (number 0 ∷ []) [] (Reads 0 ∷ []) [] ∷ [])
nothing_to_read = (refl, refl)

-- what a cell alone has written after some steps, its number 3, with two words, one counter and the input 5
abbrev written_after : ℕ → List Instr → Option (List (ℕ × Word))
written_after steps code =
    option_map (λ s. s.sent) (after_steps code 3 (pos 5 ∷ []) (λ message. []) steps (opening_alone 2 1))

a_zero_divisor : written_after 4 (Push (pos 1) ∷ Push (pos 0) ∷ Bin Div 5 ∷ Write 1 ∷ Halt ∷ []) ≡ Some ((1, fault_at K.Z 3 5) ∷ [])
a_zero_divisor = refl

a_large_sum : written_after 4 (Push (pos 9223372036854775807) ∷ Push (pos 1) ∷ Bin Add 6 ∷ Write 0 ∷ Halt ∷ [])
    ≡ Some ((0, fault_at K.O 3 6) ∷ [])
a_large_sum = refl

past_an_array : written_after 3 (Push (pos 2) ∷ LoadAt 0 2 7 ∷ Write 0 ∷ Halt ∷ []) ≡ Some ((0, fault_at K.X 3 7) ∷ [])
past_an_array = refl

the_left_operand_is_below : written_after 4 (Push (pos 7) ∷ Push (pos 2) ∷ Bin Sub 1 ∷ Write 0 ∷ Halt ∷ []) ≡ Some ((0, number 5) ∷ [])
the_left_operand_is_below = refl

-- a refused store breaks the cell and changes no element; a second fault doesn't replace the first; what is written is the fault
a_broken_cell : written_after 12
    (Push (pos 1) ∷ Neg 2 ∷ Push (pos 9) ∷ StoreAt 0 2 8 ∷ Push (pos 1) ∷ Push (pos 0) ∷ Bin Rem 9 ∷ IfZero 8 ∷ Load 0 ∷ Write 0
    ∷ Load 1 ∷ Write 2 ∷ Halt ∷ [])
    ≡ Some ((0, fault_at K.X 3 8) ∷ (2, fault_at K.X 3 8) ∷ [])
a_broken_cell = refl

-- a loop of two turns writes its counter twice, and leaves 2 in it
a_loop : written_after 9 (Loop 0 2 4 ∷ Counter 0 ∷ Write 0 ∷ Next 0 2 1 ∷ Counter 0 ∷ Write 0 ∷ Halt ∷ [])
    ≡ Some ((0, number 0) ∷ (0, number 1) ∷ (0, number 2) ∷ [])
a_loop = refl

-- the input is taken once, and 0 past its end
two_takes : written_after 6 (Take 0 ∷ Take 1 ∷ Load 0 ∷ Write 0 ∷ Load 1 ∷ Write 0 ∷ Halt ∷ []) ≡ Some ((0, number 5) ∷ (0, number 0) ∷ [])
two_takes = refl

-- ---- shaped cells

-- a cell image with some counts, one word, one counter and a stack of one place
abbrev image : ℕ → ℕ → List Instr → CellImage
image takes emits code = record { takes = takes; emits = emits; words = 1; counters = 1; stack = 1; code = code }

the_sender_is_shaped : IsShapedCell (image 0 0 sender)
the_sender_is_shaped = checked_cell _ (0 ∷ 1 ∷ 0 ∷ []) 4 refl

the_receiver_is_shaped : IsShapedCell (image 0 1 receiver)
the_receiver_is_shaped = checked_cell _ (0 ∷ 0 ∷ 1 ∷ 0 ∷ []) 5 refl

-- both arms of a branch take a word, in a loop of two turns
turns_are_counted : IsShapedCell
    (image 2 2 (Loop 0 2 9 ∷ Counter 0 ∷ IfZero 5 ∷ Take 0 ∷ Jump 6 ∷ Take 0 ∷ Load 0 ∷ Emit ∷ Next 0 2 1 ∷ Halt ∷ []))
turns_are_counted = checked_cell _ (0 ∷ 0 ∷ 1 ∷ 0 ∷ 0 ∷ 0 ∷ 0 ∷ 1 ∷ 0 ∷ 0 ∷ []) 18 refl

-- a loop of no turns is not entered by any way
no_turns_take_nothing : IsShapedCell (image 0 0 (Loop 0 0 3 ∷ Take 0 ∷ Next 0 0 1 ∷ Halt ∷ []))
no_turns_take_nothing = checked_cell _ (0 ∷ 0 ∷ 0 ∷ 0 ∷ []) 3 refl

-- but paths enter it
paths_enter_every_loop : OnPath (Loop 0 0 3 ∷ Take 0 ∷ Next 0 0 1 ∷ Halt ∷ []) 1 0
paths_enter_every_loop = goes 0 0 1 (Loop 0 0 3) starts refl (inl refl)

two_depths : ¬ StackRule (Push (pos 1) ∷ Jump 0 ∷ Halt ∷ []) 9
two_depths rule =
    omega
    (arith, rule.one_depth 0 0 1 starts (goes 1 1 0 (Jump 0) (goes 0 0 1 (Push (pos 1)) starts refl refl) refl refl))

a_word_is_left : ¬ StackRule (Push (pos 1) ∷ Halt ∷ []) 9
a_word_is_left rule =
    omega (arith, rule.empty_at_halt 1 1 (goes 0 0 1 (Push (pos 1)) starts refl refl) refl)

too_deep : ¬ StackRule (Push (pos 1) ∷ Emit ∷ Halt ∷ []) 0
too_deep rule =
    let e : 1 ≤ 0 = rule.not_deep 1 1 (goes 0 0 1 (Push (pos 1)) starts refl refl) in
    omega arith

an_empty_pop : ¬ StackRule (Push (pos 1) ∷ Bin Add 1 ∷ Emit ∷ Halt ∷ []) 9
an_empty_pop rule =
    let e : 2 ≤ 1 = rule.no_empty_pop 1 1 (Bin Add 1) (goes 0 0 1 (Push (pos 1)) starts refl refl) refl in
    omega arith

too_few_takes_told : ¬ KeepsCounts (Take 0 ∷ Halt ∷ []) 0 0 0
too_few_takes_told keeps =
    let e : 1 ≤ 0 = keeps.takes_most _ (goes _ _ (Take 0) starts refl refl) in
    omega arith

too_many_takes_told : ¬ KeepsCounts (Take 0 ∷ Halt ∷ []) 0 2 0
too_many_takes_told keeps =
    omega (arith, keeps.takes_all _ (goes _ _ (Take 0) starts refl refl) refl)

an_array_past_the_words : (code : List Instr) → ¬ IsShapedCell (image 0 0 (LoadAt 0 2 1 ∷ code))
an_array_past_the_words code shaped =
    let e : 2 ≤ 1 = shaped.ranges 0 (LoadAt 0 2 1) refl in
    omega arith

a_target_past_the_code : ¬ IsShapedCell (image 0 0 (Jump 2 ∷ Halt ∷ []))
a_target_past_the_code shaped =
    let e : 2 < 2 = shaped.targets 0 (Jump 2) refl in
    omega arith

two_halts : ¬ EndsInHalt (Halt ∷ Halt ∷ [])
two_halts ends =
    omega (arith, ends.only 0 refl)

no_code : ¬ EndsInHalt []
no_code ends = let e : None ≡ Some Halt = ends.last in cc
