-- The `if`s whose arms communicate differently.
use Rattle.std.specs.Prelude.{ℕ, zero, suc, ◌≡◌, ⊤, Bool, true, false, ◌&&◌, if◌then◌else◌, ◌+◌, List, [], ◌∷◌, ◌++◌, map, slice_get, Some}
use Rattle.cell_types.specs.Code.{Action, For, If, Block, End, Then, CellCode, ProgramCode}
use Rattle.cell_types.specs.Communications.{Communication, same_communication, block_communications}
use Rattle.comm_sequence.specs.declared.error.CommError.{CommError}
use Rattle.comm_sequence.specs.declared.error.CommError.TheVariants.{ArmsDiffer, Memory}

-- whether two lists of communications are the same
abbrev pub same_list : List Communication → List Communication → Bool
same_list [] [] = true
same_list (x ∷ xs) (y ∷ ys) = same_communication x y && same_list xs ys
same_list _ _ = false

-- these lines, unless there are no turns
abbrev pub in_turns : ℕ → List ℕ → List ℕ
in_turns zero lines = []
in_turns (suc n) lines = lines

abbrev mutual
  -- the lines of the `if`s in an action on a line whose arms communicate differently, but for those in loops of 0
  -- turns, in the order of their last closing braces
  pub differing_in : ℕ → Action → List ℕ
  differing_in line (For counter turns body) = in_turns turns (differing body)
  differing_in line (If test first second) =
      differing first ++ differing second
      ++ (if same_list (block_communications first) (block_communications second) then [] else line ∷ [])
  differing_in line _ = []

  -- the same for some statements
  pub differing : Block → List ℕ
  differing End = []
  differing (Then line action rest) = differing_in line action ++ differing rest

-- the same for cells that are numbered from this one on, each with its cell
abbrev pub differing_from : ℕ → List CellCode → List (ℕ × ℕ)
differing_from cell [] = []
differing_from cell (c ∷ cs) = map (λ line. (cell, line)) (differing c.body) ++ differing_from (cell + 1) cs

-- the same for all cells of a program in order
abbrev pub all_differing : ProgramCode → List (ℕ × ℕ)
all_differing program = differing_from 0 program.cells

-- The error names the first of these `if`s, or it is want of memory.
abbrev pub IsFirst : List (ℕ × ℕ) → CommError → Type 0
IsFirst places (ArmsDiffer cell line) = slice_get places 0 ≡ Some (cell, line)
IsFirst places Memory = ⊤
