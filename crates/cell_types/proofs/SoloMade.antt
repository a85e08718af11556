-- A cell alone makes the communications of its statements, in order, where arms communicate alike.
use Rattle.std.proofs.Common.{◌≡◌, ℕ, zero, suc, ◌+◌, ℤ, Bool, true, false, List, [], ◌∷◌, ◌++◌, sym, refl, ap, ◌∙◌, append-nil, append_assoc, slice_get}
use Rattle.std.proofs.lemmas.List.Elements.{recursion_from_All}
use Rattle.std.specs.List.{AllByRecursion}
use Rattle.std.specs.Option.{option_map_or}
use Rattle.std.specs.Prelude.{if◌then◌else◌, slice_index_or}
use Rattle.sys_base.specs.Communications.{Communication, copies}
use Rattle.sys_base.specs.Held.{Streams}
use Rattle.cell_types.specs.Alike.{AlikeAction, AlikeBlock, Alike}
use Rattle.cell_types.specs.Code.{Action, Set, SetAt, Write, Read, Take, Emit, For, If, Block, End, Then, CellCode, ProgramCode}
use Rattle.cell_types.specs.Communications.{action_communications, block_communications, communications}
use Rattle.cell_types.specs.Resolved.{cell_with}
use Rattle.cell_types.specs.Solo.{Solo, opening, code_of, turns_from, counting, do_action, do_block, solo}

-- one of two, where both have made the same
chosen : (b : Bool) (x y : Solo) (made : List Communication) → x.made ≡ made → y.made ≡ made → (if b then x else y).made ≡ made
chosen true x y made h k = h
chosen false x y made h k = k

-- turns that make the same each
made_turns : (body : ℕ → Solo → Solo) (xs : List Communication) → ((turn : ℕ) (s : Solo) → (body turn s).made ≡ s.made ++ xs)
    → (first count : ℕ) (s : Solo) → (turns_from body first count s).made ≡ s.made ++ copies count xs
made_turns body xs h first zero s = sym (append-nil s.made)
made_turns body xs h first (suc count) s =
    made_turns body xs h (first + 1) count (body first s) ∙ ap (λ made. made ++ copies count xs) (h first s)
    ∙ append_assoc s.made xs (copies count xs)

module _ (cell : ℕ) (input : List ℤ) (streams : Streams) where
  mutual
    -- an action
    made_action : (line : ℕ) (a : Action) → AlikeAction a → (s : Solo)
        → (do_action cell input streams line a s).made ≡ s.made ++ action_communications a
    made_action line (Set word value) alike s = sym (append-nil s.made)
    made_action line (SetAt base len index value) alike s = sym (append-nil s.made)
    made_action line (Write message value) alike s = refl
    made_action line (Read message word) alike s = refl
    made_action line (Take word) alike s = refl
    made_action line (Emit value) alike s = refl
    made_action line (For depth zero body) alike s = sym (append-nil s.made)
    made_action line (For depth (suc n) body) alike s =
        made_turns (λ turn now. do_block cell input streams body (counting depth turn now)) (block_communications body)
        (λ turn now. made_block body alike (counting depth turn now)) 0 (suc n) s
    made_action line (If test first second) alike s =
        chosen _ _ _ (s.made ++ block_communications first) (made_block first alike.1 _)
        (made_block second alike.2 _ ∙ ap (λ xs. s.made ++ xs) (sym alike.0))

    -- statements
    pub made_block : (b : Block) → AlikeBlock b → (s : Solo) → (do_block cell input streams b s).made ≡ s.made ++ block_communications b
    made_block End alike s = sym (append-nil s.made)
    made_block (Then line action rest) alike s =
        made_block rest alike.1 (do_action cell input streams line action s)
        ∙ ap (λ made. made ++ block_communications rest) (made_action line action alike.0 s)
        ∙ append_assoc s.made (action_communications action) (block_communications rest)

-- the arms in a cell by its index, where those of all cells are alike
alike_at : (cells : List CellCode) (cell : ℕ) → AllByRecursion (λ (c : CellCode). AlikeBlock c.body) cells
    → AlikeBlock (slice_index_or cells cell (cell_with 0 End)).body
alike_at [] cell alike = tt
alike_at (c ∷ cells) zero alike = alike.0
alike_at (c ∷ cells) (suc cell) alike = alike_at cells cell alike.1

-- the communications of a cell by its index
made_at : (cells : List CellCode) (cell : ℕ)
    → block_communications (slice_index_or cells cell (cell_with 0 End)).body
    ≡ option_map_or (λ (c : CellCode). block_communications c.body) (slice_get cells cell) []
made_at [] cell = refl
made_at (c ∷ cells) zero = refl
made_at (c ∷ cells) (suc cell) = made_at cells cell

-- a cell of a program
pub made_alone : (program : ProgramCode) → Alike program → (cell : ℕ) (input : List ℤ) (streams : Streams)
    → (solo program cell input streams).made ≡ communications program cell
made_alone program alike cell input streams =
    let code : CellCode = code_of program cell in
    made_block cell input streams code.body
    (alike_at program.cells cell (recursion_from_All (λ (c : CellCode). AlikeBlock c.body) program.cells alike))
    (opening code.words code.counters)
    ∙ made_at program.cells cell
