-- Arms that communicate alike, so that what a cell communicates is fixed by its source.
use Rattle.std.specs.Prelude.{ℕ, zero, suc, ◌≡◌, ⊤, All}
use Rattle.cell_types.specs.Code.{Action, For, If, Block, End, Then, CellCode, ProgramCode}
use Rattle.cell_types.specs.Communications.{block_communications}

-- The fact holds, unless there are no turns.
abbrev pub InTurns : ℕ → Type 0 → Type 0
InTurns zero fact = ⊤
InTurns (suc n) fact = fact

abbrev mutual
  -- Both arms of every `if` in an action that stands in no loop of 0 turns have the same communications.
  pub AlikeAction : Action → Type 0
  AlikeAction (For counter turns body) = InTurns turns (AlikeBlock body)
  AlikeAction (If test first second) =
      (block_communications first ≡ block_communications second) × AlikeBlock first × AlikeBlock second
  AlikeAction _ = ⊤

  -- The same for every `if` in some statements.
  pub AlikeBlock : Block → Type 0
  AlikeBlock End = ⊤
  AlikeBlock (Then line action rest) = AlikeAction action × AlikeBlock rest

-- The same for every `if` of a program.
abbrev pub Alike : ProgramCode → Type 0
Alike program = All (λ (c : CellCode). AlikeBlock c.body) program.cells
