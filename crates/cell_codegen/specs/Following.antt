-- Code that does what a cell's statements say.
use Rattle.std.specs.Prelude.{ℕ, ◌≡◌, ◌≤◌, ⊤, ℤ, List, [], slice_get, Some}
use Rattle.sys_base.specs.Held.{Streams}
use Rattle.sys_base.specs.declared.word.Word.{Word}
use Rattle.cell_code.specs.declared.instruction.Instr.{Instr}
use Rattle.cell_code.specs.declared.instruction.Instr.TheVariants as I
use Rattle.cell_code.specs.Alone.{Alone, after_steps, opening_alone}
use Rattle.cell_types.specs.Code.{Action, For, If, Block, End, Then, ProgramCode}
use Rattle.cell_types.specs.Cost.{block_cost}
use Rattle.cell_types.specs.Solo.{Solo, code_of, solo}

-- the state of a cell alone by its code, at an address with a stack, where by its source it has come to this
abbrev pub place : ℕ → List Word → Solo → Alone
place at stack solo =
    record { state = record { at = at; stack = stack; held = solo.held }; made = solo.made; sent = solo.sent }

abbrev mutual
  -- No `if` stands in an action.
  pub StraightAction : Action → Type 0
  StraightAction (For counter turns body) = StraightBlock body
  StraightAction (If test first second) = ⊥
  StraightAction _ = ⊤

  -- No `if` stands in some statements.
  pub StraightBlock : Block → Type 0
  StraightBlock End = ⊤
  StraightBlock (Then line action rest) = StraightAction action × StraightBlock rest

-- The code follows the statements of a cell of a program, for this input and these streams: alone it comes to `halt`
-- within the cell's cost, in exactly that many steps where no `if` stands in it, and leaves what the cell alone leaves
-- by its source.
pub record Follows (code : List Instr) (program : ProgramCode) (cell : ℕ) (input : List ℤ)
    (streams : Streams) : Type 0 where
  pub steps : ℕ
  pub within : steps ≤ block_cost (code_of program cell).body
  pub exact : StraightBlock (code_of program cell).body → steps ≡ block_cost (code_of program cell).body
  pub at : ℕ
  pub ends : after_steps code cell input streams steps
      (opening_alone (code_of program cell).words (code_of program cell).counters)
      ≡ Some (place at [] (solo program cell input streams))
  pub halts : slice_get code at ≡ Some I.Halt
