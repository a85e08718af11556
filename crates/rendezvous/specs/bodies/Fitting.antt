-- What statements need of a cell: places for their variables, arrays and counters.
use Rattle.std.specs.Prelude.{ℕ, ◌+◌, ◌^◌, ◌<◌, ◌≤◌, ⊤}
use Rattle.sys_base.specs.declared.limits.TheConstants.{TURNS}
use Rattle.cell_types.specs.Code.{Expression, Number, Variable, Counter, Element, Negated, Applied, Action, Set, SetAt, Write, Read, Take, Emit, For, If, Block, End, Then}

module _ (words counters : ℕ) where
  -- The expression uses only so many words and counters.
  abbrev pub FitsExpression : Expression → Type 0
  FitsExpression (Number number) = number < 2 ^ 63
  FitsExpression (Variable word) = word < words
  FitsExpression (Counter counter) = counter < counters
  FitsExpression (Element base len index) = (base + len ≤ words) × FitsExpression index
  FitsExpression (Negated operand) = FitsExpression operand
  FitsExpression (Applied op left right) = FitsExpression left × FitsExpression right

  abbrev mutual
    -- The action uses only so many words and counters, and its loops have no more turns than they may have.
    pub FitsAction : Action → Type 0
    FitsAction (Set word value) = (word < words) × FitsExpression value
    FitsAction (SetAt base len index value) = (base + len ≤ words) × FitsExpression index × FitsExpression value
    FitsAction (Write message value) = FitsExpression value
    FitsAction (Read message word) = word < words
    FitsAction (Take word) = word < words
    FitsAction (Emit value) = FitsExpression value
    FitsAction (For counter turns body) = (counter < counters) × (turns ≤ TURNS) × FitsBlock body
    FitsAction (If test first second) = FitsExpression test × FitsBlock first × FitsBlock second

    -- The same for some statements.
    pub FitsBlock : Block → Type 0
    FitsBlock End = ⊤
    FitsBlock (Then line action rest) = FitsAction action × FitsBlock rest
