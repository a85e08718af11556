-- What can be wrong with a name, an expression and a statement, in file order.
use Rattle.std.specs.Prelude.{ℕ, Bool, true, false, not, List, [], ◌∷◌, ◌++◌, nat_eq, nat_lt, Option, Some, None, is_some, if◌then◌else◌}
use Rattle.std.specs.Option.{option_map_or}
use Rattle.sys_base.specs.declared.kinds.Limit.TheVariants as L
use Rattle.sys_base.specs.declared.limits.TheConstants.{TURNS}
use Rattle.cell_types.specs.Names.{NamedMessage, Scope, Meaning, MessageAt, VariableAt, ArrayAt, CounterAt, meaning, message_named, inside_loop}
use Rattle.cell_types.specs.Written.{WrittenExpression, Number, Named, Element, Negated, Applied, WrittenAction, Set, SetAt, Write, Read, Take, Emit, For, If, WrittenBlock, End, Then}
use Rattle.cell_types.specs.declared.error.Found.{Found}
use Rattle.cell_types.specs.declared.error.Found.TheVariants as F
use Rattle.cell_types.specs.declared.error.StaticError.{StaticError}
use Rattle.cell_types.specs.declared.error.StaticError.TheVariants as E
use Rattle.cell_types.specs.declared.error.What.TheVariants as W

-- an error where a test passes
abbrev pub when : Bool → StaticError → List StaticError
when test error = if test then error ∷ [] else []

-- the kind of what a name means
abbrev pub found_of : Meaning → Found
found_of (MessageAt index) = F.Message
found_of (VariableAt offset) = F.Variable
found_of (ArrayAt base len) = F.Array
found_of (CounterAt depth) = F.Counter

-- a message comes after `write` and `read`
abbrev pub is_message : Meaning → Bool
is_message (MessageAt index) = true
is_message _ = false

-- a variable is what is assigned, read and taken
abbrev pub is_variable : Meaning → Bool
is_variable (VariableAt offset) = true
is_variable _ = false

-- an array stands before an index
abbrev pub is_array : Meaning → Bool
is_array (ArrayAt base len) = true
is_array _ = false

-- a variable or a counter is a value
abbrev pub is_value : Meaning → Bool
is_value (VariableAt offset) = true
is_value (CounterAt depth) = true
is_value _ = false

-- what is wrong with a name that means this, where something that passes the test is wanted: it means nothing, or
-- something else
abbrev pub misnamed : (Meaning → Bool) → List ℕ → ℕ → Option Meaning → List StaticError
misnamed wanted name line None = E.Unknown name line ∷ []
misnamed wanted name line (Some m) = when (not (wanted m)) (E.WrongKind name (found_of m) line)

-- what is wrong with a name at a place
abbrev pub name_faults : (Meaning → Bool) → Scope → ℕ → List ℕ → List StaticError
name_faults wanted scope line name = misnamed wanted name line (meaning scope name)

-- what is wrong with a message that a cell writes: it does not mean one, or one that the cell does not send
abbrev pub write_faults : Scope → ℕ → List ℕ → List StaticError
write_faults scope line name =
    name_faults is_message scope line name
    ++ option_map_or
    (λ (m : NamedMessage). when (not (nat_eq m.sender scope.cell)) (E.WrongEnd name scope.cell true line))
    (message_named scope name) []

-- what is wrong with a message that a cell reads: it does not mean one, or one that the cell does not receive
abbrev pub read_faults : Scope → ℕ → List ℕ → List StaticError
read_faults scope line name =
    name_faults is_message scope line name
    ++ option_map_or
    (λ (m : NamedMessage). when (not (nat_eq m.receiver scope.cell)) (E.WrongEnd name scope.cell false line))
    (message_named scope name) []

-- what is wrong in an expression of a statement on this line
abbrev pub expression_faults : Scope → ℕ → WrittenExpression → List StaticError
expression_faults scope line (Number number) = []
expression_faults scope line (Named name) = name_faults is_value scope line name
expression_faults scope line (Element name index) =
    name_faults is_array scope line name ++ expression_faults scope line index
expression_faults scope line (Negated operand) = expression_faults scope line operand
expression_faults scope line (Applied op left right) =
    expression_faults scope line left ++ expression_faults scope line right

abbrev mutual
  -- what is wrong in what a statement on this line does
  pub action_faults : Scope → ℕ → WrittenAction → List StaticError
  action_faults scope line (Set name value) =
      name_faults is_variable scope line name ++ expression_faults scope line value
  action_faults scope line (SetAt name index value) =
      name_faults is_array scope line name ++ expression_faults scope line index ++ expression_faults scope line value
  action_faults scope line (Write message value) =
      write_faults scope line message ++ expression_faults scope line value
  action_faults scope line (Read message name) =
      read_faults scope line message ++ name_faults is_variable scope line name
  action_faults scope line (Take name) = name_faults is_variable scope line name
  action_faults scope line (Emit value) = expression_faults scope line value
  action_faults scope line (For counter turns body) =
      when (is_some (meaning scope counter)) (E.Twice (W.Named counter) line)
      ++ when (nat_lt TURNS turns) (E.Limit L.Turns line)
      ++ block_faults (inside_loop counter scope) body
  action_faults scope line (If test first second) =
      expression_faults scope line test ++ block_faults scope first ++ block_faults scope second

  -- what is wrong in some statements
  pub block_faults : Scope → WrittenBlock → List StaticError
  block_faults scope End = []
  block_faults scope (Then line action rest) = action_faults scope line action ++ block_faults scope rest
