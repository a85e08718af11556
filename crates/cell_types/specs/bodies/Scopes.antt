-- What the records of the resolver stand for, and what its functions give.
use Rattle.std.specs.Prelude.{ℕ, ◌≡◌, Bool, List, [], ◌∷◌, ◌++◌, Option, Some, None, Result, map, position, bytes_eq, MatchResult, if◌then◌else◌}
use Rattle.std.specs.List.{zip}
use Rattle.cell_tree.specs.declared.source.CellDecl.{CellDecl}
use Rattle.cell_tree.specs.declared.source.VarDecl.{VarDecl}
use Rattle.cell_tree.specs.declared.statement.Act.{Act}
use Rattle.cell_tree.specs.declared.statement.Act.TheFolds.{fold-Act}
use Rattle.cell_types.specs.Code.{Block, Then, CellCode}
use Rattle.cell_types.specs.Faults.{faults_behind, var_faults, IsFirst}
use Rattle.cell_types.specs.Names.{NamedMessage, NamedVariable, Scope, MessageAt, VariableAt, ArrayAt, CounterAt, placed_from, total_words}
use Rattle.cell_types.specs.Names as N
use Rattle.cell_types.specs.Resolved.{cell_with, resolved_block}
use Rattle.cell_types.specs.Statics.{block_faults, write_faults, read_faults}
use Rattle.cell_types.specs.bodies.Tables.{named_in, entry_as_message}
use Rattle.cell_types.specs.Typed.{action_of}
use Rattle.cell_types.specs.Written.{WrittenAction, WrittenStatement, act_step, statement_step, written_block}
use Rattle.cell_types.specs.declared.error.StaticError.{StaticError}
use Rattle.cell_types.specs.declared.names.NameSet.{NameSet}
use Rattle.cell_types.specs.declared.scope.Meaning.{Meaning}
use Rattle.cell_types.specs.declared.scope.Meaning.TheVariants.{Message, Variable, Array, Counter}
use Rattle.cell_types.specs.declared.scope.Scope as R
use Rattle.cell_types.specs.declared.statement.TypedStmt.{TypedStmt}
use Rattle.cell_types.specs.declared.variables.Slot.{Slot}
use Rattle.cell_types.specs.declared.variables.Variables.{Variables}

-- Where there are no faults, what is made is this value, by what it stands for; otherwise the error is the first
-- fault.
abbrev pub Resolves : {A V : Type 0} → List StaticError → (A → V) → V → Result A StaticError → Type 0
Resolves faults stands_for value result =
    MatchResult result (λ made. (faults ≡ []) × (stands_for made ≡ value)) (IsFirst faults)

-- the names of a set, in their order
abbrev pub names_in : NameSet → List (List ℕ)
names_in set = map (λ name. name.now) set.names.keys

-- the place of a name
abbrev pub place_of : List (List ℕ) → List ℕ → Option ℕ
place_of names name = position (λ other. bytes_eq other name) names

-- a variable with this name and place
abbrev pub variable_with : List ℕ → Slot → NamedVariable
variable_with name slot = record { name = name; offset = slot.offset; length = slot.len }

-- variables with these names and places
abbrev pub variables_with : List (List ℕ) → List Slot → List NamedVariable
variables_with names slots = map (λ variable. variable_with variable.0 variable.1) (zip names slots)

-- the variables of a cell, in order: each name with its place
abbrev pub variables_in : Variables → List NamedVariable
variables_in variables = variables_with (names_in variables.names) variables.slots.items

-- what can be named
abbrev pub scope_in : R.Scope → Scope
scope_in scope =
    record {
      cell = scope.cell;
      messages = named_in scope.messages.now;
      variables = variables_in scope.variables;
      counters = scope.counters.items;
    }

-- what a name means
abbrev pub meaning_of : Meaning → N.Meaning
meaning_of (Message entry) = MessageAt entry.index
meaning_of (Variable offset) = VariableAt offset
meaning_of (Array base len) = ArrayAt base len
meaning_of (Counter depth) = CounterAt depth

-- the message that a name means, if it means one
abbrev pub message_meant : List ℕ → Option Meaning → Option NamedMessage
message_meant name (Some (Message entry)) = Some (entry_as_message name entry)
message_meant name _ = None

-- what is wrong with a message that a cell writes, where it sends, or reads
abbrev pub end_faults : Bool → Scope → ℕ → List ℕ → List StaticError
end_faults sends scope line name = if sends then write_faults scope line name else read_faults scope line name

-- what a statement of the tree does, as plain data
abbrev pub written_action : Act → WrittenAction
written_action = fold-Act WrittenAction WrittenStatement act_step statement_step

-- typed statements in front of others
abbrev pub block_from : List TypedStmt → Block → Block
block_from [] rest = rest
block_from (s ∷ ss) rest = Then s.line (action_of s.act) (block_from ss rest)

-- what can be named in a cell outside its loops, where these are the messages
abbrev pub cell_scope : List NamedMessage → ℕ → CellDecl → Scope
cell_scope messages index cell =
    record { cell = index; messages = messages; variables = placed_from 0 cell.vars; counters = [] }

-- what is wrong with the variables of a cell
abbrev pub variables_faults : List NamedMessage → List VarDecl → List StaticError
variables_faults messages variables =
    faults_behind (var_faults (map (λ (m : NamedMessage). m.name) messages)) [] variables

-- what is wrong inside a cell: first with its variables, and then in its statements
abbrev pub inner_faults : List NamedMessage → ℕ → CellDecl → List StaticError
inner_faults messages index cell =
    variables_faults messages cell.vars ++ block_faults (cell_scope messages index cell) (written_block cell.body)

-- the program of a cell
abbrev pub inner_code : List NamedMessage → ℕ → CellDecl → CellCode
inner_code messages index cell =
    cell_with (total_words cell.vars) (resolved_block (cell_scope messages index cell) (written_block cell.body))
