-- What names mean: messages everywhere, variables and arrays in their cell, counters in their loops.
use Rattle.std.specs.Prelude.{ℕ, ◌+◌, Bool, List, [], ◌∷◌, ◌++◌, map, find, position, sum_by, bytes_eq, Option, Some, None, option_map, unwrap_or}
use Rattle.std.specs.List.{list_any}
use Rattle.std.specs.Option.{option_or}
use Rattle.sys_base.specs.Grid.{Extent, cell_at}
use Rattle.cell_tree.specs.declared.source.MessageDecl.{MessageDecl}
use Rattle.cell_tree.specs.declared.source.Place.{Place}
use Rattle.cell_tree.specs.declared.source.VarDecl.{VarDecl}
use Rattle.cell_types.specs.Written.{WrittenCell, WrittenSource}

-- a message that statements may name, with its sender and its receiver
pub record NamedMessage : Type 0 where
  pub name : List ℕ
  pub sender : ℕ
  pub receiver : ℕ

-- a variable, or an array where it has a length, and where its words begin among those of its cell
pub record NamedVariable : Type 0 where
  pub name : List ℕ
  pub offset : ℕ
  pub length : Option ℕ

-- what can be named at a place: in which cell it is, all messages, the cell's variables, and the counters of the loops
-- around the place, the outermost first
pub record Scope : Type 0 where
  pub cell : ℕ
  pub messages : List NamedMessage
  pub variables : List NamedVariable
  pub counters : List (List ℕ)

-- what a name means: a message by its index, a variable by its offset, an array by its offset and length, or a counter
-- by how many loops are around its own
pub data Meaning : Type 0 where
  MessageAt : (index : ℕ) → Meaning
  VariableAt : (offset : ℕ) → Meaning
  ArrayAt : (base len : ℕ) → Meaning
  CounterAt : (depth : ℕ) → Meaning

-- what the name of a variable means
abbrev pub variable_meaning : NamedVariable → Meaning
variable_meaning variable = kind variable.length
  where
    kind : Option ℕ → Meaning
    kind None = VariableAt variable.offset
    kind (Some len) = ArrayAt variable.offset len

-- the message of this name
abbrev pub message_named : Scope → List ℕ → Option NamedMessage
message_named scope name = find (λ (m : NamedMessage). bytes_eq m.name name) scope.messages

-- the index of the message of this name
abbrev pub message_index : Scope → List ℕ → Option ℕ
message_index scope name = position (λ (m : NamedMessage). bytes_eq m.name name) scope.messages

-- the variable or array of this name
abbrev pub variable_named : Scope → List ℕ → Option NamedVariable
variable_named scope name = find (λ (v : NamedVariable). bytes_eq v.name name) scope.variables

-- the depth of the counter of this name
abbrev pub counter_depth : Scope → List ℕ → Option ℕ
counter_depth scope name = position (λ counter. bytes_eq counter name) scope.counters

-- what a name means at a place, if it means anything there
abbrev pub meaning : Scope → List ℕ → Option Meaning
meaning scope name =
    option_or (option_map MessageAt (message_index scope name))
    (option_or (option_map variable_meaning (variable_named scope name))
    (option_map CounterAt (counter_depth scope name)))

-- whether a name is one of these
abbrev pub is_among : List (List ℕ) → List ℕ → Bool
is_among names name = list_any (λ other. bytes_eq other name) names

-- the index of the cell at a place
abbrev pub cell_index : Extent → Place → ℕ
cell_index g place = cell_at g place.row place.col

-- how many words a variable has: one, or an array's length
abbrev pub words_of : VarDecl → ℕ
words_of variable = unwrap_or variable.length 1

-- how many words some variables have together
abbrev pub total_words : List VarDecl → ℕ
total_words variables = sum_by words_of variables

-- variables one after another, from this offset on
abbrev pub placed_from : ℕ → List VarDecl → List NamedVariable
placed_from offset [] = []
placed_from offset (v ∷ vs) =
    record { name = v.name; offset = offset; length = v.length } ∷ placed_from (offset + words_of v) vs

-- the grid of a source
abbrev pub extent_of : WrittenSource → Extent
extent_of source = record { rows = source.rows; cols = source.cols }

-- a message as statements see it
abbrev pub named_message : Extent → MessageDecl → NamedMessage
named_message g message =
    record { name = message.name; sender = cell_index g message.from; receiver = cell_index g message.to }

-- what can be named in a cell, outside its loops
abbrev pub scope_of : WrittenSource → WrittenCell → Scope
scope_of source cell =
    record {
      cell = cell_index (extent_of source) cell.place;
      messages = map (named_message (extent_of source)) source.messages;
      variables = placed_from 0 cell.vars;
      counters = [];
    }

-- what can be named inside a loop with this counter
abbrev pub inside_loop : List ℕ → Scope → Scope
inside_loop counter scope = record scope { counters = scope.counters ++ counter ∷ [] }
