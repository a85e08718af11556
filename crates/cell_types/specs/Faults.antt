-- What is wrong with a source whose grammar is right, in file order.
use Rattle.std.specs.Prelude.{ℕ, ◌≡◌, Bool, false, not, ◌&&◌, ◌||◌, ◌⊎◌, List, [], ◌∷◌, ◌++◌, nat_eq, nat_lt, nat_le, length, map, is_none, Ok, Err}
use Rattle.std.specs.List.{list_any}
use Rattle.std.specs.Option.{option_map_or}
use Rattle.sys_base.specs.Grid.{Extent, neighbour_of, link_id}
use Rattle.sys_base.specs.declared.kinds.Limit.TheVariants as L
use Rattle.sys_base.specs.declared.limits.TheConstants.{BUFFER, SIDE, QUEUES, MESSAGES, LABEL, VARIABLES, WORDS}
use Rattle.cell_tree.specs.declared.source.LinkDecl.{LinkDecl}
use Rattle.cell_tree.specs.declared.source.MessageDecl.{MessageDecl}
use Rattle.cell_tree.specs.declared.source.Place.{Place}
use Rattle.cell_tree.specs.declared.source.Source.{Source}
use Rattle.cell_tree.specs.declared.source.VarDecl.{VarDecl}
use Rattle.cell_types.specs.Names.{is_among, cell_index, words_of, total_words, extent_of, scope_of}
use Rattle.cell_types.specs.Route.{Walked, route_between}
use Rattle.cell_types.specs.Statics.{when, block_faults}
use Rattle.cell_types.specs.Written.{WrittenCell, WrittenSource, written}
use Rattle.cell_types.specs.declared.error.StaticError.{StaticError}
use Rattle.cell_types.specs.declared.error.StaticError.TheVariants as E
use Rattle.cell_types.specs.declared.error.What.TheVariants as W

-- whether a number is outside two bounds
abbrev pub is_outside : ℕ → ℕ → ℕ → Bool
is_outside low high n = nat_lt n low || nat_lt high n

-- whether a place is no cell of the grid
abbrev pub is_off_grid : Extent → Place → Bool
is_off_grid g place = not (nat_lt place.row g.rows && nat_lt place.col g.cols)

-- what is wrong with declarations that come after these earlier ones, each judged by those before it
abbrev pub faults_behind : {A : Type 0} → (List A → A → List StaticError) → List A → List A → List StaticError
faults_behind judged earlier [] = []
faults_behind judged earlier (d ∷ ds) = judged earlier d ++ faults_behind judged (earlier ++ d ∷ []) ds

-- what is wrong with the `array` line
abbrev pub array_faults : WrittenSource → List StaticError
array_faults source =
    when (is_outside 1 SIDE source.rows) (E.Limit L.Rows source.array_line)
    ++ when (is_outside 1 SIDE source.cols) (E.Limit L.Columns source.array_line)

-- what is wrong with the `queues` and the `buffer` line
abbrev pub queues_faults : WrittenSource → List StaticError
queues_faults source =
    when (is_outside 1 QUEUES source.queues) (E.Limit L.Queues source.queues_line)
    ++ when (nat_lt BUFFER source.buffer) (E.Limit L.Buffer source.buffer_line)

-- the link of a `link` line, by its id
abbrev pub declared_link : Extent → LinkDecl → ℕ
declared_link g link = link_id (cell_index g link.place) link.dir

-- what is wrong with a `link` line after others
abbrev pub link_faults : Extent → List LinkDecl → LinkDecl → List StaticError
link_faults g earlier link =
    when (is_off_grid g link.place) (E.OutsideGrid link.line)
    ++ when (is_none (neighbour_of g (cell_index g link.place) link.dir)) (E.OutsideGrid link.line)
    ++ when (list_any (λ other. nat_eq (declared_link g other) (declared_link g link)) earlier)
    (E.Twice (W.Link (declared_link g link)) link.line)
    ++ when (is_outside 1 QUEUES link.queues) (E.Limit L.Queues link.line)

-- what is wrong with a route
abbrev pub route_faults : List ℕ → ℕ → Walked → List StaticError
route_faults name line (Ok links) = []
route_faults name line (Err fault) = E.Route name fault line ∷ []

-- what is wrong with a `message` line after others
abbrev pub message_faults : Extent → List MessageDecl → MessageDecl → List StaticError
message_faults g earlier message =
    when (nat_le MESSAGES (length earlier)) (E.Limit L.Messages message.line)
    ++ when (is_among (map (λ (m : MessageDecl). m.name) earlier) message.name)
    (E.Twice (W.Named message.name) message.line)
    ++ when (is_off_grid g message.from) (E.OutsideGrid message.line)
    ++ when (is_off_grid g message.to) (E.OutsideGrid message.line)
    ++ when (nat_eq (cell_index g message.from) (cell_index g message.to)) (E.SelfMessage message.name message.line)
    ++ route_faults message.name message.line
    (route_between g (cell_index g message.from) (cell_index g message.to) message.route)
    ++ when (option_map_or (nat_lt LABEL) message.label false) (E.Limit L.Label message.line)

-- what is wrong with a `var` line after others of its cell, where these are the names of the messages
abbrev pub var_faults : List (List ℕ) → List VarDecl → VarDecl → List StaticError
var_faults messages earlier variable =
    when (is_among messages variable.name || is_among (map (λ (v : VarDecl). v.name) earlier) variable.name)
    (E.Twice (W.Named variable.name) variable.line)
    ++ when (nat_le VARIABLES (length earlier)) (E.Limit L.Names variable.line)
    ++ when (nat_eq (words_of variable) 0 || nat_lt WORDS (total_words (earlier ++ variable ∷ [])))
    (E.Limit L.Words variable.line)

-- what is wrong with a cell after others
abbrev pub cell_faults : WrittenSource → List WrittenCell → WrittenCell → List StaticError
cell_faults source earlier cell =
    let g = extent_of source in
    let index = cell_index g cell.place in
    when (is_off_grid g cell.place) (E.OutsideGrid cell.line)
    ++ when (list_any (λ (c : WrittenCell). nat_eq (cell_index g c.place) index) earlier)
    (E.Twice (W.Cell index) cell.line)
    ++ faults_behind (var_faults (map (λ (m : MessageDecl). m.name) source.messages)) [] cell.vars
    ++ block_faults (scope_of source cell) cell.body

-- what is wrong with a source as plain data
abbrev pub source_faults : WrittenSource → List StaticError
source_faults source =
    array_faults source
    ++ queues_faults source
    ++ faults_behind (link_faults (extent_of source)) [] source.links
    ++ faults_behind (message_faults (extent_of source)) [] source.messages
    ++ faults_behind (cell_faults source) [] source.cells

-- what is wrong with a source: its first fault stands first
abbrev pub faults : Source → List StaticError
faults source = source_faults (written source)

-- The error is the first of these, or want of memory.
abbrev pub IsFirst : List StaticError → StaticError → Type 0
IsFirst [] e = e ≡ E.Memory
IsFirst (first ∷ others) e = (e ≡ first) ⊎ (e ≡ E.Memory)
