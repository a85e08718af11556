-- The parts of what can be wrong with declarations, and what tables of declarations have.
use Rattle.std.specs.Prelude.{ℕ, ◌≡◌, ◌*◌, ◌<◌, ◌≤◌, false, List, ◌++◌, nat_eq, nat_lt, nat_le, length, map, find, slice_index, slice_index_or, All, Bool}
use Rattle.std.specs.List.{list_any}
use Rattle.std.specs.Option.{option_map_or}
use Rattle.sys_base.specs.Grid.{Extent, cell_count}
use Rattle.sys_base.specs.declared.kinds.Limit.TheVariants as L
use Rattle.sys_base.specs.declared.limits.TheConstants.{BUFFER, QUEUES, MESSAGES, LABEL}
use Rattle.cell_tree.specs.declared.source.LinkDecl.{LinkDecl}
use Rattle.cell_tree.specs.declared.source.MessageDecl.{MessageDecl}
use Rattle.cell_tree.specs.declared.source.Place.{Place}
use Rattle.cell_types.specs.Faults.{is_outside, is_off_grid, declared_link, route_faults}
use Rattle.cell_types.specs.Names.{is_among, cell_index, extent_of}
use Rattle.cell_types.specs.Resolved.{links_of}
use Rattle.cell_types.specs.Route.{route_between}
use Rattle.cell_types.specs.Statics.{when}
use Rattle.cell_types.specs.Written.{WrittenCell, WrittenSource}
use Rattle.cell_types.specs.declared.error.StaticError.{StaticError}
use Rattle.cell_types.specs.declared.error.StaticError.TheVariants as E
use Rattle.cell_types.specs.declared.error.What.TheVariants as W
use Rattle.cell_types.specs.declared.program.Message.{Message}
use Rattle.cell_types.specs.declared.table.Ends.{Ends}

-- what is wrong with a number of queues on a line
abbrev pub count_faults : ℕ → ℕ → List StaticError
count_faults queues line = when (is_outside 1 QUEUES queues) (E.Limit L.Queues line)

-- what is wrong with the number of a `buffer` line
abbrev pub buffer_faults : ℕ → ℕ → List StaticError
buffer_faults buffer line = when (nat_lt BUFFER buffer) (E.Limit L.Buffer line)

-- the queues that the line of a link gives, by its id; 0 where it has no line
abbrev pub own_queues : Extent → List LinkDecl → ℕ → ℕ
own_queues g links link =
    option_map_or (λ (l : LinkDecl). l.queues) (find (λ l. nat_eq (declared_link g l) link) links) 0

-- The table has the queues that the lines of links give, which is 1 at least for each line.
pub record HasOwnQueues (g : Extent) (links : List LinkDecl) (table : List ℕ) : Type 0 where
  pub size : length table ≡ 4 * cell_count g
  pub each : (link : ℕ) → link < 4 * cell_count g → slice_index table link ≡ own_queues g links link
  pub some : All (λ (l : LinkDecl). 1 ≤ l.queues) links

-- The grid, the usual queues and those that lines of links give are those of a source.
pub record HasQueuesOf (source : WrittenSource) (g : Extent) (queues : ℕ) (table : List ℕ) : Type 0 where
  pub grid : g ≡ extent_of source
  pub usual : queues ≡ source.queues
  pub own : HasOwnQueues g source.links table

-- the names of some messages
abbrev pub names_of : List MessageDecl → List (List ℕ)
names_of messages = map (λ (m : MessageDecl). m.name) messages

-- what is wrong with one message more, and with its name, where these are the names of the messages before it
abbrev pub naming_faults : List (List ℕ) → MessageDecl → List StaticError
naming_faults names message =
    when (nat_le MESSAGES (length names)) (E.Limit L.Messages message.line)
    ++ when (is_among names message.name) (E.Twice (W.Named message.name) message.line)

-- the ends of a message
abbrev pub ends_of : Extent → MessageDecl → Ends
ends_of g message = record { from = cell_index g message.from; to = cell_index g message.to }

-- what is wrong with the ends of a message
abbrev pub ends_faults : Extent → MessageDecl → List StaticError
ends_faults g message =
    when (is_off_grid g message.from) (E.OutsideGrid message.line)
    ++ when (is_off_grid g message.to) (E.OutsideGrid message.line)
    ++ when (nat_eq (cell_index g message.from) (cell_index g message.to)) (E.SelfMessage message.name message.line)

-- what is wrong with the route of a message between its ends, and with its label
abbrev pub way_faults : Extent → Ends → MessageDecl → List StaticError
way_faults g ends message =
    route_faults message.name message.line (route_between g ends.from ends.to message.route)
    ++ when (option_map_or (nat_lt LABEL) message.label false) (E.Limit L.Label message.line)

-- a message between these ends
abbrev pub message_between : Extent → Ends → MessageDecl → Message
message_between g ends message =
    record {
      name = message.name;
      from = ends.from;
      to = ends.to;
      route = links_of (route_between g ends.from ends.to message.route);
      label = message.label;
    }

-- what is wrong with the place of a cell after others
abbrev pub place_faults : Extent → List WrittenCell → Place → ℕ → List StaticError
place_faults g earlier place line =
    when (is_off_grid g place) (E.OutsideGrid line)
    ++ when (list_any (λ (c : WrittenCell). nat_eq (cell_index g c.place) (cell_index g place)) earlier)
    (E.Twice (W.Cell (cell_index g place)) line)

-- The table marks just the cells that are declared, by their indices.
pub record HasMarks (g : Extent) (cells : List WrittenCell) (marks : List Bool) : Type 0 where
  pub size : length marks ≡ cell_count g
  pub each : (index : ℕ) → index < cell_count g
      → slice_index_or marks index false ≡ list_any (λ (c : WrittenCell). nat_eq (cell_index g c.place) index) cells
