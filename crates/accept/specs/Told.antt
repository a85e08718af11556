-- How refusals are told: cells, links and messages by their names.
use Rattle.std.specs.Prelude.{ℕ, ◌/◌, ◌%◌, List, [], ◌∷◌, ◌++◌, map, slice_get, slice_index, Option, Some, None}
use Rattle.std.specs.Option.{option_map_or}
use Rattle.sys_base.specs.Grid.{row_of, col_of}
use Rattle.sys_base.specs.Names.{cell_name, link_name}
use Rattle.sys_base.specs.declared.places.CellName.{CellName}
use Rattle.cell_types.specs.Code.{ProgramCode}
use Rattle.cell_types.specs.declared.error.Found.{Found}
use Rattle.cell_types.specs.declared.error.Found.TheVariants as F
use Rattle.cell_types.specs.declared.error.RouteFault.TheVariants as P
use Rattle.cell_types.specs.declared.error.StaticError.{StaticError}
use Rattle.cell_types.specs.declared.error.StaticError.TheVariants as S
use Rattle.cell_types.specs.declared.error.What.{What}
use Rattle.cell_types.specs.declared.error.What.TheVariants as T
use Rattle.cell_types.specs.declared.program.Message.{Message}
use Rattle.comm_sequence.specs.Sequences.{message_of}
use Rattle.comm_sequence.specs.declared.comm.Comm.{Comm}
use Rattle.comm_sequence.specs.declared.comm.Comm.TheVariants as C
use Rattle.crossing_off.specs.declared.waits.Wait.{Wait}
use Rattle.crossing_off.specs.declared.waits.WalkEnd.{WalkEnd}
use Rattle.crossing_off.specs.declared.waits.WalkEnd.TheVariants.{Again, NothingLeft}
use Rattle.labelling.specs.declared.falls.Fall.{Fall}
use Rattle.queue_plan.specs.declared.lack.Lack.{Lack}
use Rattle.refusals.specs.declared.refusal.Refusal.{Refusal}
use Rattle.refusals.specs.declared.refusal.Refusal.TheVariants as R
use Rattle.refusals.specs.declared.refusal.Twice.{Twice}
use Rattle.refusals.specs.declared.refusal.Twice.TheVariants as W
use Rattle.refusals.specs.declared.walk.WalkLine.{WalkLine}
use Rattle.refusals.specs.declared.walk.WalkLine.TheVariants as L

-- what stands twice in a source whose grid has this number of columns
abbrev pub twice : ℕ → What → Twice
twice cols (T.Named name) = W.Named name
twice cols (T.Cell cell) = W.Cell (cell_name cols cell)
twice cols (T.Link link) = W.Link (link_name cols link)

-- the number of a kind
abbrev pub kind_number : Found → ℕ
kind_number F.Message = 0
kind_number F.Variable = 1
kind_number F.Array = 2
kind_number F.Counter = 3

-- the refusal of a static fault of a source whose grid has this number of columns; want of memory has none
abbrev pub static_refusal : ℕ → StaticError → Option Refusal
static_refusal cols (S.Limit limit line) = Some (R.Limit limit line)
static_refusal cols (S.Twice what line) = Some (R.Twice (twice cols what) line)
static_refusal cols (S.OutsideGrid line) = Some (R.OutsideGrid line)
static_refusal cols (S.SelfMessage name line) = Some (R.SelfMessage name line)
static_refusal cols (S.Unknown name line) = Some (R.Unknown name line)
static_refusal cols (S.WrongEnd name cell sends line) = Some (R.WrongEnd name (cell / cols) (cell % cols) sends line)
static_refusal cols (S.WrongKind name found line) = Some (R.WrongKind name (kind_number found) line)
static_refusal cols (S.Route name P.LeavesGrid line) = Some (R.RouteLeaves name line)
static_refusal cols (S.Route name P.WrongEnd line) = Some (R.RouteEnd name line)
static_refusal cols (S.Route name (P.LinkTwice link) line) = Some (R.RouteTwice name (link_name cols link) line)
static_refusal cols S.Memory = None

-- the name of a message by its index
abbrev pub message_name : ProgramCode → ℕ → List ℕ
message_name program message = option_map_or (λ (m : Message). m.name) (slice_get program.messages message) []

-- A cell waits with its first operation, which is of this message, for its partner.
abbrev pub waiting : Comm → CellName → List ℕ → CellName → WalkLine
waiting (C.Write _) cell message partner = L.WaitsToWrite cell message partner
waiting (C.Read _) cell message partner = L.WaitsToRead cell message partner

-- the line of a wait
abbrev pub wait_line : ProgramCode → Wait → WalkLine
wait_line program wait =
    waiting wait.front (cell_name program.grid.cols wait.cell) (message_name program (message_of wait.front))
    (cell_name program.grid.cols wait.partner)

-- the line of the end of a walk
abbrev pub end_line : ProgramCode → WalkEnd → WalkLine
end_line program (Again cell) = L.Again (cell_name program.grid.cols cell)
end_line program (NothingLeft cell) = L.NothingLeft (cell_name program.grid.cols cell)

-- the lines of a walk: one for each wait, and that of the end
abbrev pub walk_lines : ProgramCode → List Wait → WalkEnd → List WalkLine
walk_lines program waits end = map (wait_line program) waits ++ end_line program end ∷ []

-- the refusal of a fall of these labels
abbrev pub fall_refusal : ProgramCode → List ℕ → Fall → Refusal
fall_refusal program labels fall =
    R.Fall (row_of program.grid fall.cell) (col_of program.grid fall.cell) fall.at
    (message_name program fall.before) (slice_index labels fall.before)
    (message_name program fall.after) (slice_index labels fall.after)

-- the refusal of a link that lacks queues for a group with these members
abbrev pub lack_refusal : ProgramCode → Lack → List ℕ → Refusal
lack_refusal program lack members =
    R.TooFew (link_name program.grid.cols lack.link) lack.label lack.need lack.has (map (message_name program) members)
