-- The groups of a program's messages on each link, and the bound on its steps.
pub use Rattle.sys_base.specs.Groups.{below, greatest, is_one_of, rising, users, labelled, groups, need}
use Rattle.std.specs.Prelude.{ℕ, ◌+◌, ◌-◌, ◌*◌, List, [], length, map, sum_by, slice_index_or}
use Rattle.sys_base.specs.Grid.{cell_count}
use Rattle.cell_types.specs.Code.{ProgramCode}
use Rattle.cell_types.specs.Communications.{length_of}
use Rattle.cell_types.specs.Cost.{cells_cost}
use Rattle.cell_types.specs.declared.program.Message.{Message}

-- the ids of all links that a program's grid has room for
abbrev pub link_ids : ProgramCode → List ℕ
link_ids program = below (4 * cell_count program.grid)

-- the route of each message
abbrev pub routes_of : ProgramCode → List (List ℕ)
routes_of program = map (λ (m : Message). m.route) program.messages

-- the route of a message, by its index
abbrev pub route : ProgramCode → ℕ → List ℕ
route program message = slice_index_or (routes_of program) message []

-- the lengths of all messages
abbrev pub lengths_of : ProgramCode → List ℕ
lengths_of program = map (length_of program) (below (length program.messages))

-- the groups of a link, where these are the labels of the program's messages
abbrev pub groups_on : ProgramCode → List ℕ → ℕ → List (ℕ × List ℕ)
groups_on program labels link = groups (routes_of program) labels (lengths_of program) link

-- how often words move from one link to the next: each word of a message on each link of its route but the first
abbrev pub forwards : ProgramCode → ℕ
forwards program =
    sum_by (λ message. length_of program message * (length (route program message) - 1))
    (below (length program.messages))

-- how many groups all links have
abbrev pub group_count : ProgramCode → List ℕ → ℕ
group_count program labels = sum_by (λ link. length (groups_on program labels link)) (link_ids program)

-- the bound on the steps of a program, where these are the labels of its messages
abbrev pub bound : ProgramCode → List ℕ → ℕ
bound program labels = cells_cost program + forwards program + group_count program labels
