use Rattle.std.proofs.Common.{◌*◌, [], length, arith}
use Rattle.std.proofs.lemmas.List.FromFn.{get_or-map-range_with_len}
use Rattle.sys_base.specs.Grid.{cell_count}
use Rattle.cell_types.specs.Groups.{groups, groups_on, link_ids, routes_of}
use Rattle.queue_plan.proofs.Sizes.{sum_by-map}
use Rattle.queue_plan.proofs.laws.groups_by_link.Goals as goal

pub returns-clause-at : goal.returns-clause-at
returns-clause-at c = λ program labels lengths link l.
    get_or-map-range_with_len (groups (routes_of program) labels lengths) 0 (4 * cell_count program.grid) link link [] l (omega arith)

pub returns-clause-count : goal.returns-clause-count
returns-clause-count c = λ program labels. sum_by-map length (groups_on program labels) (link_ids program)
