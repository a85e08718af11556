-- The lines of the links that have a group, read off the groups of all links.
use Rattle.std.specs.Prelude.{ℕ, Bool, List, filter, is_some, length, map, slice_get, slice_index, take}
use Rattle.std.specs.Option.{option_map}
use Rattle.sys_base.specs.Names.{link_name}
use Rattle.cell_types.specs.Code.{ProgramCode}
use Rattle.cell_types.specs.Groups.{greatest, link_ids}
use Rattle.queue_plan.specs.Grouping.{groups_at}
use Rattle.accept.specs.declared.needing.NeedLine.{NeedLine}

-- whether a link has a group: whether its first one has a label
abbrev pub has_at : List (List (ℕ × List ℕ)) → ℕ → Bool
has_at links link = is_some (option_map (λ (g : ℕ × List ℕ). g.0) (slice_get (groups_at links link) 0))

-- the line of a link
abbrev pub need_at : ProgramCode → List (List (ℕ × List ℕ)) → ℕ → NeedLine
need_at program links link =
    let name = link_name program.grid.cols link in
    record {
      row = name.cell.row;
      col = name.cell.col;
      dir = name.dir;
      need = greatest (map (λ (g : ℕ × List ℕ). length g.1) (groups_at links link));
      has = slice_index program.queues link;
    }

-- the lines of the links with ids below a number
abbrev pub lines_below : ProgramCode → List (List (ℕ × List ℕ)) → ℕ → List NeedLine
lines_below program links n = map (need_at program links) (filter (has_at links) (take n (link_ids program)))
