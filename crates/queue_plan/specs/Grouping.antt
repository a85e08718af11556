-- The groups of each link.
use Rattle.std.specs.Prelude.{ℕ, ◌<◌, ◌≤◌, List, [], length, map, slice_index_or, All}
use Rattle.std.specs.List.Sorted.{IsStrictlyIncreasing}
use Rattle.sys_base.specs.declared.limits.TheConstants.{MESSAGES}
use Rattle.cell_types.specs.Code.{ProgramCode}
use Rattle.cell_types.specs.Groups.{link_ids, routes_of, groups}

-- the groups of each link of a program, by the id of the link
abbrev pub all_groups : ProgramCode → List ℕ → List ℕ → List (List (ℕ × List ℕ))
all_groups program labels lengths = map (groups (routes_of program) labels lengths) (link_ids program)

-- the groups of one of these links
abbrev pub groups_at : List (List (ℕ × List ℕ)) → ℕ → List (ℕ × List ℕ)
groups_at links link = slice_index_or links link []

-- A group has 1 to 512 members, in rising order of index.
pub record IsGroup (group : ℕ × List ℕ) : Type 0 where
  pub some : 0 < length group.1
  pub few : length group.1 ≤ MESSAGES
  pub rising : IsStrictlyIncreasing group.1

-- The groups of a link stand in rising order of label, and there are at most 512.
pub record AreGroups (groups : List (ℕ × List ℕ)) : Type 0 where
  pub few : length groups ≤ MESSAGES
  pub labels : IsStrictlyIncreasing (map (λ (g : ℕ × List ℕ). g.0) groups)
  pub each : All IsGroup groups

-- There are at most 1024 links, each with its groups.
pub record IsGroups (links : List (List (ℕ × List ℕ))) : Type 0 where
  pub few : length links ≤ 1024
  pub each : All AreGroups links
