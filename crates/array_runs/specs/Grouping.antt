-- Arrays whose groups come of routes, labels and lengths.
use Rattle.std.specs.Prelude.{ℕ, ◌≡◌, ◌<◌, ◌≤◌, List, [], length, map, slice_index, slice_index_or}
use Rattle.sys_base.specs.Groups.{groups, need}
use Rattle.array_runs.specs.Frame.{Frame}

-- The messages have these routes, labels and lengths, the groups of each link are those that come of them, and no
-- link has fewer queues than its need.
pub record GroupsCome (p : Frame) (routes : List (List ℕ)) (labels lengths : List ℕ) : Type 0 where
  pub messages : p.messages ≡ length routes
  pub route : (m : ℕ) → m < p.messages → p.route m ≡ slice_index_or routes m []
  pub label : (m : ℕ) → m < p.messages → p.label m ≡ slice_index labels m
  pub words : (m : ℕ) → m < p.messages → p.words m ≡ slice_index lengths m
  pub groups_of : (l : ℕ) → p.groups l ≡ map (λ group. group.1) (groups routes labels lengths l)
  pub enough : (l : ℕ) → need routes labels lengths l ≤ p.queues l
