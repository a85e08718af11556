-- The members of the groups of a link.
use Rattle.std.specs.Prelude.{ℕ, ◌<◌, List, [], IsTrue, IsSomeAnd, length, slice_get, slice_index, slice_index_or}
use Rattle.sys_base.specs.Groups.{is_one_of}

-- The message is a member of the group at this place, among the groups of a link.
abbrev pub HasMember : List (ℕ × List ℕ) → ℕ → ℕ → Type 0
HasMember groups place message = IsSomeAnd (slice_get groups place) (λ group. IsTrue (is_one_of group.1 message))

-- The message is one of these, it has a length of at least 1, and its route has the link.
pub record IsUser (routes : List (List ℕ)) (lengths : List ℕ) (link message : ℕ) : Type 0 where
  pub known : message < length routes
  pub some : 0 < slice_index lengths message
  pub over : IsTrue (is_one_of (slice_index_or routes message []) link)
