-- The number of a message's group.
use Rattle.std.specs.Prelude.{ℕ, suc, cond, List, [], ◌∷◌}
use Rattle.sys_base.specs.Groups.{is_one_of}

-- how many groups stand before the first one that has a message
abbrev pub group_of : ℕ → List (List ℕ) → ℕ
group_of m [] = 0
group_of m (g ∷ gs) = cond (is_one_of g m) 0 (suc (group_of m gs))
