use Rattle.std.proofs.Common.{◌≡◌, ◌<◌, ◌++◌, [], ◌∷◌, if◌then◌else◌, length, take, slice_index_or, ℕ}
use Rattle.cell_types.specs.Groups.{is_one_of}
use Rattle.queue_plan.proofs.users.add_user.Given as goal

abbrev pub invariant-loop-link : goal.invariant-loop-link
invariant-loop-link l =
    (k : ℕ) → k < length l.fn.users
    → slice_index_or l.users k [] ≡ slice_index_or l.fn.users k [] ++ (if is_one_of (take l.link-index l.route) k then l.message ∷ [] else [])
