-- What a fetch leaves.
use Rattle.std.specs.Prelude.{ℕ, ◌≡◌, ◌+◌, ◌<◌, ◌≤◌, List, length, take, Option, IfSome, Result, Ok, Err, ⊤}
use Rattle.sys_outside.specs.declared.shelf.Fetched.{Fetched}
use Rattle.sys_outside.specs.declared.shelf.Fetched.TheVariants.{Whole, Longer}
use Rattle.sys_outside.specs.declared.shelf.ShelfError.{ShelfError}
use Rattle.sys_outside.specs.declared.shelf.ShelfError.TheVariants.{Failed, Memory}
use Rattle.sys_outside.specs.Fault.{one_more}

-- The bytes are the whole file, which has at most `limit` bytes, or the first `limit + 1` bytes of a longer one.
abbrev pub Fetches : Option (List ℕ) → ℕ → List ℕ → Result Fetched ShelfError → Type 0
Fetches told limit bytes (Ok Whole) = (length bytes ≤ limit) × IfSome told (λ file. file ≡ bytes)
Fetches told limit bytes (Ok Longer) =
    (length bytes ≡ limit + 1) × IfSome told (λ file. (limit < length file) × (bytes ≡ take (limit + 1) file))
Fetches told limit bytes (Err _) = ⊤

-- a count of faults after a fetch that ended so
abbrev pub faults_after_fetch : ℕ → Result Fetched ShelfError → ℕ
faults_after_fetch count (Ok _) = count
faults_after_fetch count (Err Failed) = one_more count
faults_after_fetch count (Err Memory) = count
