-- Counts of calls, of faults and of puts that wanted memory. A count that stands at the last value of its type stays
-- there.
use Rattle.std.specs.Prelude.{ℕ, ◌+◌, ◌-◌, ◌^◌, ◌≤◌, min}

-- a count after one more
abbrev pub one_more : ℕ → ℕ
one_more count = min (count + 1) (2 ^ 64 - 1)

-- the number of the call that follows
abbrev pub next_call : ℕ → ℕ
next_call call = min (call + 1) (2 ^ 32 - 1)

-- A count of faults rose. One that stood at its last value counts as risen.
abbrev pub Rose : ℕ → ℕ → Type 0
Rose before now = one_more before ≤ now
