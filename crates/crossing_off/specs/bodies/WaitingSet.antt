-- The members of a set of messages, and how they change.
use Rattle.std.specs.Prelude.{ℕ, ◌≡◌, ◌+◌, ◌/◌, ◌%◌, ◌<◌, ◌≤◌, ◌⊎◌, Bool, IsTrue, List, length, nat_eq, filter, slice_index}
use Rattle.std.specs.Int.{bit_at}
use Rattle.sys_base.specs.Groups.{below, is_one_of}
use Rattle.sys_base.specs.declared.limits.TheConstants.{MESSAGES}

-- whether a message's bit is set in the words
abbrev pub has : List ℕ → ℕ → Bool
has words m = nat_eq (bit_at (slice_index words (m / 64)) (m % 64)) 1

-- the numbers below n that pass a test, in order
unfoldable pub passing : (ℕ → Bool) → ℕ → List ℕ
passing test n = filter test (below n)

-- the messages whose bits are set in the words, in order
abbrev pub members : List ℕ → List ℕ
members words = passing (has words) MESSAGES

-- The message is in the set.
abbrev pub IsIn : List ℕ → ℕ → Type 0
IsIn set m = IsTrue (is_one_of set m)

-- The message is the least of the set.
pub record IsLeast (set : List ℕ) (m : ℕ) : Type 0 where
  pub is_in : IsIn set m
  pub least : (k : ℕ) → IsIn set k → m ≤ k

-- The message was added to the set.
pub record AddsTo (old new : List ℕ) (m : ℕ) : Type 0 where
  pub kept : (k : ℕ) → IsIn old k → IsIn new k
  pub added : IsIn new m
  pub only : (k : ℕ) → IsIn new k → IsIn old k ⊎ (k ≡ m)
  pub len : length new ≤ length old + 1

-- The message was taken out of the set.
pub record Removes (old new : List ℕ) (m : ℕ) : Type 0 where
  pub others : (k : ℕ) → IsIn old k → (k ≡ m) ⊎ IsIn new k
  pub only : (k : ℕ) → IsIn new k → IsIn old k
  pub len : length new < length old

-- The message was the least of the set, and was taken out.
pub record TakesLeast (old new : List ℕ) (m : ℕ) : Type 0 where
  pub was : IsIn old m
  pub least : (k : ℕ) → IsIn old k → m ≤ k
  pub others : (k : ℕ) → IsIn old k → (k ≡ m) ⊎ IsIn new k
  pub only : (k : ℕ) → IsIn new k → IsIn old k
  pub len : length new < length old

-- Nothing was in the set, and nothing is.
pub record IsUsedUp (old new : List ℕ) : Type 0 where
  pub before : (k : ℕ) → IsIn old k → ⊥
  pub after : (k : ℕ) → IsIn new k → ⊥
  pub len : length new ≤ length old
