-- Words for the checks of a file.
use Rattle.std.specs.Prelude.{ℕ, ℤ, List, map, String, string_bytes}
use Rattle.std.specs.declared.alloc.Global.{Global}
use Rattle.serde_json.specs.Data.{Data}
use Rattle.serde_json.specs.View.{view}
use Rattle.serde_json.specs.declared.value.Value.{Value}
use Rattle.sys_base.specs.Grid.{Extent}
use Rattle.stream_io.specs.Reading.{Breaks, FirstBroken, IsFirstCount, Means}
use Rattle.stream_io.specs.declared.error.InputError.{InputError}
use Rattle.stream_io.specs.declared.error.InputError.TheVariants.{NotJson, NotObject, UnknownCell, NotList, NotInteger, Count, Memory}

-- the keys of a map with the values that they stand for
abbrev pub entries_list : List (String Global × Value) → List (List ℕ × Data)
entries_list entries = map (λ (m : String Global × Value). (string_bytes m.0, view m.1)) entries

-- The member breaks this rule; want of memory says nothing of it.
abbrev pub BreaksMember : Extent → List ℕ → Data → InputError → Type 0
BreaksMember g key value NotJson = ⊥
BreaksMember g key value NotObject = ⊥
BreaksMember g key value (UnknownCell k) = Breaks g key value (UnknownCell k)
BreaksMember g key value (NotList k) = Breaks g key value (NotList k)
BreaksMember g key value (NotInteger k n) = Breaks g key value (NotInteger k n)
BreaksMember g key value (Count cell need has) = ⊥
BreaksMember g key value Memory = Unit {0}

-- The first member that is not good breaks this rule; want of memory says nothing of them.
abbrev pub BreaksSome : Extent → List (List ℕ × Data) → InputError → Type 0
BreaksSome g members NotJson = ⊥
BreaksSome g members NotObject = ⊥
BreaksSome g members (UnknownCell k) = FirstBroken g members (UnknownCell k)
BreaksSome g members (NotList k) = FirstBroken g members (NotList k)
BreaksSome g members (NotInteger k n) = FirstBroken g members (NotInteger k n)
BreaksSome g members (Count cell need has) = ⊥
BreaksSome g members Memory = Unit {0}

-- The bytes mean nothing; want of memory says nothing of them.
abbrev pub BreaksReading : List ℕ → InputError → Type 0
BreaksReading bytes NotJson = (value : Data) → Means bytes value → ⊥
BreaksReading bytes NotObject = ⊥
BreaksReading bytes (UnknownCell k) = ⊥
BreaksReading bytes (NotList k) = ⊥
BreaksReading bytes (NotInteger k n) = ⊥
BreaksReading bytes (Count cell need has) = ⊥
BreaksReading bytes Memory = Unit {0}

-- The first cell with another count is this one; want of memory says nothing of them.
abbrev pub BreaksCount : List ℕ → List (List ℤ) → InputError → Type 0
BreaksCount takes lists NotJson = ⊥
BreaksCount takes lists NotObject = ⊥
BreaksCount takes lists (UnknownCell k) = ⊥
BreaksCount takes lists (NotList k) = ⊥
BreaksCount takes lists (NotInteger k n) = ⊥
BreaksCount takes lists (Count cell need has) = IsFirstCount takes lists cell need has
BreaksCount takes lists Memory = Unit {0}
