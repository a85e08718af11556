-- The text of a schedule.
use Rattle.std.specs.Prelude.{ℕ, ◌≡◌, ◌+◌, ◌^◌, ◌==◌, ◌<◌, List, [], ◌∷◌, ◌++◌, map, drop, length, codes, All, slice_index, if◌then◌else◌}
use Rattle.std.specs.List.{flat_map, onto_first}
use Rattle.sys_base.specs.Actors.{actor_text}
use Rattle.sys_base.specs.declared.actor.Actor.{Actor}
use Rattle.sys_base.specs.declared.actor.Actor.TheVariants.{Cell, Forward, Bind}
use Rattle.schedules.specs.declared.error.ScheduleError.{ScheduleError}
use Rattle.schedules.specs.declared.error.ScheduleError.TheVariants.{BadLine, Memory}

-- the lines of some bytes: a newline ends each, and may be missing after the last one
abbrev pub lines : List ℕ → List (List ℕ)
lines [] = []
lines (b ∷ bytes) = if b == 10 then [] ∷ lines bytes else onto_first b (lines bytes)

-- how many lines are passed over: the first one, where it begins with `{`
abbrev pub passed_over : List ℕ → ℕ
passed_over bytes = if slice_index bytes 0 == 123 then 1 else 0

-- the lines that are read as entries
abbrev pub entry_lines : List ℕ → List (List ℕ)
entry_lines bytes = drop (passed_over bytes) (lines bytes)

-- Each number of the actor is at most 65535.
abbrev pub IsShort : Actor → Type 0
IsShort (Cell cell) = cell < 2 ^ 16
IsShort (Forward message hop) = (message < 2 ^ 16) × (hop < 2 ^ 16)
IsShort (Bind link) = link < 2 ^ 16

-- The bytes have these entries: the lines are their texts, in order.
pub record HasEntries (bytes : List ℕ) (entries : List Actor) : Type 0 where
  pub texts : entry_lines bytes ≡ map actor_text entries
  pub short : All IsShort entries

-- The line is the text of no entry.
abbrev pub IsMalformed : List ℕ → Type 0
IsMalformed line = (entry : Actor) → IsShort entry → line ≡ actor_text entry → ⊥

-- The lines that are read are the texts of these entries, then this malformed one, and then others.
pub record IsBadBehind (bytes : List ℕ) (entries : List Actor) (line : List ℕ) (others : List (List ℕ)) : Type 0 where
  pub texts : entry_lines bytes ≡ map actor_text entries ++ line ∷ others
  pub short : All IsShort entries
  pub malformed : IsMalformed line

-- This line, from 1, is the first malformed one: those before it that are read are entries.
abbrev pub IsFirstBadLine : List ℕ → ℕ → Type 0
IsFirstBadLine bytes n = (entries : List Actor) × (line : List ℕ) × (others : List (List ℕ))
    × (n ≡ passed_over bytes + length entries + 1) × IsBadBehind bytes entries line others

-- The error is what is wrong with the bytes; want of memory says nothing of them.
abbrev pub Refuses : List ℕ → ScheduleError → Type 0
Refuses bytes (BadLine n) = IsFirstBadLine bytes n
Refuses bytes Memory = Unit {0}

-- the text of entries, a newline after each
abbrev pub schedule_text : List Actor → List ℕ
schedule_text = flat_map (λ entry. actor_text entry ++ codes "\n")
