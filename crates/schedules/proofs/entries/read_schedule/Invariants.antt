use Rattle.std.proofs.Common.{◌≡◌, ◌≤◌, ◌+◌, ◌++◌, ℕ, length, map, vec_len}
use Rattle.std.specs.List.{All}
use Rattle.sys_base.specs.Actors.{actor_text}
use Rattle.schedules.specs.Entries.{IsShort, entry_lines, lines}
use Rattle.schedules.proofs.entries.read_schedule.Given as goal

abbrev pub invariant-lines : goal.invariant-lines
invariant-lines l = (entry_lines l.bytes ≡ map actor_text l.entries.items ++ lines l.rest) × All IsShort l.entries.items
    × (l.passed + vec_len l.entries + length l.rest ≤ length l.bytes)

abbrev pub decreases-lines : goal.decreases-lines
decreases-lines l = length l.rest
