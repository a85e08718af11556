use Rattle.std.proofs.Common.{◌≡◌, string_bytes, take}
use Rattle.std.specs.List.{All}
use Rattle.schedules.specs.Entries.{IsShort, schedule_text}
use Rattle.schedules.proofs.entries.write_schedule.Given as goal

abbrev pub invariant-loop-entry : goal.invariant-loop-entry
invariant-loop-entry l =
    (string_bytes l.text ≡ schedule_text (take l.entry-index l.entries)) × All IsShort (take l.entry-index l.entries)
