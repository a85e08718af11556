-- The lines and the texts of some schedules.
use Rattle.std.specs.Prelude.{◌≡◌, ◌∷◌, [], codes, refl}
use Rattle.std.specs.Fmt.{digits}
use Rattle.sys_base.specs.Actors.{actor_text}
use Rattle.sys_base.specs.declared.actor.Actor.TheVariants.{Cell, Forward, Bind}
use Rattle.schedules.specs.Entries.{lines, entry_lines, schedule_text}

-- an empty line is a line, and behind the last newline there is none
lines_between : lines (codes "c0\n\nb1\n") ≡ codes "c0" ∷ [] ∷ codes "b1" ∷ []
lines_between = refl

-- the last newline may be missing
last_open : lines (codes "c0\nb1") ≡ codes "c0" ∷ codes "b1" ∷ []
last_open = refl

no_lines : lines (codes "") ≡ []
no_lines = refl

one_newline : lines (codes "\n") ≡ [] ∷ []
one_newline = refl

-- only a first line that begins with a brace is passed over
behind_result : entry_lines (codes "{}\n{}\nc0") ≡ codes "{}" ∷ codes "c0" ∷ []
behind_result = refl

result_alone : entry_lines (codes "{}") ≡ []
result_alone = refl

written : schedule_text (Cell 0 ∷ Forward 2 10 ∷ Bind 65535 ∷ []) ≡ codes "c0\nf2.10\nb65535\n"
unfolding digits
written = refl
