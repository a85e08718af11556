use Rattle.std.proofs.Common.{◌≡◌, string_bytes, take}
use Rattle.accept.specs.Needs.{need_lines}
use Rattle.systole_top.proofs.need.need_lines.Given as goal

abbrev pub invariant-loop-line : goal.invariant-loop-line
invariant-loop-line l = string_bytes l.text ≡ need_lines (take l.line-index l.lines)
