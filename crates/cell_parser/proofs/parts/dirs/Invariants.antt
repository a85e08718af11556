use Rattle.std.proofs.Common.{ℕ, ◌≤◌, List, Option, length}
use Rattle.sys_base.specs.declared.kinds.Dir.{Dir}
use Rattle.cell_parser.specs.Inner.Declaring.{Comes, first_dir}
use Rattle.cell_parser.specs.Inner.Machine.{State, Dirs}
use Rattle.cell_parser.specs.Inner.Reading.{AreTokens}
use Rattle.cell_parser.proofs.parts.dirs.Given as goal

-- the directions so far have been read up to the rest
abbrev pub invariant-each : goal.invariant-each
invariant-each l = record {
  comes : (f : List Dir → Option ℕ → State) → Comes l.text (first_dir f) l.fn.tokens (Dirs l.dirs f) l.rest;
  shorter : length l.rest ≤ length l.fn.tokens;
  kept : AreTokens l.text l.rest;
}

abbrev pub decreases-each : goal.decreases-each
decreases-each l = length l.rest
