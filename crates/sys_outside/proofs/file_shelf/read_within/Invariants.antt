use Rattle.std.proofs.Common.{◌+◌, ◌≤◌, length, vec_capacity}
use Rattle.std.specs.Io.KnownBytes.{Consumes}
use Rattle.sys_outside.proofs.file_shelf.read_within.Given as goal

-- Each turn so far took a byte at least, what is there is what the file gave, and `into` lost no room.
abbrev pub invariant-loop : goal.invariant-loop
invariant-loop g l = record {
  taken : l.counter ≤ length l.into.items;
  within : length l.into.items ≤ l.limit + 1;
  room : vec_capacity l.initial.into ≤ vec_capacity l.into;
  given : Consumes (g.F.Read.remaining l.initial.file) (g.F.Read.remaining l.file) l.into.items;
}
