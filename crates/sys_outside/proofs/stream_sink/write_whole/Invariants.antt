use Rattle.std.proofs.Common.{◌≡◌, ◌+◌, ◌≤◌, ◌++◌, List, ℕ, length}
use Rattle.std.specs.Io.KnownBytes.{Appends}
use Rattle.sys_outside.proofs.stream_sink.write_whole.Given as goal

-- Each turn so far took a byte at least, and the writer has what isn't left.
abbrev pub invariant-loop : goal.invariant-loop
invariant-loop g l = record {
  taken : l.counter + length l.rest ≤ length l.bytes;
  written : (done : List ℕ) × (l.bytes ≡ done ++ l.rest) × Appends (g.W.Write.contents l.initial.writer) (g.W.Write.contents l.writer) done;
}
