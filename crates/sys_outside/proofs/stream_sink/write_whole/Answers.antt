use Rattle.std.proofs.Common.{arith, ◌≡◌, ◌-◌, length, take, drop}
use Rattle.std.proofs.lemmas.List.{take_rest}
use Rattle.std.proofs.lemmas.Grind.{common_steps}
use Rattle.sys_outside.proofs.Written.{written_more, written_some, written_first}
use Rattle.sys_outside.proofs.stream_sink.write_whole.Goals as goal

pub loop-preserved : goal.loop-preserved
loop-preserved g c =
    let rest = c.loop.rest.now in
    let n = c.in-Ok.count in
    let left : take (length rest - n) (drop n rest) ≡ drop n rest = take_rest rest n in
    let contents = g.W.Write.contents in
    record {
      taken = grind (arith, common_steps);
      written = written_more (contents c.args.writer.now) (contents c.loop.writer) (contents c.write.new.self) c.args.bytes.now c.loop.invariant.written.0 rest _ n c.loop.invariant.written.1 left c.loop.invariant.written.2 c.in-Ok.ensures.bytes;
    }

pub returns-in-Ok-eq0-clause-writes : goal.returns-in-Ok-eq0-clause-writes
returns-in-Ok-eq0-clause-writes g c =
    let contents = g.W.Write.contents in
    written_some (contents c.args.writer.now) (contents c.loop.writer) (contents c.write.new.self) c.args.bytes.now c.loop.invariant.written.0 c.loop.rest.now _ c.loop.invariant.written.1 c.loop.invariant.written.2 c.in-Ok-eq0.ensures.bytes

pub returns-in-Err-clause-writes : goal.returns-in-Err-clause-writes
returns-in-Err-clause-writes g c =
    let contents = g.W.Write.contents in
    written_first (contents c.args.writer.now) (contents c.loop.writer) (contents c.write.new.self) c.args.bytes.now c.loop.invariant.written.0 c.loop.rest.now c.loop.invariant.written.1 c.loop.invariant.written.2 c.in-Err.ensures.bytes

pub returns-in-Err-flush-clause-writes : goal.returns-in-Err-flush-clause-writes
returns-in-Err-flush-clause-writes g c =
    let contents = g.W.Write.contents in
    written_first (contents c.args.writer.now) (contents c.loop.writer) (contents c.flush.new.self) c.args.bytes.now c.loop.invariant.written.0 c.loop.rest.now c.loop.invariant.written.1 c.loop.invariant.written.2 c.in-Err-flush.ensures.bytes
